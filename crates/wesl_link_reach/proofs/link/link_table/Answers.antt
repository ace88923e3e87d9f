use Rattle.std.proofs.Common.{refl, sym, ◌∙◌}
use Rattle.wesl_link_reach.specs.Linking.{task_of}
use Rattle.wesl_link_reach.proofs.Ends.{zero_refused, root_crowded, root_refused}
use Rattle.wesl_link_reach.proofs.link.link_table.Goals as goal

pub returns-then-max_modules-eq0-clause-refused : goal.returns-then-max_modules-eq0-clause-refused
returns-then-max_modules-eq0-clause-refused g c =
    zero_refused (g.L.Loader.hands c.args.loader.now) (g.L.Loader.refuses c.args.loader.now) c.args.root (task_of c.args.root c.args.kept.items c.args.is_eager) c.args.max_modules refl c.if-max_modules-eq0.true

pub returns-in-Some-clause-refused : goal.returns-in-Some-clause-refused
returns-in-Some-clause-refused g c =
    rw c.path-in-Some.ensures (root_refused (g.L.Loader.hands c.args.loader.now) (g.L.Loader.refuses c.args.loader.now) c.args.root (task_of c.args.root c.args.kept.items c.args.is_eager) c.args.max_modules c.in-Some.name refl c.in-Some.ensures.clash)

pub returns-then-is_crowded-clause-refused : goal.returns-then-is_crowded-clause-refused
returns-then-is_crowded-clause-refused g c =
    rw c.path.ensures (root_crowded (g.L.Loader.hands c.args.loader.now) (g.L.Loader.refuses c.args.loader.now) c.args.root (task_of c.args.root c.args.kept.items c.args.is_eager) c.args.max_modules refl (sym c.is_crowded.ensures ∙ c.if-is_crowded.true))

pub link-requires-clause-admitted : goal.link-requires-clause-admitted
link-requires-clause-admitted g c = record { clear = c.in_default.ensures.none; roomy = sym c.is_crowded.ensures ∙ c.if-is_crowded.false }
