use Rattle.std.proofs.Common.{IfOk, IfErr, subst, sym}
use Rattle.wesl_tree_names.specs.Path.{path_view}
use Rattle.wesl_tree_names.specs.Errors.{OrMemory}
use Rattle.wesl_tree_syntax.specs.Unit.{spelled}
use Rattle.wesl_tree.specs.Translation.{unit_view}
use Rattle.wesl_resolve_base.specs.Resolver.{MeansTheSame}
use Rattle.wesl_resolve_base.proofs.boxes.BoxResolver.resolve_module.Goals as goal

pub resolve_module-requires-clause-asked : goal.resolve_module-requires-clause-asked
resolve_module-requires-clause-asked g c = subst (λ inner. g.T.Resolver.ready inner) (sym c.deref_mut.ensures.value) c.requires.asked

pub resolve_module-requires-clause-rooted : goal.resolve_module-requires-clause-rooted
resolve_module-requires-clause-rooted g c = c.requires.rooted

pub returns-clause-handed : goal.returns-clause-handed
returns-clause-handed g c =
    subst (λ inner. IfOk c.resolve_module.result (λ u. g.T.Resolver.hands inner (path_view c.args.path.now) (spelled (unit_view u)))) c.deref_mut.ensures.value c.resolve_module.ensures.handed

pub returns-clause-refused : goal.returns-clause-refused
returns-clause-refused g c =
    subst (λ inner. IfErr c.resolve_module.result (OrMemory (g.T.Resolver.refuses inner (path_view c.args.path.now)))) c.deref_mut.ensures.value c.resolve_module.ensures.refused

pub returns-clause-same : goal.returns-clause-same
returns-clause-same g c =
    let same = subst (λ inner. MeansTheSame g.T.Resolver.hands g.T.Resolver.refuses g.T.Resolver.source g.T.Resolver.lacks g.T.Resolver.shown inner c.resolve_module.new.self) c.deref_mut.ensures.value c.resolve_module.ensures.same in
    record { units = same.units; faults = same.faults; sources = same.sources; missing = same.missing; names = same.names }

pub returns-clause-stays_ready : goal.returns-clause-stays_ready
returns-clause-stays_ready g c = c.resolve_module.ensures.stays_ready
