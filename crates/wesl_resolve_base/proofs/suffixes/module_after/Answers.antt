use Rattle.std.proofs.Common.{IfOk, IfErr, subst, inl, refl}
use Rattle.wesl_tree_names.specs.Path.{Path, path_view}
use Rattle.wesl_tree_names.specs.Errors.{OrMemory}
use Rattle.wesl_tree_syntax.specs.Unit.{spelled}
use Rattle.wesl_tree.specs.Translation.{unit_view}
use Rattle.wesl_resolve_base.proofs.ResultLemmas.{means-itself}
use Rattle.wesl_resolve_base.proofs.SuffixLemmas.{rooted-at}
use Rattle.wesl_resolve_base.proofs.suffixes.module_after.Goals as goal

pub path_after-requires : goal.path_after-requires
path_after-requires g c = c.requires.within

pub resolve_module-requires-clause-asked : goal.resolve_module-requires-clause-asked
resolve_module-requires-clause-asked g c = c.requires.asked

pub resolve_module-requires-clause-rooted : goal.resolve_module-requires-clause-rooted
resolve_module-requires-clause-rooted g c = rooted-at c.args.count (path_view c.args.path.now) c.in-Some.after c.in-Some.ensures

pub returns-in-Some-clause-handed : goal.returns-in-Some-clause-handed
returns-in-Some-clause-handed g c =
    let At : Path → Type 0 = λ p. IfOk c.resolve_module.result (λ u. g.R.Resolver.hands c.args.resolver.now p (spelled (unit_view u))) in
    subst At c.in-Some.ensures c.resolve_module.ensures.handed

pub returns-in-Some-clause-refused : goal.returns-in-Some-clause-refused
returns-in-Some-clause-refused g c =
    let At : Path → Type 0 = λ p. IfErr c.resolve_module.result (OrMemory (g.R.Resolver.refuses c.args.resolver.now p)) in
    subst At c.in-Some.ensures c.resolve_module.ensures.refused

pub returns-in-Some-clause-same : goal.returns-in-Some-clause-same
returns-in-Some-clause-same g c = c.resolve_module.ensures.same

pub returns-in-Some-clause-stays_ready : goal.returns-in-Some-clause-stays_ready
returns-in-Some-clause-stays_ready g c = c.resolve_module.ensures.stays_ready

pub returns-in-None-clause-handed : goal.returns-in-None-clause-handed
returns-in-None-clause-handed g c = tt

pub returns-in-None-clause-refused : goal.returns-in-None-clause-refused
returns-in-None-clause-refused g c = inl refl

pub returns-in-None-clause-same : goal.returns-in-None-clause-same
returns-in-None-clause-same g c = means-itself g.R.Resolver.hands g.R.Resolver.refuses g.R.Resolver.source g.R.Resolver.lacks g.R.Resolver.shown c.args.resolver.now

pub returns-in-None-clause-stays_ready : goal.returns-in-None-clause-stays_ready
returns-in-None-clause-stays_ready g c = c.requires.asked
