use Rattle.std.proofs.Common.{string_bytes, IfOk, IfErr, subst, inl, refl}
use Rattle.wesl_tree_names.specs.Path.{Path, path_view}
use Rattle.wesl_tree_names.specs.Errors.{OrMemory}
use Rattle.wesl_resolve_base.proofs.ResultLemmas.{means-itself}
use Rattle.wesl_resolve_base.proofs.SuffixLemmas.{rooted-at}
use Rattle.wesl_resolve_base.proofs.suffixes.source_after.Goals as goal

pub path_after-requires : goal.path_after-requires
path_after-requires g c = c.requires.within

pub resolve_source-requires-clause-asked : goal.resolve_source-requires-clause-asked
resolve_source-requires-clause-asked g c = c.requires.asked

pub resolve_source-requires-clause-rooted : goal.resolve_source-requires-clause-rooted
resolve_source-requires-clause-rooted g c = rooted-at c.args.count (path_view c.args.path.now) c.in-Some.after c.in-Some.ensures

pub returns-in-Some-clause-given : goal.returns-in-Some-clause-given
returns-in-Some-clause-given g c =
    let At : Path → Type 0 = λ p. IfOk c.resolve_source.result (λ text. g.R.Resolver.source c.args.resolver.now p (string_bytes text)) in
    subst At c.in-Some.ensures c.resolve_source.ensures.given

pub returns-in-Some-clause-refused : goal.returns-in-Some-clause-refused
returns-in-Some-clause-refused g c =
    let At : Path → Type 0 = λ p. IfErr c.resolve_source.result (OrMemory (g.R.Resolver.lacks c.args.resolver.now p)) in
    subst At c.in-Some.ensures c.resolve_source.ensures.refused

pub returns-in-Some-clause-same : goal.returns-in-Some-clause-same
returns-in-Some-clause-same g c = c.resolve_source.ensures.same

pub returns-in-Some-clause-stays_ready : goal.returns-in-Some-clause-stays_ready
returns-in-Some-clause-stays_ready g c = c.resolve_source.ensures.stays_ready

pub returns-in-None-clause-given : goal.returns-in-None-clause-given
returns-in-None-clause-given g c = tt

pub returns-in-None-clause-refused : goal.returns-in-None-clause-refused
returns-in-None-clause-refused g c = inl refl

pub returns-in-None-clause-same : goal.returns-in-None-clause-same
returns-in-None-clause-same g c = means-itself g.R.Resolver.hands g.R.Resolver.refuses g.R.Resolver.source g.R.Resolver.lacks g.R.Resolver.shown c.args.resolver.now

pub returns-in-None-clause-stays_ready : goal.returns-in-None-clause-stays_ready
returns-in-None-clause-stays_ready g c = c.requires.asked
