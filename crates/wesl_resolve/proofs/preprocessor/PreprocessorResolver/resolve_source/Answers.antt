use Rattle.std.proofs.Common.{refl}
use Rattle.wesl_resolve.proofs.PreprocessorLemmas.{Preprocessor-same}
use Rattle.wesl_resolve.proofs.preprocessor.PreprocessorResolver.resolve_source.Goals as goal

pub resolve_source-requires-clause-asked : goal.resolve_source-requires-clause-asked
resolve_source-requires-clause-asked g c = c.requires.asked.0

pub resolve_source-requires-clause-rooted : goal.resolve_source-requires-clause-rooted
resolve_source-requires-clause-rooted g c = c.requires.rooted

pub returns-clause-given : goal.returns-clause-given
returns-clause-given g c = c.resolve_source.ensures.given

pub returns-clause-refused : goal.returns-clause-refused
returns-clause-refused g c = c.resolve_source.ensures.refused

pub returns-clause-stays_ready : goal.returns-clause-stays_ready
returns-clause-stays_ready g c = (c.resolve_source.ensures.stays_ready, c.requires.asked.1)

pub returns-clause-same : goal.returns-clause-same
returns-clause-same g c = Preprocessor-same g.R.Resolver.hands g.R.Resolver.refuses g.R.Resolver.source g.R.Resolver.lacks g.R.Resolver.shown (goal.F-post g) c.args.self.now c.resolve_source.new.self c.resolve_source.ensures.same

pub returns-clause-resolver : goal.returns-clause-resolver
returns-clause-resolver g c = c.resolve_source.ensures.same

pub returns-clause-preprocess : goal.returns-clause-preprocess
returns-clause-preprocess g c = refl
