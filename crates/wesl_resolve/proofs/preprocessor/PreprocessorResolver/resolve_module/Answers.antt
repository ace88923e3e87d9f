use Rattle.std.proofs.Common.{refl, inl, inr, ⊎_elim}
use Rattle.wesl_tree_names.specs.Path.{path_view}
use Rattle.wesl_resolve.proofs.PreprocessorLemmas.{Preprocessor-same, Preprocessor-refuses, Preprocessor-tells}
use Rattle.wesl_resolve.proofs.preprocessor.PreprocessorResolver.resolve_module.Goals as goal

pub resolve_module-requires-clause-asked : goal.resolve_module-requires-clause-asked
resolve_module-requires-clause-asked g c = c.requires.asked.0

pub resolve_module-requires-clause-rooted : goal.resolve_module-requires-clause-rooted
resolve_module-requires-clause-rooted g c = c.requires.rooted

pub refused_by-requires-clause-asked : goal.refused_by-requires-clause-asked
refused_by-requires-clause-asked g c = c.resolve_module.ensures.stays_ready

pub refused_by-requires-clause-rooted : goal.refused_by-requires-clause-rooted
refused_by-requires-clause-rooted g c = c.requires.rooted

pub returns-in-Err-clause-handed : goal.returns-in-Err-clause-handed
returns-in-Err-clause-handed g c = tt

pub returns-in-Err-clause-refused : goal.returns-in-Err-clause-refused
returns-in-Err-clause-refused g c = ⊎_elim inl (λ r. inr (inl r)) c.in-Err.ensures.refused

pub returns-in-Err-clause-same : goal.returns-in-Err-clause-same
returns-in-Err-clause-same g c = Preprocessor-same g.R.Resolver.hands g.R.Resolver.refuses g.R.Resolver.source g.R.Resolver.lacks g.R.Resolver.shown (goal.F-post g) c.args.self.now c.resolve_module.new.self c.resolve_module.ensures.same

pub returns-in-Err-clause-stays_ready : goal.returns-in-Err-clause-stays_ready
returns-in-Err-clause-stays_ready g c = (c.resolve_module.ensures.stays_ready, c.requires.asked.1)

pub returns-in-Ok-preprocess-clause-handed : goal.returns-in-Ok-preprocess-clause-handed
returns-in-Ok-preprocess-clause-handed g c = (c.in-Ok.unit, c.in-Ok-preprocess.unit, c.in-Ok.ensures.handed, c.in-Ok-preprocess.ensures, refl)

pub returns-in-Ok-preprocess-clause-refused : goal.returns-in-Ok-preprocess-clause-refused
returns-in-Ok-preprocess-clause-refused g c = tt

pub returns-in-Ok-preprocess-clause-same : goal.returns-in-Ok-preprocess-clause-same
returns-in-Ok-preprocess-clause-same g c = Preprocessor-same g.R.Resolver.hands g.R.Resolver.refuses g.R.Resolver.source g.R.Resolver.lacks g.R.Resolver.shown (goal.F-post g) c.args.self.now c.resolve_module.new.self c.resolve_module.ensures.same

pub returns-in-Ok-preprocess-clause-stays_ready : goal.returns-in-Ok-preprocess-clause-stays_ready
returns-in-Ok-preprocess-clause-stays_ready g c = (c.resolve_module.ensures.stays_ready, c.requires.asked.1)

pub returns-in-Err-preprocess-clause-handed : goal.returns-in-Err-preprocess-clause-handed
returns-in-Err-preprocess-clause-handed g c = tt

pub returns-in-Err-preprocess-clause-same : goal.returns-in-Err-preprocess-clause-same
returns-in-Err-preprocess-clause-same g c = Preprocessor-same g.R.Resolver.hands g.R.Resolver.refuses g.R.Resolver.source g.R.Resolver.lacks g.R.Resolver.shown (goal.F-post g) c.args.self.now c.resolve_module.new.self c.resolve_module.ensures.same

pub returns-in-Err-preprocess-clause-refused : goal.returns-in-Err-preprocess-clause-refused
returns-in-Err-preprocess-clause-refused g c =
    Preprocessor-refuses g.R.Resolver.hands g.R.Resolver.refuses g.R.Resolver.source g.R.Resolver.lacks g.R.Resolver.shown (goal.F-post g) c.args.self.now (path_view c.args.path.now) c.refused_by.result
    (Preprocessor-tells g.R.Resolver.hands g.R.Resolver.refuses g.R.Resolver.source g.R.Resolver.lacks g.R.Resolver.shown (goal.F-post g) c.args.self.now c.resolve_module.new.self c.resolve_module.ensures.same (path_view c.args.path.now) c.in-Ok.unit c.in-Err-preprocess.fault c.refused_by.result c.in-Ok.ensures.handed c.in-Err-preprocess.ensures c.refused_by.ensures)

pub returns-in-Err-preprocess-clause-stays_ready : goal.returns-in-Err-preprocess-clause-stays_ready
returns-in-Err-preprocess-clause-stays_ready g c = (c.resolve_module.ensures.stays_ready, c.requires.asked.1)

pub returns-in-Err-clause-resolver : goal.returns-in-Err-clause-resolver
returns-in-Err-clause-resolver g c = c.resolve_module.ensures.same

pub returns-in-Err-clause-preprocess : goal.returns-in-Err-clause-preprocess
returns-in-Err-clause-preprocess g c = refl

pub returns-in-Ok-preprocess-clause-resolver : goal.returns-in-Ok-preprocess-clause-resolver
returns-in-Ok-preprocess-clause-resolver g c = c.resolve_module.ensures.same

pub returns-in-Ok-preprocess-clause-preprocess : goal.returns-in-Ok-preprocess-clause-preprocess
returns-in-Ok-preprocess-clause-preprocess g c = refl

pub returns-in-Err-preprocess-clause-resolver : goal.returns-in-Err-preprocess-clause-resolver
returns-in-Err-preprocess-clause-resolver g c = c.resolve_module.ensures.same

pub returns-in-Err-preprocess-clause-preprocess : goal.returns-in-Err-preprocess-clause-preprocess
returns-in-Err-preprocess-clause-preprocess g c = refl

pub returns-in-Err-clause-told : goal.returns-in-Err-clause-told
returns-in-Err-clause-told g c = ⊎_elim inl (λ r. inr (inl r)) c.in-Err.ensures.refused

pub returns-in-Ok-preprocess-clause-told : goal.returns-in-Ok-preprocess-clause-told
returns-in-Ok-preprocess-clause-told g c = tt

pub returns-in-Err-preprocess-clause-told : goal.returns-in-Err-preprocess-clause-told
returns-in-Err-preprocess-clause-told g c =
    Preprocessor-tells g.R.Resolver.hands g.R.Resolver.refuses g.R.Resolver.source g.R.Resolver.lacks g.R.Resolver.shown (goal.F-post g) c.args.self.now c.resolve_module.new.self c.resolve_module.ensures.same (path_view c.args.path.now) c.in-Ok.unit c.in-Err-preprocess.fault c.refused_by.result c.in-Ok.ensures.handed c.in-Err-preprocess.ensures c.refused_by.ensures
