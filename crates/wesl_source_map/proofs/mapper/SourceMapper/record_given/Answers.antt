use Rattle.std.proofs.Common.{sym, subst}
use Rattle.wesl_resolve_base.specs.Resolver.{MeansTheSame}
use Rattle.wesl_source_map.proofs.mapper.SourceMapper.record_given.Goals as goal

pub returns-in-Ok-clause-same : goal.returns-in-Ok-clause-same
returns-in-Ok-clause-same g c =
    subst (λ r. MeansTheSame g.R.Resolver.hands g.R.Resolver.refuses g.R.Resolver.source g.R.Resolver.lacks g.R.Resolver.shown c.args.self.now.resolver r)
    (sym c.record_source.ensures.resolver) c.resolve_source.ensures.same

pub returns-in-Ok-clause-stays_ready : goal.returns-in-Ok-clause-stays_ready
returns-in-Ok-clause-stays_ready g c = subst (λ r. g.R.Resolver.ready r) (sym c.record_source.ensures.resolver) c.resolve_source.ensures.stays_ready
