use Rattle.std.proofs.Common.{refl, sym, subst, rules}
use Rattle.wesl_resolve_base.specs.Resolver.{MeansTheSame}
use Rattle.wesl_source_map.proofs.mapper.SourceMapperResolver.resolve_source.Goals as goal

pub returns-in-Ok-recorded-clause-recorded : goal.returns-in-Ok-recorded-clause-recorded
returns-in-Ok-recorded-clause-recorded g c = search rules

pub returns-in-Ok-recorded-clause-same : goal.returns-in-Ok-recorded-clause-same
returns-in-Ok-recorded-clause-same g c =
    subst (λ r. MeansTheSame g.R.Resolver.hands g.R.Resolver.refuses g.R.Resolver.source g.R.Resolver.lacks g.R.Resolver.shown c.args.self.now.resolver r)
    (sym c.record_source-recorded.ensures.resolver) c.resolve_source-given.ensures.same

pub returns-in-Ok-recorded-clause-stays_ready : goal.returns-in-Ok-recorded-clause-stays_ready
returns-in-Ok-recorded-clause-stays_ready g c = subst (λ r. g.R.Resolver.ready r) (sym c.record_source-recorded.ensures.resolver) c.resolve_source-given.ensures.stays_ready

pub returns-in-Err-recorded-clause-same : goal.returns-in-Err-recorded-clause-same
returns-in-Err-recorded-clause-same g c =
    subst (λ r. MeansTheSame g.R.Resolver.hands g.R.Resolver.refuses g.R.Resolver.source g.R.Resolver.lacks g.R.Resolver.shown c.args.self.now.resolver r)
    (sym c.record_source-recorded.ensures.resolver) c.resolve_source-given.ensures.same

pub returns-in-Err-recorded-clause-stays_ready : goal.returns-in-Err-recorded-clause-stays_ready
returns-in-Err-recorded-clause-stays_ready g c = subst (λ r. g.R.Resolver.ready r) (sym c.record_source-recorded.ensures.resolver) c.resolve_source-given.ensures.stays_ready

pub returns-in-Err : goal.returns-in-Err
returns-in-Err g c = record {
  given = tt;
  recorded = tt;
  refused = c.in-Err.ensures.refused;
  kept = λ _. refl;
  same = c.in-Err.ensures.same;
  stays_ready = c.in-Err.ensures.stays_ready;
  beside = record { names = refl; path = refl; decls = λ _. refl; default = refl };
}
