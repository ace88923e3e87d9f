use Rattle.wesl_rows_link.proofs.resolvers.sources.Given as goal

abbrev pub invariant-loop-text : goal.invariant-loop-text
invariant-loop-text g l = g.R.Resolver.ready l.resolver
