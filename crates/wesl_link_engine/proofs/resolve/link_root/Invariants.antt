use Rattle.wesl_resolve_base.specs.Resolver.{MeansTheSame}
use Rattle.wesl_link_tables.specs.NumbersView.{numbering}
use Rattle.wesl_link_engine.proofs.resolve.link_root.Given as goal

abbrev pub ghosts-reach_modules : goal.ghosts-reach_modules
ghosts-reach_modules g a = record {
  hands = g.R.Resolver.hands a.modules.now.resolver.now;
  refuses = g.R.Resolver.refuses a.modules.now.resolver.now;
  first = numbering a.modules.now.numbers.now;
  these = λ x. MeansTheSame g.R.Resolver.hands g.R.Resolver.refuses g.R.Resolver.source g.R.Resolver.lacks g.R.Resolver.shown a.modules.now.resolver.now x;
  loan = a.modules.now.resolver.ghost_name;
}
