use Rattle.wesl_link_engine.proofs.Excluding.{reaches_all}
use Rattle.wesl_link_engine.proofs.laws.law_of_eager_links.Goals as goal

pub returns : goal.returns
returns g c = reaches_all (g.R.Resolver.hands c.args.resolver.now) (g.R.Resolver.refuses c.args.resolver.now)
