use Rattle.wesl_link_engine.proofs.Excluding.{exclude}
use Rattle.wesl_link_engine.proofs.laws.law_of_links.Goals as goal

pub returns : goal.returns
returns g c = exclude (g.R.Resolver.hands c.args.resolver.now) (g.R.Resolver.refuses c.args.resolver.now)
