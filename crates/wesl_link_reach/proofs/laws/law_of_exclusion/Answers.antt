use Rattle.wesl_link_reach.proofs.Exclusive.{exclude}
use Rattle.wesl_link_reach.proofs.laws.law_of_exclusion.Goals as goal

pub returns : goal.returns
returns g c = exclude (g.L.Loader.hands c.args.loader.now) (g.L.Loader.refuses c.args.loader.now)
