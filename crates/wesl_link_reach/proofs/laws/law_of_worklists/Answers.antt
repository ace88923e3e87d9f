use Rattle.wesl_link_reach.proofs.Settled.{enough}
use Rattle.wesl_link_reach.proofs.laws.law_of_worklists.Goals as goal

pub returns : goal.returns
returns g c = enough (g.L.Loader.refuses c.args.loader.now)
