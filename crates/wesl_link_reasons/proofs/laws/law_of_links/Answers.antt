use Rattle.wesl_link_reasons.proofs.Holding.{unbroken}
use Rattle.wesl_link_reasons.proofs.laws.law_of_links.Goals as goal

pub returns : goal.returns
returns g c = unbroken (g.L.Loader.hands c.args.loader.now) (g.L.Loader.refuses c.args.loader.now)
