use Rattle.wesl_program_laws.proofs.Found.{links_found}
use Rattle.wesl_program_laws.proofs.laws.law_of_found_links.Goals as goal

pub returns : goal.returns
returns g c = links_found (g.R.Resolver.hands c.args.resolver.now) (g.R.Resolver.refuses c.args.resolver.now)
