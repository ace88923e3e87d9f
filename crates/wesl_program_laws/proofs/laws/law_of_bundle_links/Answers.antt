use Rattle.wesl_program_laws.proofs.Found.{bundles_found}
use Rattle.wesl_program_laws.proofs.laws.law_of_bundle_links.Goals as goal

pub returns : goal.returns
returns c = bundles_found
