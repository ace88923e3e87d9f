use Rattle.wesl_link_tables.proofs.Plain.{plain_names}
use Rattle.wesl_link_tables.proofs.laws.law_of_plain_names.Goals as goal

pub returns : goal.returns
returns c = plain_names
