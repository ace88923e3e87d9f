use Rattle.wesl_link_tables.proofs.Askers.{ask_as_themselves}
use Rattle.wesl_link_tables.proofs.laws.law_of_askers.Goals as goal

pub returns : goal.returns
returns c = ask_as_themselves
