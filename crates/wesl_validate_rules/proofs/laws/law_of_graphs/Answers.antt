use Rattle.wesl_validate_rules.proofs.Graphs.{acyclic, cycle}
use Rattle.wesl_validate_rules.proofs.laws.law_of_graphs.Goals as goal

pub returns-clause-acyclic : goal.returns-clause-acyclic
returns-clause-acyclic c = acyclic

pub returns-clause-cycle : goal.returns-clause-cycle
returns-clause-cycle c = cycle
