use Rattle.wesl_scope_numbers.proofs.Faith.{faith_decides}
use Rattle.wesl_scope_numbers.proofs.Picked.{means_the_first}
use Rattle.wesl_scope_numbers.proofs.laws.law_of_faith.Goals as goal

pub returns-clause-test : goal.returns-clause-test
returns-clause-test c = faith_decides

pub returns-clause-first : goal.returns-clause-first
returns-clause-first c = means_the_first
