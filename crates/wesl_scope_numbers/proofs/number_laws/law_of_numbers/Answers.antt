use Rattle.wesl_scope_numbers.proofs.CanonicalNumbers.{one_list, has_numbers}
use Rattle.wesl_scope_numbers.proofs.number_laws.law_of_numbers.Goals as goal

pub returns-clause-there : goal.returns-clause-there
returns-clause-there c = has_numbers

pub returns-clause-one : goal.returns-clause-one
returns-clause-one c = one_list
