use Rattle.wesl_scope_numbers.proofs.Taken.{numbers_are, spelled_as}
use Rattle.wesl_scope_numbers.proofs.number_laws.law_of_renumbering.Goals as goal

pub returns-clause-numbers : goal.returns-clause-numbers
returns-clause-numbers c = numbers_are

pub returns-clause-spelling : goal.returns-clause-spelling
returns-clause-spelling c = spelled_as
