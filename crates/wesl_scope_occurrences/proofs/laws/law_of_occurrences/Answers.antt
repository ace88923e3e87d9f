use Rattle.wesl_scope_occurrences.proofs.Names.{names_each}
use Rattle.wesl_scope_occurrences.proofs.Respelled.{spelled_occurrences}
use Rattle.wesl_scope_occurrences.proofs.laws.law_of_occurrences.Goals as goal

pub returns-clause-spelling : goal.returns-clause-spelling
returns-clause-spelling c = spelled_occurrences

pub returns-clause-identifiers : goal.returns-clause-identifiers
returns-clause-identifiers c = λ u. names_each u
