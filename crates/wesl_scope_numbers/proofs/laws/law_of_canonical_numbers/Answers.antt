use Rattle.wesl_scope_numbers.proofs.Canonical.{canonical_is_faithful, faithful_is_canonical}
use Rattle.wesl_scope_numbers.proofs.laws.law_of_canonical_numbers.Goals as goal

pub returns-clause-canonical : goal.returns-clause-canonical
returns-clause-canonical c = canonical_is_faithful c.law_of_occurrences.ensures.spelling c.law_of_occurrences.ensures.identifiers

pub returns-clause-faithful : goal.returns-clause-faithful
returns-clause-faithful c = faithful_is_canonical c.law_of_occurrences.ensures.spelling c.law_of_occurrences.ensures.identifiers
