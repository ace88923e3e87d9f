use Rattle.wesl_validate_free.proofs.Used.{are_in_order, have_free_names, no_use_is_defined, stand_there}
use Rattle.wesl_validate_free.proofs.laws.law_of_free_uses.Goals as goal

pub returns-clause-none : goal.returns-clause-none
returns-clause-none c = no_use_is_defined

pub returns-clause-names : goal.returns-clause-names
returns-clause-names c = have_free_names

pub returns-clause-ordered : goal.returns-clause-ordered
returns-clause-ordered c = are_in_order

pub returns-clause-there : goal.returns-clause-there
returns-clause-there c = stand_there
