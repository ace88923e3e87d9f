use Rattle.wesl_validate_free.proofs.Told.{none_is_defined, tells_undefined, tells_each_once}
use Rattle.wesl_validate_free.proofs.laws.law_of_free_names.Goals as goal

pub returns-clause-none : goal.returns-clause-none
returns-clause-none c = none_is_defined

pub returns-clause-undefined : goal.returns-clause-undefined
returns-clause-undefined c = tells_undefined

pub returns-clause-once : goal.returns-clause-once
returns-clause-once c = tells_each_once
