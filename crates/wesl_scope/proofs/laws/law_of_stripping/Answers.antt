use Rattle.wesl_scope.proofs.LeastSet.{one_way, no_more}
use Rattle.wesl_scope.proofs.laws.law_of_stripping.Goals as goal

pub returns-clause-one : goal.returns-clause-one
returns-clause-one c = one_way

pub returns-clause-least : goal.returns-clause-least
returns-clause-least c = no_more
