use Rattle.wesl_visit_collect.proofs.Plain.{expression_plain, type_plain}
use Rattle.wesl_visit_collect.proofs.laws.law_of_expressions.Goals as goal

pub returns-clause-expressions : goal.returns-clause-expressions
returns-clause-expressions c = expression_plain

pub returns-clause-types : goal.returns-clause-types
returns-clause-types c = type_plain
