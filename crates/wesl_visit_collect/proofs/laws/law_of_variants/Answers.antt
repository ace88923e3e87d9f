use Rattle.wesl_visit_collect.proofs.Variants.{attribute_unpicked, expression_unpicked, global_unpicked, statement_unpicked}
use Rattle.wesl_visit_collect.proofs.laws.law_of_variants.Goals as goal

pub returns-clause-expressions : goal.returns-clause-expressions
returns-clause-expressions c = expression_unpicked

pub returns-clause-statements : goal.returns-clause-statements
returns-clause-statements c = statement_unpicked

pub returns-clause-attributes : goal.returns-clause-attributes
returns-clause-attributes c = attribute_unpicked

pub returns-clause-declarations : goal.returns-clause-declarations
returns-clause-declarations c = global_unpicked
