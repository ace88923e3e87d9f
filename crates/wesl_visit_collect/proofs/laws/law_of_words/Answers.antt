use Rattle.wesl_visit_collect.proofs.Hollow.{attribute_flat, content_hollow}
use Rattle.wesl_visit_collect.proofs.laws.law_of_words.Goals as goal

pub returns-clause-attributes : goal.returns-clause-attributes
returns-clause-attributes c = attribute_flat

pub returns-clause-imports : goal.returns-clause-imports
returns-clause-imports c = content_hollow
