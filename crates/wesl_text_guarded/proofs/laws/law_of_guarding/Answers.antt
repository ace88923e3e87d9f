use Rattle.wesl_text_guarded.proofs.Steps.{as_it_was}
use Rattle.wesl_text_guarded.proofs.laws.law_of_guarding.Goals as goal

pub returns-clause-writable : goal.returns-clause-writable
returns-clause-writable c = as_it_was

pub returns-clause-said : goal.returns-clause-said
returns-clause-said c = λ t u h. as_it_was u (c.law_of_writing.ensures.said_are_writable t u h)
