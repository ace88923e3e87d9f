use Rattle.wesl_link_engine.proofs.Faultless.{only_memory}
use Rattle.wesl_link.proofs.resolve.resolve_lazy.Goals as goal

pub returns-in-Ok-clause-linked : goal.returns-in-Ok-clause-linked
returns-in-Ok-clause-linked g c = c.in-Ok.ensures.linked

pub returns-in-Ok-clause-order : goal.returns-in-Ok-clause-order
returns-in-Ok-clause-order g c = c.in-Ok.ensures.order

pub returns-in-Ok-clause-kept : goal.returns-in-Ok-clause-kept
returns-in-Ok-clause-kept g c = c.in-Ok.ensures.kept

pub returns-in-Ok-clause-lazy : goal.returns-in-Ok-clause-lazy
returns-in-Ok-clause-lazy g c = c.in-Ok.ensures.eager

pub returns-in-Ok-clause-turns : goal.returns-in-Ok-clause-turns
returns-in-Ok-clause-turns g c = c.in-Ok.ensures.linked.turns

pub returns-in-Ok-clause-names : goal.returns-in-Ok-clause-names
returns-in-Ok-clause-names g c = c.in-Ok.ensures.names

pub returns-in-Err-clause-refused : goal.returns-in-Err-clause-refused
returns-in-Err-clause-refused g c = c.in-Err.ensures.refused

pub returns-in-Err-clause-succeeds : goal.returns-in-Err-clause-succeeds
returns-in-Err-clause-succeeds g c = λ faultless. only_memory _ faultless c.in-Err.diagnostic c.in-Err.ensures.refused
