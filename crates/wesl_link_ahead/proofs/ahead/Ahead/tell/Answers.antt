use Rattle.wesl_link_symbols.proofs.Lists.{contains_nil}
use Rattle.wesl_link_ahead.proofs.ahead.Ahead.tell.Goals as goal

pub loop-place-init : goal.loop-place-init
loop-place-init c = λ p h. absurd (contains_nil p (rw c.new-paths.ensures.items at h))

pub returns-clause-entered : goal.returns-clause-entered
returns-clause-entered c = λ p h. c.requires.ahead.entered p (c.loop-place.invariant p h)
