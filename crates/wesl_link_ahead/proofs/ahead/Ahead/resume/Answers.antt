use Rattle.wesl_link_symbols.proofs.Lists.{contains_nil}
use Rattle.wesl_link_ahead.proofs.ahead.Ahead.resume.Goals as goal

pub wake_all-requires-clause-ahead : goal.wake_all-requires-clause-ahead
wake_all-requires-clause-ahead c = record {
  placed = c.requires.ahead.placed;
  entered = c.requires.ahead.entered;
  reached = c.requires.ahead.reached;
  waiting = λ l h. absurd (contains_nil l (rw c.new.ensures.items at (rw c.replace-waited.ensures.after at h)));
}

pub wake_all-requires-clause-asked : goal.wake_all-requires-clause-asked
wake_all-requires-clause-asked c = λ l h. c.requires.ahead.waiting l (rw c.replace-waited.ensures.value at (rw c.deref.ensures.value at h))
