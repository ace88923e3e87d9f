use Rattle.wesl_link_ahead.proofs.ahead.Ahead.take.Goals as goal

pub follow_all-requires-clause-followed : goal.follow_all-requires-clause-followed
follow_all-requires-clause-followed c = λ l h. c.requires.followed l ((c.in_ok-asked.ensures l).0 (rw c.deref.ensures.value at h))
