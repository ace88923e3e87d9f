use Rattle.wesl_link_ahead.proofs.ahead.Ahead.wake.Goals as goal

pub walk-requires-clause-way : goal.walk-requires-clause-way
walk-requires-clause-way c = rw c.in-Some.is at c.in_ok-next.ensures.way

pub returns-in_ok-walk-in-Some-clause-keeps : goal.returns-in_ok-walk-in-Some-clause-keeps
returns-in_ok-walk-in-Some-clause-keeps c = λ q h. c.in_ok-walk-in-Some.ensures.keeps q (c.in_ok-next.ensures.keeps q h)
