use Rattle.std.proofs.Common.{true≢false, sym, ◌∙◌}
use Rattle.wesl_link_ahead.proofs.Going.{asked_on, comes_asked, comes_entered, puts_keep}
use Rattle.wesl_link_ahead.proofs.ahead.Ahead.come.Goals as goal

pub enter-requires-clause-entered : goal.enter-requires-clause-entered
enter-requires-clause-entered c = comes_entered c.args.self.now.asked c.args.look_up c.requires.way

pub pass-requires-clause-ahead : goal.pass-requires-clause-ahead
pass-requires-clause-ahead c = record {
  placed = c.in_ok-enter.ensures.ahead.placed;
  entered = c.in_ok-enter.ensures.ahead.entered;
  reached = c.in_ok-enter.ensures.ahead.reached;
  waiting = λ l h. asked_on _ _ (λ q held. puts_keep _ _ _ q c.in_ok-put.ensures held) l (c.in_ok-enter.ensures.ahead.waiting l h);
}

pub pass-requires-clause-asked : goal.pass-requires-clause-asked
pass-requires-clause-asked c =
    comes_asked c.args.self.now.asked _ c.args.look_up c.requires.way (λ h. true≢false (sym (c.has.ensures.1 (rw c.question.ensures (rw c.enter.ensures.asked h))) ∙ c.if-has.false))
    (rw c.enter.ensures.asked at (rw c.question-2.ensures at c.in_ok-put.ensures))

pub returns-clause-keeps : goal.returns-clause-keeps
returns-clause-keeps c = λ q h. c.in_ok-next.ensures.keeps q (puts_keep _ _ _ q c.in_ok-put.ensures (rw (← c.enter.ensures.asked) at h))
