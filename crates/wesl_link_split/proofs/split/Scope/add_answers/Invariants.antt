use Rattle.std.proofs.Common.{◌≡◌, length}
use Rattle.wesl_link_split.specs.SightView.{AreAnswers}
use Rattle.wesl_link_split.proofs.split.Scope.add_answers.Given as goal

abbrev pub invariant-loop-i : goal.invariant-loop-i
invariant-loop-i l = (length l.answers.items ≡ l.i) × AreAnswers l.self.sight l.answers.items
