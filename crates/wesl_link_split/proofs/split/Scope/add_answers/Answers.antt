use Rattle.std.proofs.Common.{ap, arith, length}
use Rattle.wesl_link_split.proofs.Anywhere.{answers_none, answers_next}
use Rattle.wesl_link_split.proofs.Lists.{length_one}
use Rattle.wesl_link_split.proofs.split.Scope.add_answers.Goals as goal

pub loop-i-init : goal.loop-i-init
loop-i-init c = (ap length c.requires.empty, answers_none c.args.self.now.sight c.args.answers.now.items c.requires.empty)

pub loop-i-preserved : goal.loop-i-preserved
loop-i-preserved c = (
  omega (arith, ap length c.in_ok-push.ensures.items, length_one c.loop-i.answers.items c.in_ok-answer.answer, c.loop-i.invariant.0),
  answers_next c.args.self.now.sight c.loop-i.answers.items c.push.new.self.items c.in_ok-answer.answer c.loop-i.i c.loop-i.invariant.0 c.loop-i.invariant.1 c.in_ok-answer.ensures c.in_ok-push.ensures.items,
)
