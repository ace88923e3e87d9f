use Rattle.std.proofs.Common.{arith, rules, refl}
use Rattle.wesl_cond_choices.proofs.Words.{met_at, apart}
use Rattle.wesl_cond_choices.proofs.choices.words_meet.Goals as goal

pub returns-then-words-i-ne0 : goal.returns-then-words-i-ne0
returns-then-words-i-ne0 c = (λ _. met_at c.args.words.now c.args.others.now c.loop-i.i (search rules) c.if-words-i-ne0.true, λ _. refl)

pub returns : goal.returns
returns c = (λ h. absurd (cc), λ some. absurd (apart c.args.words.now c.args.others.now c.loop-i.i (omega arith) c.loop-i.invariant some.0 some.1 some.2))
