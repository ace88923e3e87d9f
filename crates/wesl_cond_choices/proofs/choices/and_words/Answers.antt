use Rattle.std.proofs.Common.{◌&&◌, get_or, arith, refl}
use Rattle.wesl_cond_choices.specs.Choices.{has_bit}
use Rattle.wesl_cond_choices.proofs.Bits.{bit_of_and}
use Rattle.wesl_cond_choices.proofs.Words.{bit, begun, one_more, ended}
use Rattle.wesl_cond_choices.proofs.choices.and_words.Goals as goal

pub loop-i-init : goal.loop-i-init
loop-i-init c = begun (λ x y. x && y) (bit c.args.others.now) c.args.words.now

pub loop-i-preserved : goal.loop-i-preserved
loop-i-preserved c =
    one_more (λ x y. x && y) (bit c.args.others.now) c.args.words.now c.loop-i.words c.loop-i.i _ c.loop-i.invariant (omega arith)
    (λ b within. bit_of_and (get_or c.loop-i.words c.loop-i.i 0) (get_or c.args.others.now c.loop-i.i 0) b)

pub returns-clause-both : goal.returns-clause-both
unfolding has_bit
returns-clause-both c k =
    ended (λ x y. x && y) (bit c.args.others.now) c.args.words.now c.loop-i.words c.loop-i.i c.loop-i.invariant (omega arith)
    (λ k past. refl) k
