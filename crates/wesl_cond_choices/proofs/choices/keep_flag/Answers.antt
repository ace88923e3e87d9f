use Rattle.std.proofs.Common.{◌≡◌, ◌+◌, ◌*◌, ◌/◌, ◌%◌, nat_eq, ◌&&◌, get_or, arith, refl, ap, ◌∙◌}
use Rattle.std.specs.Int.{bit_at}
use Rattle.wesl_cond_choices.specs.Choices.{has_bit}
use Rattle.wesl_cond_choices.proofs.Bits.{bit_of_and}
use Rattle.wesl_cond_choices.proofs.Words.{begun, one_more, ended}
use Rattle.wesl_cond_choices.proofs.choices.keep_flag.Goals as goal

pub loop-i-init : goal.loop-i-init
loop-i-init c = begun (λ x y. x && y) (λ j b. nat_eq (bit_at (j * 64 + b) c.args.flag) 1) c.args.words.now

pub loop-i-preserved : goal.loop-i-preserved
loop-i-preserved c =
    one_more (λ x y. x && y) (λ j b. nat_eq (bit_at (j * 64 + b) c.args.flag) 1) c.args.words.now c.loop-i.words c.loop-i.i _ c.loop-i.invariant (omega arith)
    (λ b within. bit_of_and (get_or c.loop-i.words c.loop-i.i 0) c.flag_word.result b ∙ ap (λ t. nat_eq (bit_at (get_or c.loop-i.words c.loop-i.i 0) b) 1 && nat_eq t 1) (c.flag_word.ensures b within))

pub returns-clause-both : goal.returns-clause-both
unfolding has_bit
returns-clause-both c k =
    ended (λ x y. x && y) (λ j b. nat_eq (bit_at (j * 64 + b) c.args.flag) 1) c.args.words.now c.loop-i.words c.loop-i.i c.loop-i.invariant (omega arith)
    (λ k past. refl) k
    ∙ (let e : k / 64 * 64 + k % 64 ≡ k = omega arith in ap (λ n. has_bit c.args.words.now k && nat_eq (bit_at n c.args.flag) 1) e)
