use Rattle.std.proofs.Common.{◌≡◌, ◌∙◌, ◌++◌, ◌∷◌, ◌+◌, [], ap, sym, arith}
use Rattle.wesl_validate_faults.specs.Placed.{from_on}
use Rattle.wesl_validate_faults.proofs.Placing.{one_on}
use Rattle.wesl_validate_faults.proofs.placed.count_up.Goals as goal

pub loop-number-init : goal.loop-number-init
loop-number-init c = record { inside = omega arith; counted = c.new-numbers.ensures.items }

pub loop-number-preserved : goal.loop-number-preserved
loop-number-preserved c =
    let at = c.loop-number in
    let e : at.number ≡ 0 + at.number = omega arith in
    record {
      inside = omega (arith, c.loop-number-test.true);
      counted = c.in_ok-push.ensures.items ∙ (ap (λ ns. ns ++ at.number ∷ []) at.invariant.counted ∙ (ap (λ k. from_on 0 at.number ++ k ∷ []) e ∙ sym (one_on 0 at.number)));
    }

pub returns : goal.returns
returns c =
    let at = c.loop-number in
    let e : at.number ≡ c.args.count = omega (arith, at.invariant.inside, c.loop-number-test.false) in
    at.invariant.counted ∙ ap (from_on 0) e
