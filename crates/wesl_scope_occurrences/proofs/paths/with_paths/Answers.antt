use Rattle.std.proofs.Common.{◌≡◌, ◌∙◌, ◌+◌, suc, sym, ap, arith, length}
use Rattle.wesl_scope_occurrences.specs.Bare.{partly}
use Rattle.wesl_scope_occurrences.proofs.Patching.{partly_all, partly_none}
use Rattle.wesl_scope_occurrences.proofs.paths.with_paths.Goals as goal

pub loop-i-init : goal.loop-i-init
loop-i-init c = λ os e q p. e ∙ sym (partly_none os)

pub loop-i-preserved : goal.loop-i-preserved
loop-i-preserved c = λ os e q p. c.put_next.ensures os (c.loop-i.invariant os e q p) q p ∙ ap (λ n. partly n os) (let one : suc c.loop-i.i ≡ c.loop-i.i + 1 = omega arith in one)

pub returns : goal.returns
returns c = λ os e q p. c.loop-i.invariant os e q p ∙ partly_all c.loop-i.i 0 os (omega (arith, c.loop-i-test.false, ap length q))
