use Rattle.std.proofs.Common.{refl, ◌∙◌, sym}
use Rattle.wesl_resolve.proofs.Placing.{along-step, along-stuck, along-all}
use Rattle.wesl_resolve.proofs.package_index.module_along.Goals as goal

pub loop-number-init : goal.loop-number-init
loop-number-init c = refl

pub loop-number-preserved : goal.loop-number-preserved
loop-number-preserved c =
    c.loop-number.invariant ∙ along-step c.loop-number.«module».now c.in-Some.next.now c.args.place.now c.loop-number.number-index _ c.loop-number-test.true c.in-Some.ensures

pub returns-in-None : goal.returns-in-None
returns-in-None c =
    sym (c.loop-number.invariant ∙ along-stuck c.loop-number.«module».now c.args.place.now c.loop-number.number-index _ c.loop-number-test.true c.in-None.ensures)

pub returns : goal.returns
returns c = sym (c.loop-number.invariant ∙ along-all c.loop-number.«module».now c.args.place.now c.loop-number.number-index c.loop-number-test.false)
