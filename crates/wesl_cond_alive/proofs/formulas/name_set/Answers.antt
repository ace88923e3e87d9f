use Rattle.std.proofs.Common.{◌∙◌, ◌<◌, length, sym, arith}
use Rattle.wesl_cond_alive.proofs.Named.{choice_later}
use Rattle.wesl_cond_alive.proofs.formulas.name_set.Goals as goal

pub loop-i-preserved : goal.loop-i-preserved
loop-i-preserved c = λ k.
    let bound : c.loop-i.i < length c.args.flags.now = omega (arith, c.loop-i-test.true) in
    c.loop-i.invariant k ∙ choice_later c.args.flags.now c.loop-i.i k c.args.name.now _ bound (sym c.eq.ensures ∙ c.if-eq.false)
