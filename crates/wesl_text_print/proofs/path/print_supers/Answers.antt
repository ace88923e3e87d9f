use Rattle.std.proofs.Common.{◌≡◌, ℕ, Some, ap, arith}
use Rattle.wesl_text_form.specs.Spelling.{stepped}
use Rattle.wesl_tree_base.specs.Pieces.{supers}
use Rattle.wesl_text_print.proofs.Adding.{lawful, none, then, told}
use Rattle.wesl_text_print.proofs.Paths.{one_super_more}
use Rattle.wesl_text_print.proofs.path.print_supers.Goals as goal

pub loop-done-init : goal.loop-done-init
loop-done-init g c = none (lawful g.met.S.TokenSink.none g.met.S.TokenSink.more)

pub loop-done-preserved : goal.loop-done-preserved
loop-done-preserved g c =
    let l = lawful g.met.S.TokenSink.none g.met.S.TokenSink.more in
    told (one_super_more c.loop-done._done) (then l c.loop-done.invariant c.print_step.ensures)

pub returns : goal.returns
returns g c =
    let e : c.loop-done._done ≡ c.args.up = omega (arith, c.loop-done-test.false, c.loop-done.auto._done-end) in
    told (ap (λ (n : ℕ). Some (stepped (supers n))) e) c.loop-done.invariant
