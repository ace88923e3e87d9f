use Rattle.std.proofs.Common.{◌∙◌, ap, sym, ◌≡◌, ℕ, replicate, arith}
use lib.Chars.{codes}
use Rattle.wesl_mangle_forms.specs.Escape.{from_pieces}
use Rattle.wesl_mangle_forms.proofs.Writing.{supers-more, origin-supers}
use Rattle.wesl_mangle_forms.proofs.Written.{then, worded}
use Rattle.wesl_mangle_forms.proofs.escape.push_relative.Goals as goal

pub loop-done-preserved : goal.loop-done-preserved
loop-done-preserved c = worded (supers-more c.loop-done._done c.loop-done.auto._done) (then c.loop-done.invariant c.push_piece.ensures)

pub returns : goal.returns
returns c =
    let up = c.args.up in
    let e : c.loop-done._done ≡ up = omega (arith, c.loop-done-test.false, c.loop-done.auto._done-end, c.if-up-eq0.false) in
    worded (ap (λ (n : ℕ). from_pieces (replicate n (codes "super"))) e ∙ ap from_pieces (sym (origin-supers up c.if-up-eq0.false))) c.loop-done.invariant
