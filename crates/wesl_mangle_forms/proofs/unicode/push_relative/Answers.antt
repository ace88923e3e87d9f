use Rattle.std.proofs.Common.{◌∙◌, ap, sym, ◌≡◌, ℕ, replicate, arith, codes}
use Rattle.wesl_mangle_forms.specs.Unicode.{from_words}
use Rattle.wesl_mangle_forms.proofs.Words.{supers-word, origin-words-supers}
use Rattle.wesl_mangle_forms.proofs.Written.{then, worded}
use Rattle.wesl_mangle_forms.proofs.unicode.push_relative.Goals as goal

pub loop-done-preserved : goal.loop-done-preserved
loop-done-preserved c = worded (supers-word c.loop-done._done c.loop-done.auto._done) (then c.loop-done.invariant c.push_word.ensures)

pub returns : goal.returns
returns c =
    let up = c.args.up in
    let e : c.loop-done._done ≡ up = omega (arith, c.loop-done-test.false, c.loop-done.auto._done-end, c.if-up-eq0.false) in
    worded (ap (λ (n : ℕ). from_words (replicate n (codes "super"))) e ∙ ap from_words (sym (origin-words-supers up c.if-up-eq0.false))) c.loop-done.invariant
