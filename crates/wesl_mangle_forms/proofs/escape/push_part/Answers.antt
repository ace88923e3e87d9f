use Rattle.std.proofs.Common.{◌∙◌, sym, ap, ◌∷◌, ◌++◌, ℕ}
use Rattle.std.specs.Fmt.{decimal}
use Rattle.wesl_mangle_forms.proofs.Writing.{part-plain, part-told}
use Rattle.wesl_mangle_forms.proofs.Written.{worded}
use Rattle.wesl_mangle_forms.proofs.escape.push_part.Goals as goal

pub returns-then-count-eq0 : goal.returns-then-count-eq0
returns-then-count-eq0 c = worded (sym (part-plain c.args.part.now (sym c.underscores-count.ensures ∙ c.if-count-eq0.true))) c.push.ensures

pub returns-else-count-eq0 : goal.returns-else-count-eq0
returns-else-count-eq0 c =
    let n = c.args.part.now in
    let e = c.underscores-count.ensures in
    worded (ap (λ (k : ℕ). 95 ∷ (decimal k ++ n)) e ∙ sym (part-told n (λ z. c.if-count-eq0.false (e ∙ z)))) (c.add.ensures _ c.told_part.ensures)
