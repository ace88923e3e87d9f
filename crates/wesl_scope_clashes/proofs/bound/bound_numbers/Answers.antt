use Rattle.std.proofs.Common.{◌≡◌, ◌||◌, ◌∙◌, length, map, ap, arith, false}
use Rattle.std.specs.List.{list_any}
use Rattle.std.proofs.lemmas.List.{with_items_is, length-replicate}
use Rattle.wesl_scope_occurrences.specs.Views.{occurrence_view}
use Rattle.wesl_scope_strip.specs.Marks.{mark_at}
use Rattle.wesl_scope_numbers.specs.Test.{has_number}
use Rattle.wesl_scope_clashes.proofs.Steps.{unset_at}
use Rattle.wesl_scope_clashes.proofs.bound.bound_numbers.Goals as goal

pub returns : goal.returns
returns c = λ m l.
    let old = c.in_ok-bound.bound in
    let f = c.mark_binders in
    let lengths = ap length c.deref_mut.ensures.value in
    let many : length old.items ≡ c.args.count = ap length c.in_ok-bound.ensures ∙ length-replicate c.args.count false in
    let all_marks : length f.new.marks ≡ old.len = omega (arith, f.auto.marks, lengths, old.ok.0) in
    let rest = list_any (has_number m) (map occurrence_view c.args.all.now) in
    ap (λ ms. mark_at ms m) (with_items_is old f.new.marks all_marks)
    ∙ (f.ensures m (omega (arith, l, lengths, many))
    ∙ (ap (λ ms. mark_at ms m || rest) c.deref_mut.ensures.value ∙ ap (λ b. b || rest) (ap (λ ms. mark_at ms m) c.in_ok-bound.ensures ∙ unset_at c.args.count m)))
