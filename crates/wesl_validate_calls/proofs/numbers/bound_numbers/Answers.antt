use Rattle.std.proofs.Common.{◌≡◌, ◌<◌, ◌≤◌, ◌+◌, ◌||◌, length, get_or, map, drop, ap, sym, subst, ◌∙◌}
use Rattle.std.specs.List.{list_any}
use Rattle.std.proofs.lemmas.List.{drop_all}
use Rattle.wesl_scope_occurrences.specs.Views.{occurrence_view}
use Rattle.wesl_scope_strip.specs.Marks.{mark_at}
use Rattle.wesl_scope_strip.proofs.Marking.{any_next, or_assoc}
use Rattle.wesl_validate_rules.specs.Known.{binds_here}
use Rattle.wesl_validate_calls.proofs.numbers.bound_numbers.Goals as goal
use mathlib.Core.Bool.{or-false}

pub loop-occurrence-preserved : goal.loop-occurrence-preserved
loop-occurrence-preserved c =
    let found = c.args.found.now.all.items in
    let i = c.loop-occurrence.occurrence-index in
    let same : c.deref-occurrence-items.result.now ≡ found = c.deref-occurrence-items.ensures.value in
    let inside : i < length found = subst (λ xs. i < length xs) same c.loop-occurrence-test.true in
    let item = c.occurrence-item.result in
    let is : item ≡ get_or found i item = c.occurrence-item.is ∙ ap (λ xs. get_or xs i item) same in
    let old = c.loop-occurrence.bound.items in
    λ m. let rest = list_any (binds_here m) (map occurrence_view (drop (i + 1) found)) in
    ap (λ b. b || rest) (c.in_ok-mark_binder.ensures m)
    ∙ (or_assoc (mark_at old m) (binds_here m (occurrence_view item)) rest
    ∙ (ap (λ b. mark_at old m || b) (sym (any_next occurrence_view (binds_here m) found i item inside is)) ∙ c.loop-occurrence.invariant m))

pub returns : goal.returns
returns c =
    let found = c.args.found.now.all.items in
    let i = c.loop-occurrence.occurrence-index in
    let past : length found ≤ i = subst (λ xs. length xs ≤ i) c.deref-occurrence-items.ensures.value c.loop-occurrence-test.false in
    let old = c.loop-occurrence.bound.items in
    λ m. sym (or-false (mark_at old m)) ∙ (ap (λ ys. mark_at old m || list_any (binds_here m) (map occurrence_view ys)) (sym (drop_all i found past)) ∙ c.loop-occurrence.invariant m)
