use Rattle.std.proofs.Common.{◌≡◌, ◌++◌, ◌<◌, ◌≤◌, length, get_or, map, take_all, ap, sym, subst, ◌∙◌}
use Rattle.wesl_scope_occurrences.specs.Views.{occurrence_view}
use Rattle.wesl_validate_rules.proofs.Stepping.{joined_next}
use Rattle.wesl_validate_faults.specs.Gathered.{placed_here, placed_among}
use Rattle.wesl_validate_faults.proofs.members.placed_names.Goals as goal

pub loop-occurrence-preserved : goal.loop-occurrence-preserved
loop-occurrence-preserved c =
    let found = c.args.found.now.all.items in
    let i = c.loop-occurrence.occurrence-index in
    let same : c.deref-occurrence-items.result.now ≡ found = c.deref-occurrence-items.ensures.value in
    let inside : i < length found = subst (λ xs. i < length xs) same c.loop-occurrence-test.true in
    let item = c.occurrence-item.result in
    let is : item ≡ get_or found i item = c.occurrence-item.is ∙ ap (λ xs. get_or xs i item) same in
    c.in_ok-add_placed.ensures
    ∙ (ap (λ ns. ns ++ placed_here (occurrence_view item)) c.loop-occurrence.invariant
    ∙ sym (joined_next occurrence_view placed_here found i item inside is))

pub returns : goal.returns
returns c =
    let found = c.args.found.now.all.items in
    let i = c.loop-occurrence.occurrence-index in
    let past : length found ≤ i = subst (λ xs. length xs ≤ i) c.deref-occurrence-items.ensures.value c.loop-occurrence-test.false in
    c.loop-occurrence.invariant ∙ ap (λ ys. placed_among (map occurrence_view ys)) (take_all i found past)
