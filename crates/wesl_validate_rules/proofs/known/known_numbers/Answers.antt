use Rattle.std.proofs.Common.{◌≡◌, ◌<◌, ◌≤◌, ◌+◌, ◌||◌, length, get_or, map, drop, ap, sym, subst, ◌∙◌, arith}
use Rattle.std.proofs.lemmas.List.{drop_all, with_items_is}
use Rattle.wesl_scope_occurrences.specs.Views.{occurrence_view}
use Rattle.wesl_scope_strip.specs.Marks.{mark_at}
use Rattle.wesl_scope_strip.proofs.Marking.{any_next, or_assoc}
use Rattle.wesl_validate_rules.specs.Known.{binds_here, binds}
use Rattle.wesl_validate_rules.proofs.known.known_numbers.Goals as goal
use mathlib.Core.Bool.{or-false}

pub loop-occurrence-preserved : goal.loop-occurrence-preserved
loop-occurrence-preserved c =
    let found = c.args.found.now.all.items in
    let i = c.loop-occurrence.occurrence-index in
    let same : c.deref-occurrence-items.result.now ≡ found = c.deref-occurrence-items.ensures.value in
    let inside : i < length found = subst (λ xs. i < length xs) same c.loop-occurrence-test.true in
    let item = c.occurrence-item.result in
    let is : item ≡ get_or found i item = c.occurrence-item.is ∙ ap (λ xs. get_or xs i item) same in
    let old = c.loop-occurrence.known in
    let f = c.mark_binder in
    let lengths = ap length c.deref_mut.ensures.value in
    let all_marks : length f.new.known ≡ old.len = omega (arith, f.auto.known, lengths, old.ok.0) in
    let now = with_items_is old f.new.known all_marks in
    record {
      all = ap length now ∙ (f.auto.known ∙ (lengths ∙ c.loop-occurrence.invariant.all));
      marked = λ m l.
          let rest = binds (map occurrence_view (drop (i + 1) found)) m in
          let marked : mark_at f.new.known m ≡ (mark_at old.items m || binds_here m (occurrence_view item))
          = f.ensures m (omega (arith, l, lengths, c.loop-occurrence.invariant.all)) ∙ ap (λ ms. mark_at ms m || binds_here m (occurrence_view item)) c.deref_mut.ensures.value in
          ap (λ ms. mark_at ms m || rest) now
          ∙ (ap (λ b. b || rest) marked
          ∙ (or_assoc (mark_at old.items m) (binds_here m (occurrence_view item)) rest
          ∙ (ap (λ b. mark_at old.items m || b) (sym (any_next occurrence_view (binds_here m) found i item inside is)) ∙ c.loop-occurrence.invariant.marked m l)));
    }

pub returns : goal.returns
returns c =
    let found = c.args.found.now.all.items in
    let i = c.loop-occurrence.occurrence-index in
    let past : length found ≤ i = subst (λ xs. length xs ≤ i) c.deref-occurrence-items.ensures.value c.loop-occurrence-test.false in
    λ m l. sym (or-false (mark_at c.loop-occurrence.known.items m))
    ∙ (ap (λ ys. mark_at c.loop-occurrence.known.items m || binds (map occurrence_view ys) m) (sym (drop_all i found past)) ∙ c.loop-occurrence.invariant.marked m l)
