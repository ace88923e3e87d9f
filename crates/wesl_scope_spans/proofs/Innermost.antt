-- The span of an identifier is that of the last node that holds it.
use Rattle.std.proofs.Common.{◌≡◌, ℕ, zero, suc, ◌+◌, ◌-◌, ◌<◌, ◌≤◌, true, false, List, [], ◌∷◌, ◌++◌, length, get_or, map, arith, refl, sym, ap, ◌∙◌, subst, append-nil, Some, nat_le}
use mathlib.Core.Logic.{◌⊎◌, inl, inr}
use Rattle.std.specs.List.{filter, last_or}
use Rattle.std.proofs.Math.Bool.{and-false}
use Rattle.std.proofs.lemmas.Bool.{le-leb, le-ltb, lt-leb, lt-ltb}
use Rattle.std.proofs.lemmas.Bool.Decides.{leb_tells}
use Rattle.std.proofs.lemmas.List.{get_or-append_right, get_or_append_left, length-map, map-append}
use Rattle.std.proofs.lemmas.List.Elements.{filter-append}
use Rattle.wesl_tree_base.specs.declared.span.Span.{Span}
use Rattle.wesl_tree_syntax.specs.Tree.{Forest, end, tree, at, ident}
use Rattle.wesl_tree_syntax.specs.Unit.{forest_of_unit}
use Rattle.wesl_scope_occurrences.specs.Occurrences.{count}
use Rattle.wesl_scope_spans.specs.Extents.{Extent, extents_from, holds}
use Rattle.wesl_scope_spans.specs.Laws.{SpansAreInnermost}
use Rattle.wesl_scope_spans.specs.Spans.{from_to, located_in, nowhere, spans, spans_in}
use Rattle.wesl_scope_spans.proofs.Counted.{all_located, same_length}

abbrev span_of : Extent → Span
span_of n = n.span

-- the spans of the nodes that hold the identifier at place p
abbrev holding : ℕ → List Extent → List Span
holding p ns = map span_of (filter (holds p) ns)

holding_append : (p : ℕ) (xs ys : List Extent) → holding p (xs ++ ys) ≡ holding p xs ++ holding p ys
holding_append p xs ys = ap (map span_of) (filter-append (holds p) xs ys) ∙ map-append span_of (filter (holds p) xs) (filter (holds p) ys)

keep : (p : ℕ) (n : Extent) (ns : List Extent) → n.first ≤ p → p < n.first + n.size → holding p (n ∷ ns) ≡ n.span ∷ holding p ns
keep p n ns h k = rw (le-leb n.first p h, lt-ltb p (n.first + n.size) k) refl

skip_early : (p : ℕ) (n : Extent) (ns : List Extent) → p < n.first → holding p (n ∷ ns) ≡ holding p ns
skip_early p n ns h = rw (lt-leb n.first p h) refl

skip_late : (p : ℕ) (n : Extent) (ns : List Extent) → n.first + n.size ≤ p → holding p (n ∷ ns) ≡ holding p ns
skip_late p n ns h = rw (le-ltb p (n.first + n.size) h, and-false (nat_le n.first p)) refl

neither : (p : ℕ) (xs ys : List Extent) → holding p xs ≡ [] → holding p ys ≡ [] → holding p (xs ++ ys) ≡ []
neither p xs ys e f = holding_append p xs ys ∙ rw (e, f) refl

-- nodes after the identifier
none_after : (p q : ℕ) (f : Forest) → p < q → holding p (extents_from q f) ≡ []
none_after p q end h = refl
none_after p q (tree (ident r x) children others) h = none_after p (suc q) others (omega (arith, h))
none_after p q (tree (at k b e) children others) h =
    skip_early p (record { span = from_to b e; first = q; size = count children }) (extents_from q children ++ extents_from (q + count children) others) h
    ∙ neither p (extents_from q children) (extents_from (q + count children) others) (none_after p q children h) (none_after p (q + count children) others (omega (arith, h)))
none_after p q (tree l children others) h =
    neither p (extents_from q children) (extents_from (q + count children) others) (none_after p q children h) (none_after p (q + count children) others (omega (arith, h)))

-- nodes before it
none_before : (p q : ℕ) (f : Forest) → q + count f ≤ p → holding p (extents_from q f) ≡ []
none_before p q end h = refl
none_before p q (tree (ident r x) children others) h = none_before p (suc q) others (omega (arith, h))
none_before p q (tree (at k b e) children others) h =
    skip_late p (record { span = from_to b e; first = q; size = count children }) (extents_from q children ++ extents_from (q + count children) others) (omega (arith, h))
    ∙ neither p (extents_from q children) (extents_from (q + count children) others) (none_before p q children (omega (arith, h))) (none_before p (q + count children) others (omega (arith, h)))
none_before p q (tree l children others) h =
    neither p (extents_from q children) (extents_from (q + count children) others) (none_before p q children (omega (arith, h))) (none_before p (q + count children) others (omega (arith, h)))

-- the span at place i of those, where q identifiers come before, is that of the last node that holds it, or else s
abbrev IsLast : Span → List Span → ℕ → ℕ → List Extent → Type 0
IsLast s xs q i ns = Some (get_or xs i nowhere) ≡ last_or (Some s) (holding (q + i) ns)

all_spans : (s : Span) (f : Forest) → length (spans_in s f) ≡ count f
all_spans s f = length-map (located_in s f) (λ x. x.1) ∙ all_located s f

module _ (s r : Span) (children others : Forest) (q i : ℕ) where
  abbrev deep : List Extent
  deep = extents_from q children

  abbrev wide : List Extent
  wide = extents_from (q + count children) others

  -- in the first trees
  in_first : i < count children → IsLast r (spans_in r children) q i deep → IsLast r (spans_in r children ++ spans_in s others) q i (deep ++ wide)
  in_first h is =
      let short : i < length (spans_in r children) = rw (all_spans r children) h in
      let same : holding (q + i) (deep ++ wide) ≡ holding (q + i) deep =
      holding_append (q + i) deep wide ∙ (ap (λ l. holding (q + i) deep ++ l) (none_after (q + i) (q + count children) others (omega (arith, h))) ∙ append-nil (holding (q + i) deep)) in
      ap Some (get_or_append_left (spans_in r children) (spans_in s others) nowhere i short) ∙ (is ∙ ap (last_or (Some r)) (sym same))

  -- in those after them
  in_others : count children ≤ i → IsLast s (spans_in s others) (q + count children) (i - count children) wide → IsLast s (spans_in r children ++ spans_in s others) q i (deep ++ wide)
  in_others h is =
      let same : holding (q + i) (deep ++ wide) ≡ holding (q + i) wide =
      holding_append (q + i) deep wide ∙ ap (λ l. l ++ holding (q + i) wide) (none_before (q + i) q children (omega (arith, h))) in
      let place : q + count children + (i - count children) ≡ q + i = omega (arith, h) in
      ap Some (get_or-append_right (spans_in r children) (spans_in s others) (count children) i nowhere (all_spans r children) h)
      ∙ (subst (λ p. Some (get_or (spans_in s others) (i - count children) nowhere) ≡ last_or (Some s) (holding p wide)) place is ∙ ap (last_or (Some s)) (sym same))

fewer : (m n i : ℕ) → m ≤ i → i < m + n → i - m < n
fewer m n i h k = omega (arith, h, k)

-- below a node without a span, and after it
in_parts : (s : Span) (children others : Forest) (q i : ℕ) → i < count children + count others
    → ((j : ℕ) → j < count children → IsLast s (spans_in s children) q j (extents_from q children))
    → ((j : ℕ) → j < count others → IsLast s (spans_in s others) (q + count children) j (extents_from (q + count children) others))
    → IsLast s (map (λ x. x.1) (located_in s children ++ located_in s others)) q i (extents_from q children ++ extents_from (q + count children) others)
in_parts s children others q i h inner outer = by (leb_tells (count children) i)
  where
    by : ((nat_le (count children) i ≡ true) × (count children ≤ i)) ⊎ ((nat_le (count children) i ≡ false) × (i < count children))
        → IsLast s (map (λ x. x.1) (located_in s children ++ located_in s others)) q i (extents_from q children ++ extents_from (q + count children) others)
    by (inl t) =
        ap (λ l. Some (get_or l i nowhere)) (map-append (λ x. x.1) (located_in s children) (located_in s others))
        ∙ in_others s s children others q i t.1 (outer (i - count children) (fewer (count children) (count others) i t.1 h))
    by (inr t) =
        ap (λ l. Some (get_or l i nowhere)) (map-append (λ x. x.1) (located_in s children) (located_in s others)) ∙ in_first s s children others q i t.1 (inner i t.1)

-- below a node with the span r, and after it
in_parts_of : (s r : Span) (children others : Forest) (q i : ℕ) → i < count children + count others
    → ((j : ℕ) → j < count children → IsLast r (spans_in r children) q j (extents_from q children))
    → ((j : ℕ) → j < count others → IsLast s (spans_in s others) (q + count children) j (extents_from (q + count children) others))
    → IsLast s (map (λ x. x.1) (located_in r children ++ located_in s others)) q i
    (record { span = r; first = q; size = count children } ∷ (extents_from q children ++ extents_from (q + count children) others))
in_parts_of s r children others q i h inner outer = by (leb_tells (count children) i)
  where
    own : Extent
    own = record { span = r; first = q; size = count children }

    by : ((nat_le (count children) i ≡ true) × (count children ≤ i)) ⊎ ((nat_le (count children) i ≡ false) × (i < count children))
        → IsLast s (map (λ x. x.1) (located_in r children ++ located_in s others)) q i (own ∷ (extents_from q children ++ extents_from (q + count children) others))
    by (inl t) =
        ap (λ l. Some (get_or l i nowhere)) (map-append (λ x. x.1) (located_in r children) (located_in s others))
        ∙ (in_others s r children others q i t.1 (outer (i - count children) (fewer (count children) (count others) i t.1 h))
        ∙ ap (last_or (Some s)) (sym (skip_late (q + i) own (extents_from q children ++ extents_from (q + count children) others) (let m = t.1 in omega (arith, m)))))
    by (inr t) =
        ap (λ l. Some (get_or l i nowhere)) (map-append (λ x. x.1) (located_in r children) (located_in s others))
        ∙ (in_first s r children others q i t.1 (inner i t.1)
        ∙ ap (last_or (Some s)) (sym (keep (q + i) own (extents_from q children ++ extents_from (q + count children) others) (omega arith) (let m = t.1 in omega (arith, m)))))

innermost_in : (s : Span) (f : Forest) (q i : ℕ) → i < count f → IsLast s (spans_in s f) q i (extents_from q f)
innermost_in s end q i h = absurd (omega (arith, h))
innermost_in s (tree (ident r x) children others) q zero h =
    ap (last_or (Some s)) (sym (none_after (q + zero) (suc q) others (omega arith)))
innermost_in s (tree (ident r x) children others) q (suc j) h =
    let place : suc q + j ≡ q + suc j = omega arith in
    subst (λ p. Some (get_or (spans_in s others) j nowhere) ≡ last_or (Some s) (holding p (extents_from (suc q) others))) place (innermost_in s others (suc q) j (omega (arith, h)))
innermost_in s (tree (at k b e) children others) q i h =
    in_parts_of s (from_to b e) children others q i h (innermost_in (from_to b e) children q) (innermost_in s others (q + count children))
innermost_in s (tree l children others) q i h =
    in_parts s children others q i h (innermost_in s children q) (innermost_in s others (q + count children))

pub innermost : SpansAreInnermost
innermost u p h =
    let few : p < count (forest_of_unit u) = subst (λ n. p < n) (sym (same_length u) ∙ all_spans nowhere (forest_of_unit u)) h in
    let first : 0 + p ≡ p = omega arith in
    subst (λ n. Some (get_or (spans u) p nowhere) ≡ last_or (Some nowhere) (holding n (extents_from 0 (forest_of_unit u)))) first (innermost_in nowhere (forest_of_unit u) 0 p few)
