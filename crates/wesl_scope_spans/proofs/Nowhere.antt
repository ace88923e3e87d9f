-- Where no node has a span, no identifier has one.
use Rattle.std.proofs.Common.{◌≡◌, ℕ, suc, ◌+◌, List, [], ◌∷◌, ◌++◌, map, arith, refl, sym, ap, ap₂, ◌∙◌}
use Rattle.std.specs.List.{All}
use Rattle.std.proofs.lemmas.List.{map-append}
use Rattle.std.proofs.lemmas.List.Elements.{All-cons, All-nil}
use Rattle.wesl_tree_base.specs.declared.span.Span.{Span}
use Rattle.wesl_tree_syntax.specs.Tree.{Forest, end, tree, at, ident, identifiers}
use Rattle.wesl_tree_syntax.specs.Unit.{forest_of_unit}
use Rattle.wesl_scope_occurrences.specs.Occurrences.{Occurrence, count, occurrences}
use Rattle.wesl_scope_occurrences.proofs.Names.{names_each}
use Rattle.wesl_scope_spans.specs.Extents.{Extent, extents_from}
use Rattle.wesl_scope_spans.specs.Laws.{NoSpansAreNowhere}
use Rattle.wesl_scope_spans.specs.Spans.{from_to, located_in, nowhere, spans_in}

abbrev IsNowhere : Extent → Type 0
IsNowhere n = n.span ≡ nowhere

others_all : (x : Extent) (xs : List Extent) → All IsNowhere (x ∷ xs) → All IsNowhere xs
others_all x xs h = λ k d l. h (suc k) d (omega (arith, l))

left_all : (xs ys : List Extent) → All IsNowhere (xs ++ ys) → All IsNowhere xs
left_all [] ys h = All-nil IsNowhere
left_all (x ∷ xs) ys h = All-cons IsNowhere x xs (h 0 x (omega arith)) (left_all xs ys (others_all x (xs ++ ys) h))

right_all : (xs ys : List Extent) → All IsNowhere (xs ++ ys) → All IsNowhere ys
right_all [] ys h = h
right_all (x ∷ xs) ys h = right_all xs ys (others_all x (xs ++ ys) h)

abbrev nowhere_each : List ℕ → List Span
nowhere_each xs = map (λ x. nowhere) xs

-- of the identifiers in trees and in those after them
both : (xs ys : List (ℕ × Span)) (is js : List ℕ) → map (λ x. x.1) xs ≡ nowhere_each is → map (λ x. x.1) ys ≡ nowhere_each js → map (λ x. x.1) (xs ++ ys) ≡ nowhere_each (is ++ js)
both xs ys is js e f = map-append (λ x. x.1) xs ys ∙ (ap₂ (λ a b. a ++ b) e f ∙ sym (map-append (λ x. nowhere) is js))

nowhere_in : (q : ℕ) (f : Forest) → All IsNowhere (extents_from q f) → spans_in nowhere f ≡ nowhere_each (identifiers f)
nowhere_in q end h = refl
nowhere_in q (tree (ident r x) children others) h = ap (λ l. nowhere ∷ l) (nowhere_in (suc q) others h)
nowhere_in q (tree (at k b e) children others) h =
    let own : Extent = record { span = from_to b e; first = q; size = count children } in
    let below = others_all own (extents_from q children ++ extents_from (q + count children) others) h in
    let none : from_to b e ≡ nowhere = h 0 own (omega arith) in
    both (located_in (from_to b e) children) (located_in nowhere others) (identifiers children) (identifiers others)
    (ap (λ s. spans_in s children) none ∙ nowhere_in q children (left_all (extents_from q children) (extents_from (q + count children) others) below))
    (nowhere_in (q + count children) others (right_all (extents_from q children) (extents_from (q + count children) others) below))
nowhere_in q (tree l children others) h =
    both (located_in nowhere children) (located_in nowhere others) (identifiers children) (identifiers others)
    (nowhere_in q children (left_all (extents_from q children) (extents_from (q + count children) others) h))
    (nowhere_in (q + count children) others (right_all (extents_from q children) (extents_from (q + count children) others) h))

same_each : (os : List (Occurrence ℕ)) → nowhere_each (map (λ o. o.name) os) ≡ map (λ o. nowhere) os
same_each [] = refl
same_each (o ∷ os) = ap (λ l. nowhere ∷ l) (same_each os)

pub nowhere_all : NoSpansAreNowhere
nowhere_all u h = nowhere_in 0 (forest_of_unit u) h ∙ (ap nowhere_each (sym (names_each u)) ∙ same_each (occurrences u))
