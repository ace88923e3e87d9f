-- Each identifier has one span.
use Rattle.std.proofs.Common.{◌≡◌, ℕ, ◌+◌, ◌∷◌, ◌++◌, length, map, refl, sym, ap, ap₂, ◌∙◌}
use Rattle.std.proofs.lemmas.List.{length-append, length-map, map-append}
use Rattle.wesl_tree_base.specs.declared.span.Span.{Span}
use Rattle.wesl_tree_syntax.specs.Tree.{Forest, end, tree, at, ident, identifiers}
use Rattle.wesl_tree_syntax.specs.Unit.{UnitOf, forest_of_unit}
use Rattle.wesl_scope_occurrences.specs.Occurrences.{count, occurrences}
use Rattle.wesl_scope_occurrences.proofs.Names.{names_each}
use Rattle.wesl_scope_spans.specs.Laws.{SpansAreInStep}
use Rattle.wesl_scope_spans.specs.Spans.{from_to, located, located_in, nowhere, spans}

abbrev name_of : ℕ × Span → ℕ
name_of x = x.0

pub names_located : (s : Span) (f : Forest) → map name_of (located_in s f) ≡ identifiers f
names_located s end = refl
names_located s (tree (ident r x) children others) = ap (λ xs. x ∷ xs) (names_located s others)
names_located s (tree (at k b e) children others) =
    map-append name_of (located_in (from_to b e) children) (located_in s others) ∙ ap₂ (λ xs ys. xs ++ ys) (names_located (from_to b e) children) (names_located s others)
names_located s (tree l children others) =
    map-append name_of (located_in s children) (located_in s others) ∙ ap₂ (λ xs ys. xs ++ ys) (names_located s children) (names_located s others)

pub all_located : (s : Span) (f : Forest) → length (located_in s f) ≡ count f
all_located s end = refl
all_located s (tree (ident r x) children others) = rw (all_located s others) refl
all_located s (tree (at k b e) children others) =
    length-append (located_in (from_to b e) children) (located_in s others) ∙ ap₂ (λ m n. m + n) (all_located (from_to b e) children) (all_located s others)
all_located s (tree l children others) =
    length-append (located_in s children) (located_in s others) ∙ ap₂ (λ m n. m + n) (all_located s children) (all_located s others)

pub in_step : SpansAreInStep
in_step u = names_located nowhere (forest_of_unit u) ∙ sym (names_each u)

pub same_length : (u : UnitOf ℕ) → length (spans u) ≡ length (occurrences u)
same_length u =
    length-map (located u) (λ x. x.1) ∙ (sym (length-map (located u) name_of) ∙ (ap length (in_step u) ∙ length-map (occurrences u) (λ o. o.name)))
