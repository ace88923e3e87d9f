-- Laws of the spans of identifiers.
use Rattle.std.specs.Prelude.{◌≡◌, ℕ, ◌<◌, Some, length, get_or, map}
use Rattle.std.specs.List.{All, filter, last_or}
use Rattle.wesl_tree_syntax.specs.Unit.{UnitOf}
use Rattle.wesl_scope_occurrences.specs.Occurrences.{occurrences}
use Rattle.wesl_scope_spans.specs.Extents.{extents, holds}
use Rattle.wesl_scope_spans.specs.Spans.{located, nowhere, spans}

-- the identifiers that have spans are those that occur, each once and in the same order
abbrev pub SpansAreInStep : Type 0
SpansAreInStep = (u : UnitOf ℕ) → map (λ x. x.0) (located u) ≡ map (λ o. o.name) (occurrences u)

-- of all nodes with a span that hold an identifier its span is that of the last, which is in all the others
abbrev pub SpansAreInnermost : Type 0
SpansAreInnermost = (u : UnitOf ℕ) (p : ℕ) → p < length (occurrences u)
    → Some (get_or (spans u) p nowhere) ≡ last_or (Some nowhere) (map (λ n. n.span) (filter (holds p) (extents u)))

-- where no node has a span, no identifier has one
abbrev pub NoSpansAreNowhere : Type 0
NoSpansAreNowhere = (u : UnitOf ℕ) → All (λ n. n.span ≡ nowhere) (extents u) → spans u ≡ map (λ o. nowhere) (occurrences u)
