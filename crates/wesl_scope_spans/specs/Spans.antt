-- Where the identifiers of a module stand in its source.
use Rattle.std.specs.Prelude.{ℕ, List, [], ◌∷◌, ◌++◌, map}
use Rattle.wesl_tree_base.specs.declared.span.Span.{Span}
use Rattle.wesl_tree_syntax.specs.Tree.{ForestOf, end, tree, at, ident}
use Rattle.wesl_tree_syntax.specs.Unit.{UnitOf, forest_of_unit}

-- from one byte to another
abbrev pub from_to : ℕ → ℕ → Span
from_to s e = record { start = s; end = e }

-- the span of what has none
abbrev pub nowhere : Span
nowhere = from_to 0 0

module _ {I : Type 0} where
  -- The identifiers in trees side by side, in document order, each with the span of the innermost node round it that has
  -- one. Where no node of these trees is that, it is `round`, the span of what is round all of them.
  abbrev pub located_in : Span → ForestOf I → List (I × Span)
  located_in round end = []
  located_in round (tree (ident r x) children others) = (x, round) ∷ located_in round others
  located_in round (tree (at k s e) children others) = located_in (from_to s e) children ++ located_in round others
  located_in round (tree l children others) = located_in round children ++ located_in round others

  -- their spans alone
  abbrev pub spans_in : Span → ForestOf I → List Span
  spans_in round f = map (λ x. x.1) (located_in round f)

  -- the same of a module, which itself has no span:
  abbrev pub located : UnitOf I → List (I × Span)
  located u = located_in nowhere (forest_of_unit u)

  abbrev pub spans : UnitOf I → List Span
  spans u = spans_in nowhere (forest_of_unit u)
