-- What a walk adds to the spans that it has found. Nothing is said of it once memory was wanting, which stays noted.
use Rattle.std.specs.Prelude.{◌≡◌, false, List, ◌++◌}
use Rattle.wesl_tree_base.specs.declared.span.Span.{Span}
use Rattle.wesl_tree_syntax.specs.Tree.{Forest, Tree, before, end}
use Rattle.wesl_scope_spans.specs.Spans.{spans_in}
use Rattle.wesl_scope_spans.specs.declared.places.Places.{Places}

-- these spans more
pub record Gains (old : Places) (more : List Span) (new : Places) : Type 0 where
  pub added : new.is_refused ≡ false → (old.is_refused ≡ false) × (new.spans.items ≡ old.spans.items ++ more)

-- those of the identifiers in trees side by side, where the innermost node round all of these has the span `round`
pub record AddsAll (round : Span) (old : Places) (f : Forest) (new : Places) : Type 0 where
  pub gains : Gains old (spans_in round f) new

-- those of one tree
abbrev pub Adds : Span → Places → Tree → Places → Type 0
Adds round old t new = AddsAll round old (before t end) new

-- the same whatever span is round the tree: each identifier in it is in a node that has a span
abbrev pub AddsAnywhere : Places → Tree → Places → Type 0
AddsAnywhere old t new = (round : Span) → Adds round old t new
