-- Marks of declarations and of numbers, one for each.
use Rattle.std.specs.Prelude.{ℕ, Bool, ◌&&◌, List}
use Rattle.std.specs.List.{list_any}
use Rattle.wesl_scope_occurrences.specs.Occurrences.{OccurrenceIn, is_module_name}
use Rattle.wesl_scope_strip.specs.Declarations.{lies_in}
pub use Rattle.wesl_scope_graph.specs.Marks.{mark_at, unmarked}

module _ {B : Type 0} where
  -- whether an identifier is the name of declaration j
  abbrev pub names_here : ℕ → OccurrenceIn ℕ B → Bool
  names_here j o = is_module_name o.role && lies_in j o.declaration

  -- whether declaration j declares a name
  abbrev pub has_name : List (OccurrenceIn ℕ B) → ℕ → Bool
  has_name os j = list_any (names_here j) os
