-- What a module is to its calls, as tables tell it.
use Rattle.std.specs.Prelude.{◌≡◌, ◌↔◌, ℕ, Bool, ◌||◌, ◌==◌, Option, Some, None, List, [], ◌∷◌, ◌++◌, flat_map, get_or, if◌then◌else◌}
use Rattle.wesl_tree_syntax.specs.Unit.{UnitView}
use Rattle.wesl_scope_occurrences.specs.Occurrences.{OccurrenceIn, is_module_name}
use Rattle.wesl_scope_strip.specs.Declarations.{all}
use Rattle.wesl_scope_strip.specs.Marks.{mark_at}
use Rattle.wesl_validate_rules.specs.Graphs.{Graph, edges_at, Leads, IsClosed}
use Rattle.wesl_validate_rules.specs.Calls.{ShapeOf, alias_of, other}
use Rattle.wesl_validate_rules.specs.Valid.{is_bound, shape_of, Declares}

-- What a module is to its calls. Declarations are told by their places among the declarations, and names by their numbers.
pub record Tables : Type 0 where
  -- of each declaration what it is to a call
  pub shapes : List (ShapeOf ℕ)
  -- of each number the declarations that declare it
  pub declarers : Graph
  -- of each number the names for which its aliases stand
  pub aliases : Graph
  -- of each number whether a binder has it
  pub bound : List Bool

-- what declaration j is to a call; past the last one it is a value
abbrev pub shape_at : List (ShapeOf ℕ) → ℕ → ShapeOf ℕ
shape_at shapes j = get_or shapes j other

-- the name for which an alias of a plain name stands; nothing else stands for one
abbrev pub target_of : ShapeOf ℕ → Option ℕ
target_of (alias_of t) = Some t
target_of _ = None

-- the list of the number, or the empty list where there is none
abbrev pub one_or_none : Option ℕ → List ℕ
one_or_none None = []
one_or_none (Some x) = x ∷ []

-- the name for which a declaration stands, if it is an alias of a plain one
abbrev pub target_at : List (ShapeOf ℕ) → Option ℕ → Option ℕ
target_at shapes None = None
target_at shapes (Some j) = target_of (shape_at shapes j)

module _ {B : Type 0} where
  -- the declaration of which it is the name, if it is the name of one
  abbrev pub declaration_named : OccurrenceIn ℕ B → Option ℕ
  declaration_named o = if is_module_name o.role then o.declaration else None

  -- the name for which an identifier stands, if it is the name of an alias of a plain name
  abbrev pub alias_target : List (ShapeOf ℕ) → OccurrenceIn ℕ B → Option ℕ
  alias_target shapes o = target_at shapes (declaration_named o)

  -- the edge from the number m that an identifier makes
  abbrev pub edges_here : (OccurrenceIn ℕ B → Option ℕ) → ℕ → OccurrenceIn ℕ B → List ℕ
  edges_here f m o = if o.name == m then one_or_none (f o) else []

  -- the edges from the number m that these identifiers make, in their order
  abbrev pub edges_of : (OccurrenceIn ℕ B → Option ℕ) → ℕ → List (OccurrenceIn ℕ B) → List ℕ
  edges_of f m os = flat_map (edges_here f m) os

-- the edge from the number n, of those from the number m
abbrev pub edge_from : ℕ → Option ℕ → ℕ → List ℕ
edge_from n target m = if n == m then one_or_none target else []

-- from each number these edges are put after those before
abbrev pub AddsEdges : (ℕ → List ℕ) → Graph → Graph → Type 0
AddsEdges edges old new = (m : ℕ) → edges_at new m ≡ edges_at old m ++ edges m

-- the numbers that pass are marked too
abbrev pub AddsMarks : (ℕ → Bool) → List Bool → List Bool → Type 0
AddsMarks passes old new = (m : ℕ) → mark_at new m ≡ (mark_at old m || passes m)

-- the declarations of a number, in document order
abbrev pub declarers : UnitView → ℕ → List ℕ
declarers u m = edges_of declaration_named m (all u)

-- they tell what the module is
pub record AreTables (u : UnitView) (t : Tables) : Type 0 where
  pub shaped : (j : ℕ) → shape_at t.shapes j ≡ shape_of u j
  pub listed : (m : ℕ) → edges_at t.declarers m ≡ declarers u m
  pub declared : (m j : ℕ) → Leads t.declarers m j ↔ Declares u j m
  pub aliased : (a b : ℕ) → Leads t.aliases a b ↔ ((j : ℕ) × Declares u j a × (shape_of u j ≡ alias_of b))
  pub closed : IsClosed t.aliases
  pub bounded : (m : ℕ) → mark_at t.bound m ≡ is_bound u m
