-- The steps of a module's numbers, as they are listed: from the number of a declaration to those to which it refers.
use Rattle.std.specs.Prelude.{◌≡◌, ◌++◌, ℕ, ◌&&◌, ◌==◌, Option, Some, None, List, [], ◌∷◌, flat_map, if◌then◌else◌}
use Rattle.wesl_scope_occurrences.specs.Occurrences.{OccurrenceIn, is_module_name, is_reference}
use Rattle.wesl_scope_strip.specs.Declarations.{lies_in}
use Rattle.wesl_validate_rules.specs.Graphs.{Graph, edges_at}

-- those to which a declaration refers, by a list of what each refers to
abbrev pub used_by : Graph → Option ℕ → List ℕ
used_by uses None = []
used_by uses (Some j) = edges_at uses j

module _ {B : Type 0} where
  -- what an identifier refers to in declaration j
  abbrev pub referred_here : ℕ → OccurrenceIn ℕ B → List ℕ
  referred_here j o = if is_reference o.role && lies_in j o.declaration then o.name ∷ [] else []

  -- the numbers to which declaration j refers
  abbrev pub referred : List (OccurrenceIn ℕ B) → ℕ → List ℕ
  referred os j = flat_map (referred_here j) os

  -- the steps from the number a that an identifier makes: where it is the name of a declaration
  abbrev pub steps_here : (Option ℕ → List ℕ) → ℕ → OccurrenceIn ℕ B → List ℕ
  steps_here used a o = if is_module_name o.role && o.name == a then used o.declaration else []

  -- the steps that an identifier makes were added
  abbrev pub AddsSteps : (Option ℕ → List ℕ) → OccurrenceIn ℕ B → Graph → Graph → Type 0
  AddsSteps used o old new = (a : ℕ) → edges_at new a ≡ edges_at old a ++ steps_here used a o

  -- the numbers to which a declaration refers, by the identifiers of the module; none where there is no declaration
  abbrev pub used_in : List (OccurrenceIn ℕ B) → Option ℕ → List ℕ
  used_in os None = []
  used_in os (Some j) = referred os j

  -- the steps from the number a
  abbrev pub steps : List (OccurrenceIn ℕ B) → ℕ → List ℕ
  steps os a = flat_map (steps_here (used_in os) a) os
