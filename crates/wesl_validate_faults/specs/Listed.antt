-- All faults of a module that `validate_wesl` may tell, in an order that is fixed.
use Rattle.std.specs.Prelude.{◌≡◌, ◌⊎◌, ℕ, not, bytes_eq, Option, Some, None, List, [], ◌∷◌, ◌++◌, map, if◌then◌else◌}
use Rattle.std.specs.List.{filter, list_any}
use Rattle.wesl_tree_names.specs.Path.{Text}
use Rattle.wesl_tree_syntax.specs.Unit.{UnitView}
use Rattle.wesl_scope_occurrences.specs.Occurrences.{is_module_name}
use Rattle.wesl_scope_strip.specs.Declarations.{all}
use Rattle.wesl_validate_builtins.specs.Builtins.{BuiltinNames}
use Rattle.wesl_validate_rules.specs.Faults.{name_round}
use Rattle.wesl_validate_rules.specs.Names.{plain_names}
use Rattle.wesl_validate_rules.specs.Valid.{spelling, is_undefined, LeadsTo, Reaches}
use Rattle.wesl_validate_faults.specs.Findings.{Finding, undefined, duplicate, cycle, same_finding}

-- findings, of those that are one the first
abbrev pub each_once : List Finding → List Finding
each_once [] = []
each_once (f ∷ fs) = f ∷ filter (λ g. not (same_finding g f)) (each_once fs)

-- the names that stand before too, each where it stands again; `before` are those that stood so far
abbrev pub repeated_after : List Text → List Text → List Text
repeated_after before [] = []
repeated_after before (n ∷ ns) = if list_any (bytes_eq n) before then n ∷ repeated_after before ns else repeated_after (before ++ n ∷ []) ns

-- the first of a list that is so, if one is
abbrev pub IsFirst : {A : Type 0} → (A → Type 0) → List A → Option A → Type 0
IsFirst P [] first = first ≡ None
IsFirst P (x ∷ xs) first = (P x × (first ≡ Some x)) ⊎ ((P x → ⊥) × IsFirst P xs first)

module _ (u : UnitView) where
  -- the numbers of the names of imports and declarations, in document order
  abbrev pub module_numbers : List ℕ
  module_numbers = map (λ o. o.name) (filter (λ o. is_module_name o.role) (all u))

  -- the number a reaches `last`, or is it, and `last` leads back to a
  abbrev pub ClosesCycle : ℕ → ℕ → Type 0
  ClosesCycle a last = ((a ≡ last) ⊎ Reaches u a last) × LeadsTo u last a

  -- one declaration that reaches itself, if the first that leads back to it is there
  abbrev pub cycle_by : ℕ → Option ℕ → List Finding
  cycle_by a None = []
  cycle_by a (Some last) = cycle (spelling u a) (spelling u last) ∷ []

  -- of these numbers each that reaches itself, with the first in document order that leads back to it
  abbrev pub AreCycles : List ℕ → List Finding → Type 0
  AreCycles [] fs = fs ≡ []
  AreCycles (a ∷ others) fs = (last : Option ℕ) × (rest : List Finding) × IsFirst (ClosesCycle a) module_numbers last × AreCycles others rest × (fs ≡ cycle_by a last ++ rest)

  -- a name for each time that it is declared again, where the import or the declaration has no condition
  abbrev pub duplicates : List Finding
  duplicates = map duplicate (repeated_after [] (plain_names u))

module _ (u : UnitView) (b : BuiltinNames) where
  -- the references that are not defined
  abbrev pub undefineds : List Finding
  undefineds = map (λ o. undefined (name_round u o.declaration) (spelling u o.name)) (filter (is_undefined u b) (all u))

  -- all findings: first those of references, then of names that are declared again, then of declarations that reach
  -- themselves; each of the three in document order, and each finding once
  pub record AreFindings (fs : List Finding) : Type 0 where
    pub cycles : List Finding
    pub are_cycles : AreCycles u (module_numbers u) cycles
    pub listed : fs ≡ each_once (undefineds ++ duplicates u ++ cycles)
