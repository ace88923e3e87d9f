-- All calls of a module that fit nothing, each with the place of the name that is called.
use Rattle.std.specs.Prelude.{◌≡◌, ℕ, Option, Some, None, List, [], ◌∷◌, ◌++◌, get_or, map}
use Rattle.wesl_tree_syntax.specs.Unit.{UnitView}
use Rattle.wesl_tree.specs.Translation.{unit_view}
use Rattle.wesl_tree.specs.declared.unit.TranslationUnit.{TranslationUnit}
use Rattle.wesl_validate_builtins.specs.Builtins.{BuiltinNames}
use Rattle.wesl_validate_rules.specs.Calls.{CallOf}
use Rattle.wesl_validate_calls.specs.Made.{call_told}
use Rattle.wesl_validate_calls.specs.Verdicts.{IsVerdict, all_calls}
use Rattle.wesl_validate_calls.specs.declared.calls.Call.{Call}
use Rattle.wesl_validate_calls.specs.declared.misfit.Misfit.{Misfit}
use Rattle.wesl_validate_misfits.specs.declared.placed.PlacedMisfit.{PlacedMisfit}

-- the calls that values of the code stand for, each with the number of its declaration
abbrev pub calls_view : List (ℕ × Call) → List (ℕ × CallOf ℕ)
calls_view cs = map (λ c. (c.0, call_told c.1)) cs

-- a call of what has a place among these numbers, by its number; past the last one that is 0
abbrev pub call_there : List ℕ → CallOf ℕ → CallOf ℕ
call_there numbers c = record { callee = get_or numbers c.callee 0; arguments = c.arguments }

-- the misfit of a call in that declaration, if there is one, at the place that is called
abbrev pub placed_misfit : ℕ → CallOf ℕ → Option Misfit → List PlacedMisfit
placed_misfit j c None = []
placed_misfit j c (Some m) = record { place = c.callee; declaration = j; misfit = m } ∷ []

module _ (u : UnitView) (b : BuiltinNames) (numbers : List ℕ) where
  -- of these calls of places those that fit nothing, one after the other
  abbrev pub ArePlacedAmong : List (ℕ × CallOf ℕ) → List PlacedMisfit → Type 0
  ArePlacedAmong [] ms = ms ≡ []
  ArePlacedAmong (c ∷ cs) ms =
      (verdict : Option Misfit) × (rest : List PlacedMisfit) × IsVerdict u b (call_there numbers c.1) verdict × ArePlacedAmong cs rest × (ms ≡ placed_misfit c.0 c.1 verdict ++ rest)

  -- those of a whole module in which the numbers of identifiers are places
  abbrev pub ArePlaced : UnitView → List PlacedMisfit → Type 0
  ArePlaced placed ms = ArePlacedAmong (all_calls placed) ms

-- so of these calls of a module, as the code has it
abbrev pub HasPlaced : TranslationUnit → BuiltinNames → List ℕ → List (ℕ × CallOf ℕ) → List PlacedMisfit → Type 0
HasPlaced unit b numbers cs ms = ArePlacedAmong (unit_view unit) b numbers cs ms
