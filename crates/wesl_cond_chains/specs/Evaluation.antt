-- What judging a formula promises, and how a diagnostic tells a fault.
use Rattle.std.specs.Prelude.{◌≡◌, ℕ, List, [], ◌⊎◌, Result, Ok, Err}
use Rattle.wesl_cond_chains.specs.FormulaFaults.{IsAmong, Tells}
use Rattle.wesl_cond_chains.specs.Places.{Place}
use Rattle.wesl_tree_names.specs.Errors.{IsPlaced}
use Rattle.wesl_tree_names.specs.Path.{Text}
use Rattle.wesl_tree_names.specs.declared.errors.Diagnostic.{Diagnostic, out-Diagnostic}
use Rattle.wesl_tree_names.specs.declared.errors.Error as error

-- a diagnostic tells a fault, each flag by its name in the table, with its span unless that is `0..0`, and nothing else
abbrev pub TellsPlace : List Text → Place ℕ → Diagnostic → Type 0
TellsPlace names place told = Tells names (out-Diagnostic told).error place.fault × IsPlaced (out-Diagnostic told).error place.span told

-- a diagnostic tells a fault so, or, with the same span and nothing else, that memory is wanting to tell it
abbrev pub TellsOrLacks : List Text → Place ℕ → Diagnostic → Type 0
TellsOrLacks names place told = TellsPlace names place told ⊎ IsPlaced error.Memory place.span told

-- a diagnostic tells one of these faults, or that memory is wanting to tell it
abbrev pub Refuses : List Text → List (Place ℕ) → Diagnostic → Type 0
Refuses names places told = (place : Place ℕ) × IsAmong place places × TellsOrLacks names place told

-- a success where there is no fault, a refusal where there is one
abbrev pub Judges : {A : Type 0} → List Text → List (Place ℕ) → Result A Diagnostic → Type 0
Judges names places (Ok x) = places ≡ []
Judges names places (Err told) = Refuses names places told
