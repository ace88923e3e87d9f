-- What features leave of a unit; without features no condition is judged.
use Rattle.std.specs.Prelude.{◌≡◌, ◌⊎◌, Option, Some, None, Result, Ok, Err}
use Rattle.wesl_tree_names.specs.Errors.{IsRefusedFor}
use Rattle.wesl_tree_names.specs.declared.errors.Diagnostic.{Diagnostic, out-Diagnostic}
use Rattle.wesl_tree_names.specs.declared.errors.Error as error
use Rattle.wesl_tree_names.specs.declared.errors.ResolveError.{ResolveError}
use Rattle.wesl_tree_syntax.specs.Unit.{UnitView}
use Rattle.wesl_tree.specs.Translation.{unit_view}
use Rattle.wesl_tree.specs.declared.unit.TranslationUnit.{TranslationUnit}
use Rattle.wesl_cond_features.specs.Features.{answer_to}
use Rattle.wesl_cond_features.specs.declared.features.Features.{Features}
use Rattle.wesl_cond.specs.Units.{left_of, IsFaultlessUnit, RefusesUnit}

-- no fault of a condition stands, and the second unit is what is left of the first
abbrev pub IsLeft : Option Features → UnitView → UnitView → Type 0
IsLeft None before after = after ≡ before
IsLeft (Some features) before after = IsFaultlessUnit (answer_to features) before × (after ≡ left_of (answer_to features) before)

-- an error is that of a diagnostic that tells a fault of a condition
abbrev pub IsRefusedBy : Option Features → UnitView → error.Error → Type 0
IsRefusedBy None before e = ⊥
IsRefusedBy (Some features) before e = (told : Diagnostic) × RefusesUnit (answer_to features) before told × ((out-Diagnostic told).error ≡ e)

-- such a fault, handed on in the refusal that a resolver makes of it, or as want of memory
abbrev pub IsHandedOn : (error.Error → Type 0) → error.Error → Type 0
IsHandedOn P e = (fault : error.Error) × P fault × ((e ≡ error.Memory) ⊎ ((r : ResolveError) × (e ≡ error.Resolve r) × IsRefusedFor (λ g. g ≡ fault) r))

-- what is left of the unit, or a fault that stands in it
abbrev pub IsConditioned : Option Features → TranslationUnit → Result TranslationUnit error.Error → Type 0
IsConditioned features given (Ok made) = IsLeft features (unit_view given) (unit_view made)
IsConditioned features given (Err e) = IsHandedOn (IsRefusedBy features (unit_view given)) e
