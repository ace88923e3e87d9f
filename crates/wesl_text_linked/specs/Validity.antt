-- What is asked of the names of a linked unit (WGSL, "Declaration and Scope" and "Function Calls").
use Rattle.std.specs.Prelude.{◌≡◌, Option, Some, slice_get, string_bytes}
use Rattle.wesl_tree_names.specs.Path.{Text}
use Rattle.wesl_tree_names.specs.Errors.{IsBare}
use Rattle.wesl_tree_names.specs.declared.errors.Error as error
use Rattle.wesl_tree_names.specs.declared.errors.Diagnostic.{Diagnostic}
use Rattle.wesl_tree_base.specs.declared.faults.ValidateError.TheVariants as fault
use Rattle.wesl_tree_syntax.specs.Unit.{UnitView}
use Rattle.wesl_validate_builtins.specs.Builtins.{BuiltinNames}
use Rattle.wesl_validate_rules.specs.Valid.{IsDefined, IsValidWgsl}
use Rattle.wesl_validate_rules.specs.Faults.{RefusesWgsl}
use Rattle.wesl_validate_free.specs.Free.{free_names}
use Rattle.wesl_text_linked.specs.declared.request.Validation.{Validation}
use Rattle.wesl_text_linked.specs.declared.request.Validation.TheVariants as asked

-- the names of the unit are as is asked: nothing, that each is declared or built in, or that the unit is valid in WGSL
abbrev pub IsValidAs : Validation → UnitView → BuiltinNames → Type 0
IsValidAs asked.Nothing u builtins = Unit {0}
IsValidAs asked.Names u builtins = IsDefined u builtins
IsValidAs asked.Calls u builtins = IsValidWgsl u builtins

-- the error tells the name as one that nothing declares, or want of memory
abbrev pub TellsUndefined : Option Text → error.Error → Type 0
TellsUndefined name (error.Validate (fault.UndefinedSymbol n)) = name ≡ Some (string_bytes n)
TellsUndefined name error.Memory = Unit {0}
TellsUndefined name _ = ⊥

-- a diagnostic without a place tells the first free name of the unit, or want of memory
abbrev pub RefusesNames : UnitView → BuiltinNames → Diagnostic → Type 0
RefusesNames u builtins d = (e : error.Error) × TellsUndefined (slice_get (free_names u builtins) 0) e × IsBare e d

-- the diagnostic may refuse the unit, of which this is asked
abbrev pub RefusesAs : Validation → UnitView → BuiltinNames → Diagnostic → Type 0
RefusesAs asked.Nothing u builtins d = ⊥
RefusesAs asked.Names u builtins d = RefusesNames u builtins d
RefusesAs asked.Calls u builtins d = RefusesWgsl u builtins d
