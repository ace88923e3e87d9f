-- How diagnostics tell what was found.
use Rattle.std.specs.Prelude.{◌≡◌, None, List, string_bytes}
use Rattle.std.specs.Option.{option_map}
use Rattle.std.specs.List.{AllZip}
use Rattle.wesl_tree_base.specs.declared.faults.ValidateError.{ValidateError}
use Rattle.wesl_tree_base.specs.declared.faults.ValidateError.TheVariants as fault
use Rattle.wesl_tree_names.specs.declared.errors.Error as error
use Rattle.wesl_tree_names.specs.declared.errors.Diagnostic.{Diagnostic}
use Rattle.wesl_tree_syntax.specs.Unit.{UnitView}
use Rattle.wesl_validate_builtins.specs.Builtins.{BuiltinNames}
use Rattle.wesl_validate_faults.specs.Findings.{Finding, undefined, duplicate, cycle, miscounted, not_callable, holder}
use Rattle.wesl_validate_faults.specs.Listed.{AreFindings}
use Rattle.wesl_validate_faults.specs.Calls.{AreFindingsWgsl}

-- the error is of the kind of the finding, with its names and counts; nothing is asked of the declaration that holds it
abbrev pub IsErrorOf : Finding → ValidateError → Type 0
IsErrorOf (undefined d n) (fault.UndefinedSymbol m) = string_bytes m ≡ n
IsErrorOf (duplicate n) (fault.Duplicate m) = string_bytes m ≡ n
IsErrorOf (cycle n v) (fault.Cycle m w) = (string_bytes m ≡ n) × (string_bytes w ≡ v)
IsErrorOf (miscounted d n x g) (fault.ParamCount m y h) = (string_bytes m ≡ n) × (y ≡ x) × (h ≡ g)
IsErrorOf (not_callable d n) (fault.NotCallable m) = string_bytes m ≡ n
IsErrorOf _ _ = ⊥

-- the error is one of validation, and that of the finding
abbrev pub Says : Finding → error.Error → Type 0
Says f (error.Validate e) = IsErrorOf f e
Says f _ = ⊥

-- a diagnostic tells a finding and the declaration that holds it, and nothing else
pub record TellsFinding (f : Finding) (d : Diagnostic) : Type 0 where
  pub says : Says f d.error
  pub held : option_map string_bytes d.declaration ≡ holder f
  pub no_module : d.«module» ≡ None
  pub no_display : d.display ≡ None
  pub no_span : d.span ≡ None
  pub no_source : d.source ≡ None

-- diagnostics tell all findings of a module, one by one
pub record TellsWesl (u : UnitView) (b : BuiltinNames) (told : List Diagnostic) : Type 0 where
  pub findings : List Finding
  pub are_all : AreFindings u b findings
  pub each : AllZip TellsFinding findings told

-- and those that calls have too
pub record TellsWgsl (u : UnitView) (b : BuiltinNames) (told : List Diagnostic) : Type 0 where
  pub findings : List Finding
  pub are_all : AreFindingsWgsl u b findings
  pub each : AllZip TellsFinding findings told
