-- The fault of a call that fits nothing.
use Rattle.std.specs.Prelude.{◌≡◌, List, Option, string_bytes}
use Rattle.std.specs.Option.{option_map}
use Rattle.wesl_tree_names.specs.Path.{Text}
use Rattle.wesl_tree_base.specs.declared.faults.ValidateError.{ValidateError}
use Rattle.wesl_tree_base.specs.declared.faults.ValidateError.TheVariants as fault
use Rattle.wesl_tree_syntax.specs.Unit.{UnitView, name_in}
use Rattle.wesl_validate_builtins.specs.Builtins.{BuiltinNames}
use Rattle.wesl_validate_rules.specs.Faults.{IsMiscounted, IsNotCallable}
use Rattle.wesl_validate_calls.specs.declared.misfit.Misfit.{Misfit}
use Rattle.wesl_validate_calls.specs.declared.misfit.Misfit.TheVariants as misfit
use Rattle.wesl_validate_calls.specs.declared.fault.Fault.{Fault}

-- the error tells the misfit, by the name of its number
abbrev pub TellsMisfit : List Text → Misfit → ValidateError → Type 0
TellsMisfit names (misfit.ParamCount e k g) (fault.ParamCount n x y) = (string_bytes n ≡ name_in names e) × (x ≡ k) × (y ≡ g)
TellsMisfit names (misfit.NotCallable e) (fault.NotCallable n) = string_bytes n ≡ name_in names e
TellsMisfit names _ _ = ⊥

-- the error is that of a call that fits nothing, in the declaration of this name, or in one without: the call has another
-- count of arguments than what it calls takes, or it calls what cannot be called
abbrev pub TellsCall : UnitView → BuiltinNames → Option Text → ValidateError → Type 0
TellsCall u b within (fault.ParamCount n expected got) = IsMiscounted u b within (string_bytes n) expected got
TellsCall u b within (fault.NotCallable n) = IsNotCallable u b within (string_bytes n)
TellsCall u b within _ = ⊥

-- it is the fault of such a call in the declaration that the fault names, and never one of a name
abbrev pub IsCallFault : UnitView → BuiltinNames → Fault → Type 0
IsCallFault u b f = TellsCall u b (option_map string_bytes f.declaration) f.error
