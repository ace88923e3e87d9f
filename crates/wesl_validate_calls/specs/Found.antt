-- A fault, as the code keeps it.
use Rattle.std.specs.Prelude.{string_bytes}
use Rattle.std.specs.Option.{option_map}
use Rattle.wesl_tree_syntax.specs.Unit.{UnitView}
use Rattle.wesl_validate_builtins.specs.Builtins.{BuiltinNames}
use Rattle.wesl_validate_rules.specs.Faults.{IsWeslFault}
use Rattle.wesl_validate_calls.specs.declared.fault.Fault.{Fault}

-- it is a fault of WESL, and so none of a call, in the declaration that the fault names
abbrev pub IsFault : UnitView → BuiltinNames → Fault → Type 0
IsFault u b f = IsWeslFault u b (option_map string_bytes f.declaration) f.error
