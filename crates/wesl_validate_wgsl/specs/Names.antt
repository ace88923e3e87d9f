-- The names that WGSL declares.
use Rattle.std.specs.Prelude.{◌++◌, ◌||◌, Bool, List, map}
use Rattle.wesl_tree_names.specs.Path.{Text}
use Rattle.wesl_validate_builtins.specs.Builtins.{BuiltinNames, is_among}
use Rattle.wesl_validate_wgsl.specs.declared.names.TheConstants.{FUNCTIONS, CONSTRUCTORS, OTHERS}

-- what these texts say
abbrev pub said : List (record { now : Text }) → List Text
said = map (λ s. s.now)

-- whether it is one of them
abbrev pub is_wgsl_name : Text → Bool
is_wgsl_name n = is_among n (said FUNCTIONS) || (is_among n (said CONSTRUCTORS) || is_among n (said OTHERS))

-- all of them, and those that a call may name
abbrev pub wgsl : BuiltinNames
wgsl = record { names = (said FUNCTIONS ++ said CONSTRUCTORS) ++ said OTHERS; functions = said FUNCTIONS; constructors = said CONSTRUCTORS }
