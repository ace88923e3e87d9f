-- What the built-in names of a bundle ask for.
use Rattle.std.specs.Prelude.{◌≡◌, Option, Some, None}
use Rattle.wesl_program_bundle.specs.Builtins as said
use Rattle.wesl_program.specs.Validity.{built_in}
use Rattle.wesl_text_linked.specs.declared.request.Validation.{Validation}
use Rattle.wesl_text_linked.specs.declared.request.Validation.TheVariants as asked
use Rattle.wesl_validate_builtins.specs.Builtins.{BuiltinNames}

-- nothing is asked where a bundle names none, and else that the unit is valid in WGSL under them
abbrev pub IsAskedBy : Option said.Builtins → Validation → BuiltinNames → Type 0
IsAskedBy None validation names = validation ≡ asked.Nothing
IsAskedBy (Some b) validation names = (validation ≡ asked.Calls) × (names ≡ built_in b)
