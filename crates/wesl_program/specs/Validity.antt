-- What the built-in names of a bundle ask of its linked unit (WGSL, "Declaration and Scope" and "Function Calls").
use Rattle.std.specs.Prelude.{◌≡◌, ◌⊎◌, List, Option, Some, None}
use Rattle.wesl_tree_names.specs.declared.errors.Error as error
use Rattle.wesl_tree_names.specs.declared.errors.Diagnostic.{Diagnostic}
use Rattle.wesl_tree_syntax.specs.Unit.{UnitView}
use Rattle.wesl_validate_builtins.specs.Builtins.{BuiltinNames}
use Rattle.wesl_link_engine.specs.Worlds.{Module}
use Rattle.wesl_program_bundle.specs.Builtins as said
use Rattle.wesl_program_bundle.specs.Bundle.{Bundle}
use Rattle.wesl_program.specs.Linking.{LinksTo, IsLinkRefused}
use Rattle.wesl_validate_rules.specs.Valid.{IsValidWgsl}
use Rattle.wesl_validate_rules.specs.Faults.{RefusesWgsl}

-- the names that a bundle calls built in, as validation takes them
abbrev pub built_in : said.Builtins → BuiltinNames
built_in b = record { names = b.names; functions = b.functions; constructors = b.constructors }

-- the unit is valid under the built-in names; where a bundle names none, nothing is asked
abbrev pub IsValidUnder : Option said.Builtins → UnitView → Type 0
IsValidUnder None u = Unit {0}
IsValidUnder (Some b) u = IsValidWgsl u (built_in b)

-- validation may refuse the unit with this error, which may be want of memory; where a bundle names nothing built in, it
-- refuses none
abbrev pub RefusesUnit : Option said.Builtins → UnitView → error.Error → Type 0
RefusesUnit None u e = ⊥
RefusesUnit (Some b) u e = (d : Diagnostic) × RefusesWgsl u (built_in b) d × (d.error ≡ e)

-- the bundle links to a unit that validation may refuse with this error
abbrev pub IsUnitRefused : Bundle → error.Error → Type 0
IsUnitRefused b e = (w : List Module) × (u : UnitView) × LinksTo b w u × RefusesUnit b.builtins u e

-- the link of the bundle may be refused with the error, or else its linked unit may
abbrev pub RefusesBundle : Bundle → error.Error → Type 0
RefusesBundle b e = IsLinkRefused b e ⊎ IsUnitRefused b e
