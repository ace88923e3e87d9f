-- What the modules and packages of a bundle hand out at a path, and what they refuse.
use Rattle.std.specs.Prelude.{◌≡◌, List, Option, Result, Ok, Err, codes}
use Rattle.std.specs.Option.{ok_or}
use Rattle.serde_json.specs.Data.{Data}
use Rattle.wesl_tree_syntax.specs.Unit.{UnitOf}
use Rattle.wesl_tree_names.specs.Path.{Text, Path, Origin, absolute, relative, from_package}
use Rattle.wesl_tree_names.specs.Errors.{IsModuleNotFound, IsRefusedWith}
use Rattle.wesl_tree_names.specs.declared.errors.ResolveError.{ResolveError}
use Rattle.wesl_json.specs.UnitTexts.{IsSpelled, IsTreeFault}
use Rattle.wesl_program_bundle.specs.Packages.{Packages}
use Rattle.wesl_program_packages.specs.Held.{held_unit}
use Rattle.wesl_program_packages.specs.Units.{packaged_unit}
use Rattle.wesl_program.specs.Bundle.{Module, unit_at}
use Rattle.wesl_program.specs.Holds.{values_of, value_at}
use Rattle.wesl_program.specs.declared.bundle_resolver.BundleSources.{BundleSources}
use Rattle.wesl_program.specs.declared.modules.BundleUnits.{BundleUnits}

-- what is said of a path at which the bundle has no module of its own
abbrev pub virtual_module : Text
virtual_module = codes "virtual module"

-- the unit of the bundle's own module at a path, or what is said where there is none
abbrev pub own_found : (Path → Option Data) → Path → Result Data Text
own_found own p = ok_or (own p) virtual_module

-- the value of the unit at a path whose origin is given: in a named package what the package has at the components of the path,
-- and with any other origin that of the bundle's own module at the path
abbrev pub found_from : (Text → List Text → Result Data Text) → (Path → Option Data) → Origin → Path → Result Data Text
found_from in_package own (from_package name) p = in_package name p.components
found_from in_package own absolute p = own_found own p
found_from in_package own (relative n) p = own_found own p

-- The value of the unit at a path: where the path begins in a named package, that of the package's module there, and else that
-- of the bundle's own module there. Where there is none, what is said of that.
abbrev pub found_by : (Text → List Text → Result Data Text) → (Path → Option Data) → Path → Result Data Text
found_by in_package own p = found_from in_package own p.origin p

-- in the packages and the modules that a bundle lists
abbrev pub found : Packages → List Module → Path → Result Data Text
found packages modules = found_by (packaged_unit packages) (λ p. unit_at p modules)

-- the unit that the value stands for is handed out
abbrev pub IsHanded : Result Data Text → UnitOf Text → Type 0
IsHanded (Ok d) u = IsSpelled d u
IsHanded (Err message) u = ⊥

-- The refusal says what is said where nothing is. A value that is no unit's is refused with the fault of its reading.
abbrev pub IsRefused : Path → Result Data Text → ResolveError → Type 0
IsRefused p (Ok d) e = IsRefusedWith (IsTreeFault d) e
IsRefused p (Err message) e = IsModuleNotFound p message e

-- ---- what is held of a bundle

-- the unit at a path in a map
abbrev pub unit_in : BundleUnits → Path → Option Data
unit_in m p = value_at p (values_of m.units.entries)

-- the value of the unit at a path in what is held
abbrev pub found_in : BundleSources → Path → Result Data Text
found_in s = found_by (held_unit s.packages) (unit_in s.modules)

-- the same is found as in the packages and the modules of the bundle
abbrev pub HoldsBundle : Packages → List Module → BundleSources → Type 0
HoldsBundle packages modules s = (p : Path) → found_in s p ≡ found packages modules p
