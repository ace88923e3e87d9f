-- Which value stands at a path that begins in a package of a bundle: of modules with one name, and of packages, the first counts
-- (WESL, "Imports").
use Rattle.std.specs.Prelude.{List, [], ◌∷◌, if◌then◌else◌, Option, Some, None, Result, Ok, Err}
use Rattle.std.specs.Str.{bytes_eq}
use Rattle.serde_json.specs.Data.{Data}
use Rattle.wesl_tree_base.specs.Pieces.{cut, slash}
use Rattle.wesl_tree_names.specs.Path.{Text}
use Rattle.wesl_resolve_base.specs.Packages.{no_dependency, no_package, no_submodule}
use Rattle.wesl_program_bundle.specs.Packages.{PackageModules, no_modules, with_module, PackageModule, Packages, no_packages, with_package, Package}

-- the first of the modules that has the name
abbrev pub module_named : Text → PackageModules → Option PackageModule
module_named n no_modules = None
module_named n (with_module name unit below others) = if bytes_eq name n then Some (record { name = name; unit = unit; modules = below }) else module_named n others

-- the first of the packages whose root has the name
abbrev pub package_named : Text → Packages → Option Package
package_named n no_packages = None
package_named n (with_package root below others) = if bytes_eq root.name n then Some (record { root = root; dependencies = below }) else package_named n others

-- where what was found leads on to, or what is said where nothing was
abbrev pub led : {X : Type 0} → Text → (X → Result Data Text) → Option X → Result Data Text
led message on None = Err message
led message on (Some x) = on x

-- the unit of the module that the components lead to, each among the modules below the one before, or what is said where one is
-- missing
abbrev pub unit_along : PackageModule → List Text → Result Data Text
unit_along m [] = Ok m.unit
unit_along m (c ∷ cs) = led (no_submodule m.name c) (λ s. unit_along s cs) (module_named c m.modules)

-- the same from the root of the package that the further parts of a name lead to, each among the dependencies of the one before
abbrev pub unit_in_package : Text → Package → List Text → List Text → Result Data Text
unit_in_package whole k [] components = unit_along k.root components
unit_in_package whole k (part ∷ parts) components =
    led (no_dependency part whole) (λ d. unit_in_package whole d parts components) (package_named part k.dependencies)

-- the same from the package that the parts of a name lead to: the first part is among the packages, each further one a dependency
abbrev pub unit_among : Text → Packages → List Text → List Text → Result Data Text
unit_among whole listed [] components = Err (no_package whole)
unit_among whole listed (part ∷ parts) components =
    led (no_package whole) (λ k. unit_in_package whole k parts components) (package_named part listed)

-- The unit of the module at a path that begins in the package of this name: the name is cut at each slash, and the components
-- lead on from the root of the package that the parts lead to. Where there is none, what is said of that.
abbrev pub packaged_unit : Packages → Text → List Text → Result Data Text
packaged_unit listed name components = unit_among name listed (cut slash name) components
