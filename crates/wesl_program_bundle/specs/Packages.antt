-- Packages of a bundle: the modules of one, and the packages that it depends on.
use Rattle.std.specs.Prelude.{List, [], ◌∷◌, if◌then◌else◌, Option, Some, None, codes}
use Rattle.std.specs.Str.{bytes_eq}
use Rattle.serde_json.specs.Data.{Data, null, boolean, number, string, array, object, Items, no_items, item, Members, no_members, member}
use Rattle.serde_json.specs.Find.{get}
use Rattle.wesl_tree_names.specs.Path.{Text}
use Rattle.wesl_program_bundle.specs.Reading.{◌>>=◌, name_in, or_default, required_in}
use Rattle.wesl_json_form.specs.Keys.{has_only}

-- Modules, in order: the name of one, the value that its unit is read from, the modules below it, and then the others.
pub data PackageModules : Type 0 where
  no_modules : PackageModules
  with_module : Text → Data → PackageModules → PackageModules → PackageModules

-- one module
pub record PackageModule : Type 0 where
  pub name : Text
  pub unit : Data
  pub modules : PackageModules

-- a module, and then the others
abbrev pub module_before : PackageModule → PackageModules → PackageModules
module_before m ms = with_module m.name m.unit m.modules ms

-- Packages, in order: the root module of one, the packages that it depends on, and then the others.
pub data Packages : Type 0 where
  no_packages : Packages
  with_package : PackageModule → Packages → Packages → Packages

-- one package, which goes by the name of its root
pub record Package : Type 0 where
  pub root : PackageModule
  pub dependencies : Packages

-- a package, and then the others
abbrev pub package_before : Package → Packages → Packages
package_before p ps = with_package p.root p.dependencies ps

-- ---- which values are packages

-- the keys that a module of a package may have
abbrev pub package_module_keys : List Text
package_module_keys = codes "name" ∷ codes "unit" ∷ codes "modules" ∷ []

-- the keys that a package may have
abbrev pub package_keys : List Text
package_keys = codes "name" ∷ codes "unit" ∷ codes "modules" ∷ codes "dependencies" ∷ []

-- the module that members say, with the modules below it
abbrev pub module_with : Data → Option PackageModules → Option PackageModule
module_with d below = do
  name ← required_in name_in (codes "name") d
  unit ← get (codes "unit") d
  modules ← below
  Some (record { name = name; unit = unit; modules = modules })

abbrev mutual
  -- the module that a value is: an object that has no other keys, in which the name and the unit have to be there
  pub package_module_in : Data → Option PackageModule
  package_module_in null = None
  package_module_in (boolean b) = None
  package_module_in (number n) = None
  package_module_in (string s) = None
  package_module_in (array ds) = None
  package_module_in (object ms) = if has_only package_module_keys (object ms) then module_with (object ms) (modules_below ms) else None

  -- the modules at the key `modules`, none where it is not there
  pub modules_below : Members → Option PackageModules
  modules_below no_members = Some no_modules
  modules_below (member k d ms) = if bytes_eq (codes "modules") k then package_modules_in d else modules_below ms

  -- the modules that a list says, in its order; a value that is no list is refused
  pub package_modules_in : Data → Option PackageModules
  package_modules_in null = None
  package_modules_in (boolean b) = None
  package_modules_in (number n) = None
  package_modules_in (string s) = None
  package_modules_in (array ds) = each_module ds
  package_modules_in (object ms) = None

  -- the modules that the items of a list are; where one is no module, the list is refused
  pub each_module : Items → Option PackageModules
  each_module no_items = Some no_modules
  each_module (item d ds) = do
    m ← package_module_in d
    ms ← each_module ds
    Some (module_before m ms)

-- a root, with the packages that it depends on
abbrev pub package_with : Option PackageModule → Option Packages → Option Package
package_with root below = do
  r ← root
  ds ← below
  Some (record { root = r; dependencies = ds })

abbrev mutual
  -- the package that a value is: an object that has no other keys, whose name and unit have to be there and are the root's
  pub package_in : Data → Option Package
  package_in null = None
  package_in (boolean b) = None
  package_in (number n) = None
  package_in (string s) = None
  package_in (array ds) = None
  package_in (object ms) = if has_only package_keys (object ms) then package_with (module_with (object ms) (modules_below ms)) (dependencies_below ms) else None

  -- the packages at the key `dependencies`, none where it is not there
  pub dependencies_below : Members → Option Packages
  dependencies_below no_members = Some no_packages
  dependencies_below (member k d ms) = if bytes_eq (codes "dependencies") k then packages_in d else dependencies_below ms

  -- the packages that a list says, in its order; a value that is no list is refused
  pub packages_in : Data → Option Packages
  packages_in null = None
  packages_in (boolean b) = None
  packages_in (number n) = None
  packages_in (string s) = None
  packages_in (array ds) = each_package ds
  packages_in (object ms) = None

  -- the packages that the items of a list are; where one is no package, the list is refused
  pub each_package : Items → Option Packages
  each_package no_items = Some no_packages
  each_package (item d ds) = do
    p ← package_in d
    ps ← each_package ds
    Some (package_before p ps)

-- the modules at the key, none where it is not there
abbrev pub modules_at : Text → Data → Option PackageModules
modules_at key d = or_default no_modules package_modules_in (get key d)
