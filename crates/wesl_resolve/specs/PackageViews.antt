-- What packages and their modules say, field by field.
use Rattle.std.specs.Prelude.{List, [], ◌∷◌, string_bytes}
use Rattle.wesl_tree_names.specs.Path.{Text}
use Rattle.wesl_resolve_base.specs.declared.packages.CodegenModule.{CodegenModule}
use Rattle.wesl_resolve_base.specs.declared.packages.CodegenModule.TheOpen.{CodegenModule-F}
use Rattle.wesl_resolve_base.specs.declared.packages.CodegenModule.TheFolds.{fold-CodegenModule}
use Rattle.wesl_resolve_base.specs.declared.packages.CodegenPkg.{CodegenPkg}
use Rattle.wesl_resolve_base.specs.declared.packages.CodegenPkg.TheOpen.{CodegenPkg-F}
use Rattle.wesl_resolve_base.specs.declared.packages.CodegenPkg.TheFolds.{fold-CodegenPkg}

-- Modules, in order: the name of one, its source, the modules below it, and then the others.
pub data SaidModules : Type 0 where
  no_modules : SaidModules
  with_module : Text → Text → SaidModules → SaidModules → SaidModules

-- one module
pub record SaidModule : Type 0 where
  pub name : Text
  pub source : Text
  pub submodules : SaidModules

-- a module, and then the others
abbrev pub module_before : SaidModule → SaidModules → SaidModules
module_before m ms = with_module m.name m.source m.submodules ms

-- the modules of a list, in its order
abbrev pub modules_in_order : List SaidModule → SaidModules
modules_in_order [] = no_modules
modules_in_order (m ∷ ms) = module_before m (modules_in_order ms)

-- a module, with what each module below it says
abbrev pub module_step : CodegenModule-F SaidModule → SaidModule
module_step m = record { name = string_bytes m.name; source = string_bytes m.source; submodules = modules_in_order m.submodules.items }

-- what a module says
abbrev pub module_view : CodegenModule → SaidModule
module_view = fold-CodegenModule SaidModule module_step

-- Packages, in order: the name of the crate of one, its root, the packages that it depends on, and then the others.
pub data SaidPackages : Type 0 where
  no_packages : SaidPackages
  with_package : Text → SaidModule → SaidPackages → SaidPackages → SaidPackages

-- one package
pub record SaidPackage : Type 0 where
  pub crate_name : Text
  pub root : SaidModule
  pub dependencies : SaidPackages

-- a package, and then the others
abbrev pub package_before : SaidPackage → SaidPackages → SaidPackages
package_before p ps = with_package p.crate_name p.root p.dependencies ps

-- the packages of a list, in its order
abbrev pub packages_in_order : List SaidPackage → SaidPackages
packages_in_order [] = no_packages
packages_in_order (p ∷ ps) = package_before p (packages_in_order ps)

-- a package, with what each package that it depends on says
abbrev pub package_step : CodegenPkg-F SaidPackage → SaidPackage
package_step p = record { crate_name = string_bytes p.crate_name; root = module_view p.root; dependencies = packages_in_order p.dependencies.items }

-- what a package says
abbrev pub package_view : CodegenPkg → SaidPackage
package_view = fold-CodegenPkg SaidPackage package_step
