-- The packages that are kept, beside the values that they were read from.
use Rattle.std.specs.Prelude.{List, [], ◌∷◌, map, string_bytes}
use Rattle.wesl_json_form.specs.View.{borrowed_view}
use Rattle.wesl_program_bundle.specs.Packages as said
use Rattle.wesl_program_bundle.specs.declared.packages.PackageModule.{PackageModule}
use Rattle.wesl_program_bundle.specs.declared.packages.PackageModule.TheOpen.{PackageModule-F}
use Rattle.wesl_program_bundle.specs.declared.packages.PackageModule.TheFolds.{fold-PackageModule}
use Rattle.wesl_program_bundle.specs.declared.packages.Package.{Package}
use Rattle.wesl_program_bundle.specs.declared.packages.Package.TheOpen.{Package-F}
use Rattle.wesl_program_bundle.specs.declared.packages.Package.TheFolds.{fold-Package}

-- the modules of a list, in its order
abbrev pub package_modules : List said.PackageModule → said.PackageModules
package_modules [] = said.no_modules
package_modules (m ∷ ms) = said.module_before m (package_modules ms)

-- the packages of a list, in its order
abbrev pub packages_of : List said.Package → said.Packages
packages_of [] = said.no_packages
packages_of (p ∷ ps) = said.package_before p (packages_of ps)

-- a module, with each module below it seen already
abbrev pub module_step : PackageModule-F said.PackageModule → said.PackageModule
module_step m = record { name = string_bytes m.name; unit = borrowed_view m.unit; modules = package_modules m.modules.items }

-- what a module in the code says, with all modules below it
abbrev pub package_module_view : PackageModule → said.PackageModule
package_module_view = fold-PackageModule said.PackageModule module_step

-- what each module of a list in the code says
abbrev pub package_modules_view : List PackageModule → said.PackageModules
package_modules_view ms = package_modules (map package_module_view ms)

-- a package, with each package that it depends on seen already
abbrev pub package_step : Package-F said.Package → said.Package
package_step p = record { root = package_module_view p.root; dependencies = packages_of p.dependencies.items }

-- what a package in the code says, with all packages on which it depends
abbrev pub package_view : Package → said.Package
package_view = fold-Package said.Package package_step

-- what each package of a list in the code says
abbrev pub packages_view : List Package → said.Packages
packages_view ps = packages_of (map package_view ps)
