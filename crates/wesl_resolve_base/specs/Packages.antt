-- Modules of packages: the first of several that have one name counts (WESL, "Imports").
use Rattle.std.specs.Prelude.{◌≡◌, ◌⊎◌, Bool, Some, None, Result, Ok, Err, List, [], ◌∷◌, ◌++◌, codes, string_bytes}
use Rattle.std.specs.Str.{bytes_eq}
use Rattle.std.specs.List.{find}
use Rattle.wesl_tree_names.specs.Path.{Text, Path, Origin, absolute, relative, from_package}
use Rattle.wesl_tree_base.specs.Pieces.{cut, slash}
use Rattle.wesl_tree_names.specs.Errors.{IsModuleNotFound}
use Rattle.wesl_tree_names.specs.declared.errors.Error.{Error}
use Rattle.wesl_tree_names.specs.declared.errors.ResolveError.{ResolveError}
use Rattle.wesl_tree_syntax.specs.Unit.{UnitOf}
use Rattle.wesl_resolve_base.specs.Refusals.{IsToldRefusal}
use Rattle.wesl_resolve_base.specs.declared.packages.CodegenModule.{CodegenModule, out-CodegenModule}
use Rattle.wesl_resolve_base.specs.declared.packages.CodegenPkg.{CodegenPkg, out-CodegenPkg}

-- the name of a module
abbrev pub module_name : CodegenModule → Text
module_name m = string_bytes (out-CodegenModule m).name

-- the source text of a module
abbrev pub source_of : CodegenModule → Text
source_of m = string_bytes (out-CodegenModule m).source

-- whether a module has the name
abbrev pub has_name : Text → CodegenModule → Bool
has_name name m = bytes_eq (module_name m) name

-- a package goes by the name of its root
abbrev pub root_has_name : Text → CodegenPkg → Bool
root_has_name name k = has_name name (out-CodegenPkg k).root

-- what is said of a component that names no submodule of the module of this name
abbrev pub no_submodule : Text → Text → Text
no_submodule name component = codes "in module `" ++ name ++ codes "`, no submodule named `" ++ component ++ codes "`"

-- what is said of the whole name of a package whose first part names none of the packages that were added
abbrev pub no_package : Text → Text
no_package whole = codes "dependency `" ++ whole ++ codes "` not found"

-- what is said of a further part of the whole name of a package, where it names no dependency of the package before
abbrev pub no_dependency : Text → Text → Text
no_dependency part whole = codes "dependency `" ++ part ++ codes "` not found in package path `" ++ whole ++ codes "`"

-- the module that the components lead to, each among the submodules of the one before, or what is said where one is missing
abbrev pub module_below : CodegenModule → List Text → Result CodegenModule Text
module_below m [] = Ok m
module_below m (c ∷ cs) = elim (find (has_name c) (out-CodegenModule m).submodules.items) as (λ _. Result CodegenModule Text) [
  | None ↦ Err (no_submodule (module_name m) c)
  | Some s ↦ module_below s cs
]

-- the package that the further parts of a name lead to, each among the dependencies of the one before
abbrev pub package_below : Text → CodegenPkg → List Text → Result CodegenPkg Text
package_below whole k [] = Ok k
package_below whole k (part ∷ parts) = elim (find (root_has_name part) (out-CodegenPkg k).dependencies.items) as (λ _. Result CodegenPkg Text) [
  | None ↦ Err (no_dependency part whole)
  | Some d ↦ package_below whole d parts
]

-- the package that the parts of a name lead to: the first part is among the packages, each further one a dependency
abbrev pub package_at : List CodegenPkg → Text → List Text → Result CodegenPkg Text
package_at packages whole [] = Err (no_package whole)
package_at packages whole (part ∷ parts) = elim (find (root_has_name part) packages) as (λ _. Result CodegenPkg Text) [
  | None ↦ Err (no_package whole)
  | Some k ↦ package_below whole k parts
]

-- the module that the components lead to from the root of a package that was found, or what is said where none was
abbrev pub module_in : Result CodegenPkg Text → List Text → Result CodegenModule Text
module_in (Ok k) components = module_below (out-CodegenPkg k).root components
module_in (Err message) components = Err message

-- the module at these components under an origin, or what is said where there is none; under an origin that is no package there
-- never is one
abbrev pub module_from : List CodegenPkg → Origin → List Text → Result CodegenModule Text
module_from packages (from_package name) components = module_in (package_at packages name (cut slash name)) components
module_from packages absolute components = Err (codes "resolver can only resolve package imports")
module_from packages (relative n) components = Err (codes "resolver can only resolve package imports")

-- The module at a path: its package's name is cut at each slash, and the components lead on from the root of the
-- package that the parts lead to. Where there is none, what is said of that.
abbrev pub module_at : List CodegenPkg → Path → Result CodegenModule Text
module_at packages p = module_from packages p.origin p.components

-- the source at the path is read as the unit
abbrev pub IsReadIn : (Text → UnitOf Text → Type 0) → List CodegenPkg → Path → UnitOf Text → Type 0
IsReadIn reads packages p u = (m : CodegenModule) × (module_at packages p ≡ Ok m) × reads (source_of m) u

-- nothing is there, and the refusal says what is said of that
abbrev pub IsSaid : {X : Type 0} → Path → Result X Text → ResolveError → Type 0
IsSaid p found e = (message : Text) × (found ≡ Err message) × IsModuleNotFound p message e

-- no module is at the path, and the error says why
abbrev pub IsMissingIn : List CodegenPkg → Path → ResolveError → Type 0
IsMissingIn packages p e = IsSaid p (module_at packages p) e

-- no module is at the path, or its source cannot be read, which is told with the path and the source
abbrev pub IsRefusedIn : (Text → Error → Type 0) → List CodegenPkg → Path → ResolveError → Type 0
IsRefusedIn unreadable packages p e = IsMissingIn packages p e ⊎ ((m : CodegenModule) × (module_at packages p ≡ Ok m) × IsToldRefusal (unreadable (source_of m)) p None (Some (source_of m)) e)

-- a module is at the path, and the text is its source
abbrev pub IsSourceIn : List CodegenPkg → Path → Text → Type 0
IsSourceIn packages p text = (m : CodegenModule) × (module_at packages p ≡ Ok m) × (source_of m ≡ text)
