-- Where the modules of packages stand in the lists that hold them, and what is noted of that.
use Rattle.std.specs.Prelude.{◌≡◌, ℕ, Bool, true, false, Option, Some, None, option_map, Ok, List, [], ◌∷◌, Vec, String, string_bytes}
use Rattle.std.specs.declared.alloc.Global.{Global}
use Rattle.std.specs.HashSet.{HashSet, contains}
use Rattle.std.specs.List.{find, list_any, slice_get}
use Rattle.std.specs.Option.{is_some}
use Rattle.std.specs.Result.{result_ok}
use Rattle.std.specs.String.{string_eq}
use Rattle.std.specs.HashMap.{HashMap, get}
use Rattle.wesl_tree_base.specs.Pieces.{has, slash}
use Rattle.wesl_tree_names.specs.Path.{Text, Path, path_view}
use Rattle.wesl_tree_names.specs.PathLaws.{path_eq}
use Rattle.wesl_tree_names.specs.declared.path.ModulePath.{ModulePath}
use Rattle.wesl_resolve_base.specs.Packages.{has_name, root_has_name, module_at, module_name, source_of}
use Rattle.wesl_resolve_base.specs.declared.packages.CodegenModule.{CodegenModule, out-CodegenModule}
use Rattle.wesl_resolve_base.specs.declared.packages.CodegenPkg.{CodegenPkg, out-CodegenPkg}

-- the module to which places lead, each among the modules below the one before
abbrev pub module_along : CodegenModule → List ℕ → Option CodegenModule
module_along m [] = Some m
module_along m (i ∷ is) = elim (slice_get (out-CodegenModule m).submodules.items i) as (λ _. Option CodegenModule) [
  | None ↦ None
  | Some s ↦ module_along s is
]

-- the module that stands there: from the root of the package at the first place the others lead on
abbrev pub module_standing : List CodegenPkg → List ℕ → Option CodegenModule
module_standing ks [] = None
module_standing ks (i ∷ is) = elim (slice_get ks i) as (λ _. Option CodegenModule) [
  | None ↦ None
  | Some k ↦ module_along (out-CodegenPkg k).root is
]

-- the module stands there, and is the one at the path
abbrev pub StandsAt : List CodegenPkg → Path → List ℕ → CodegenModule → Type 0
StandsAt ks p is m = (module_standing ks is ≡ Some m) × (module_at ks p ≡ Ok m)

-- the first module of its name among those below another, where it stands
abbrev pub IsFirstBelow : CodegenModule → ℕ → CodegenModule → Type 0
IsFirstBelow m i s =
    (slice_get (out-CodegenModule m).submodules.items i ≡ Some s) × (find (has_name (module_name s)) (out-CodegenModule m).submodules.items ≡ Some s)

-- the name of a package, which is that of its root
abbrev pub package_name : CodegenPkg → Text
package_name k = module_name (out-CodegenPkg k).root

-- the first package of its name, where it stands; by a name with a slash no path leads to it
abbrev pub IsFirstPackage : List CodegenPkg → ℕ → CodegenPkg → Type 0
IsFirstPackage ks i k = (slice_get ks i ≡ Some k) × (find (root_has_name (package_name k)) ks ≡ Some k) × (has slash (package_name k) ≡ false)

-- the set has the name of each package
abbrev pub HaveNames : {S : Type 0} → List CodegenPkg → HashSet (String Global) S → Type 0
HaveNames ks names = (n : String Global) → list_any (root_has_name (string_bytes n)) ks ≡ true → contains string_eq names n ≡ true

-- a module stands where it is noted of a path, and it says what the one at the path says
abbrev pub AreNoted : {S : Type 0} → List CodegenPkg → HashMap ModulePath (Vec ℕ Global) S → Type 0
AreNoted ks places = (p : ModulePath) (is : Vec ℕ Global) → get path_eq places p ≡ Some is
    → (is_some (module_standing ks is.items) ≡ true)
    × (option_map source_of (module_standing ks is.items) ≡ option_map source_of (result_ok (module_at ks (path_view p))))

-- what is noted now is noted rightly, where what was noted before is
abbrev pub StayNoted : {S : Type 0} → List CodegenPkg → HashMap ModulePath (Vec ℕ Global) S → HashMap ModulePath (Vec ℕ Global) S → Type 0
StayNoted ks before after = AreNoted ks before → AreNoted ks after

-- the same once the package with this number is noted, if it is the first of its name
abbrev pub NoteFirst : {S : Type 0} → List CodegenPkg → ℕ → HashMap ModulePath (Vec ℕ Global) S → HashMap ModulePath (Vec ℕ Global) S → Type 0
NoteFirst ks i before after = (k : CodegenPkg) → slice_get ks i ≡ Some k → find (root_has_name (package_name k)) ks ≡ Some k
    → StayNoted ks before after

-- the same, if it is the first of its name wherever `is_first` is true
abbrev pub NoteFirstIf : {S : Type 0} → Bool → List CodegenPkg → ℕ → HashMap ModulePath (Vec ℕ Global) S → HashMap ModulePath (Vec ℕ Global) S → Type 0
NoteFirstIf is_first ks i before after = (k : CodegenPkg) → slice_get ks i ≡ Some k
    → (is_first ≡ true → find (root_has_name (package_name k)) ks ≡ Some k) → StayNoted ks before after

-- the same once what stands below a module is noted, which stands at this path and place
abbrev pub NoteBelow : {S : Type 0} → Path → List ℕ → (CodegenModule → Type 0) → HashMap ModulePath (Vec ℕ Global) S → HashMap ModulePath (Vec ℕ Global) S → Type 0
NoteBelow path place IsIt before after = (ks : List CodegenPkg) (m : CodegenModule) → StandsAt ks path place m → IsIt m
    → StayNoted ks before after
