-- Packages by their names, and that they hold those of a bundle.
use Rattle.std.specs.Prelude.{◌≡◌, List, [], ◌∷◌, Option, Some, None, Result, Ok, Err, String, string_bytes}
use Rattle.std.specs.declared.alloc.Global.{Global}
use Rattle.std.specs.Borrow.{Bor}
use Rattle.std.specs.HashMap.{HashMap, get_by_text}
use Rattle.serde_json.specs.Data.{Data}
use Rattle.wesl_json_form.specs.View.{borrowed_view}
use Rattle.wesl_json_form.specs.declared.value.BorrowedValue.{BorrowedValue}
use Rattle.wesl_tree_base.specs.Pieces.{cut, slash}
use Rattle.wesl_tree_names.specs.Path.{Text}
use Rattle.wesl_resolve_base.specs.Packages.{no_dependency, no_package, no_submodule}
use Rattle.wesl_program_bundle.specs.Packages as said
use Rattle.wesl_program_packages.specs.Units.{led, module_named, package_named, packaged_unit, unit_along, unit_in_package}
use Rattle.wesl_program_packages.specs.declared.held.HeldModule.{HeldModule, out-HeldModule}
use Rattle.wesl_program_packages.specs.declared.held.HeldPackage.{HeldPackage, out-HeldPackage}
use Rattle.wesl_program_packages.specs.declared.held.HeldPackages.{HeldPackages}

-- ---- which value is found

-- the name of a module that is held
abbrev pub held_name : HeldModule → Text
held_name m = string_bytes (out-HeldModule m).name

-- a package goes by the name of its root
abbrev pub root_name : HeldPackage → Text
root_name k = held_name (out-HeldPackage k).root

-- the unit of the module that the components lead to, or what is said where one is missing
abbrev pub held_below : HeldModule → List Text → Result Data Text
held_below m [] = Ok (borrowed_view (out-HeldModule m).unit)
held_below m (c ∷ cs) = led (no_submodule (held_name m) c) (λ s. held_below s cs) (get_by_text (out-HeldModule m).modules c)

-- the same from the root of the package that the further parts of a name lead to
abbrev pub held_in : Text → HeldPackage → List Text → List Text → Result Data Text
held_in whole k [] components = held_below (out-HeldPackage k).root components
held_in whole k (part ∷ parts) components =
    led (no_dependency part whole) (λ d. held_in whole d parts components) (get_by_text (out-HeldPackage k).dependencies part)

-- the same from the package that the parts of a name lead to
abbrev pub held_among : {S : Type 0} → Text → HashMap (String Global) HeldPackage S → List Text → List Text → Result Data Text
held_among whole packages [] components = Err (no_package whole)
held_among whole packages (part ∷ parts) components =
    led (no_package whole) (λ k. held_in whole k parts components) (get_by_text packages part)

-- the unit of the module at a path that begins in the package of this name
abbrev pub held_unit : HeldPackages → Text → List Text → Result Data Text
held_unit h name components = held_among name h.packages (cut slash name) components

-- what is found is the value of a unit that is there
abbrev pub Gives : Result Data Text → Bor BorrowedValue → Type 0
Gives found v = found ≡ Ok (borrowed_view v.now)

-- ---- what is held is what a bundle says

-- both are there and this holds of them, or none is
abbrev pub IsBoth : {X Y : Type 0} → (X → Y → Type 0) → Option X → Option Y → Type 0
IsBoth P None None = Unit {0}
IsBoth P (Some x) (Some y) = P x y
IsBoth P _ _ = ⊥

-- the module has the name that is said, and components lead to the same unit
abbrev pub HoldsModule : said.PackageModule → HeldModule → Type 0
HoldsModule r m = (held_name m ≡ r.name) × ((components : List Text) → held_below m components ≡ unit_along r components)

-- under each name is the first module of that name
abbrev pub HoldsModules : {S : Type 0} → said.PackageModules → HashMap (String Global) HeldModule S → Type 0
HoldsModules rs ms = (name : Text) → IsBoth HoldsModule (module_named name rs) (get_by_text ms name)

-- the package has the name that is said, and further parts of a name and components lead to the same unit
abbrev pub HoldsPackage : said.Package → HeldPackage → Type 0
HoldsPackage r k =
    (root_name k ≡ r.root.name)
    × ((whole : Text) (parts components : List Text) → held_in whole k parts components ≡ unit_in_package whole r parts components)

-- under each name is the first package of that name
abbrev pub HoldsPackages : {S : Type 0} → said.Packages → HashMap (String Global) HeldPackage S → Type 0
HoldsPackages rs ks = (name : Text) → IsBoth HoldsPackage (package_named name rs) (get_by_text ks name)

-- the same units are found as in the packages that a bundle lists
abbrev pub HoldsListed : said.Packages → HeldPackages → Type 0
HoldsListed listed h = (name : Text) (components : List Text) → held_unit h name components ≡ packaged_unit listed name components
