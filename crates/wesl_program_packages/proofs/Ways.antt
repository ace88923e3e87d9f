-- Where the parts of a name and the components of a path lead, a step at a time.
use Rattle.std.proofs.Common.{◌≡◌, List, [], ◌∷◌, Some, None, Err, length, Bor, String, map, string_bytes, refl, sym, ap, ◌∙◌, arith}
use Rattle.std.specs.declared.alloc.Global.{Global}
use Rattle.std.specs.HashMap.{HashMap, get_by_text}
use Rattle.std.specs.List.{IsFirstAndRest}
use Rattle.wesl_tree_base.specs.Borrowed.{texts}
use Rattle.wesl_tree_names.specs.Path.{Text}
use Rattle.wesl_resolve_base.specs.Packages.{no_dependency, no_package, no_submodule}
use Rattle.wesl_program_packages.specs.Units.{led}
use Rattle.wesl_program_packages.specs.Held.{held_among, held_below, held_in, held_name}
use Rattle.wesl_program_packages.specs.declared.held.HeldModule.{HeldModule, out-HeldModule}
use Rattle.wesl_program_packages.specs.declared.held.HeldPackage.{HeldPackage, out-HeldPackage}

-- ---- components

pub below-step : (m next : HeldModule) (names others : List (String Global)) (first : String Global) (name : Text) → IsFirstAndRest names first others → name ≡ string_bytes first
    → Some next ≡ get_by_text (out-HeldModule m).modules name → held_below m (map string_bytes names) ≡ held_below next (map string_bytes others)
below-step m next names others first name are is found =
    ap (λ ns. held_below m (map string_bytes ns)) are.0
    ∙ ap (λ o. led (no_submodule (held_name m) (string_bytes first)) (λ s. held_below s (map string_bytes others)) o) (ap (get_by_text (out-HeldModule m).modules) (sym is) ∙ sym found)

pub below-stuck : (m : HeldModule) (names others : List (String Global)) (first : String Global) (name own : Text) → IsFirstAndRest names first others → name ≡ string_bytes first → own ≡ held_name m
    → None ≡ get_by_text (out-HeldModule m).modules name → held_below m (map string_bytes names) ≡ Err (no_submodule own name)
below-stuck m names others first name own are is named none =
    ap (λ ns. held_below m (map string_bytes ns)) are.0
    ∙ ap (λ o. led (no_submodule (held_name m) (string_bytes first)) (λ s. held_below s (map string_bytes others)) o) (ap (get_by_text (out-HeldModule m).modules) (sym is) ∙ sym none)
    ∙ ap (λ t. Err (no_submodule t (string_bytes first))) (sym named) ∙ ap (λ t. Err (no_submodule own t)) (sym is)

-- ---- parts of a name

pub in-all : (whole : Text) (k : HeldPackage) (parts : List (Bor Text)) (components : List Text) → length parts ≡ 0 → held_in whole k (texts parts) components ≡ held_below (out-HeldPackage k).root components
in-all whole k [] components h = refl
in-all whole k (p ∷ parts) components h = absurd (omega (arith, h))

pub in-step : (whole : Text) (k next : HeldPackage) (parts others : List (Bor Text)) (first : Bor Text) (components : List Text) → IsFirstAndRest parts first others
    → Some next ≡ get_by_text (out-HeldPackage k).dependencies first.now → held_in whole k (texts parts) components ≡ held_in whole next (texts others) components
in-step whole k next parts others first components are found =
    ap (λ ps. held_in whole k (texts ps) components) are.0
    ∙ ap (λ o. led (no_dependency first.now whole) (λ d. held_in whole d (texts others) components) o) (sym found)

pub in-stuck : (whole : Text) (k : HeldPackage) (parts others : List (Bor Text)) (first : Bor Text) (components : List Text) → IsFirstAndRest parts first others
    → None ≡ get_by_text (out-HeldPackage k).dependencies first.now → held_in whole k (texts parts) components ≡ Err (no_dependency first.now whole)
in-stuck whole k parts others first components are none =
    ap (λ ps. held_in whole k (texts ps) components) are.0
    ∙ ap (λ o. led (no_dependency first.now whole) (λ d. held_in whole d (texts others) components) o) (sym none)

module _ {S : Type 0} (whole : Text) (packages : HashMap (String Global) HeldPackage S) (parts : List (Bor Text)) (components : List Text) where
  pub among-nothing : length parts ≡ 0 → held_among whole packages (texts parts) components ≡ Err (no_package whole)
  among-nothing h = by parts h
    where
      by : (ps : List (Bor Text)) → length ps ≡ 0 → held_among whole packages (texts ps) components ≡ Err (no_package whole)
      by [] e = refl
      by (p ∷ ps) e = absurd (omega (arith, e))

  pub among-step : (next : HeldPackage) (others : List (Bor Text)) (first : Bor Text) → IsFirstAndRest parts first others
      → Some next ≡ get_by_text packages first.now → held_among whole packages (texts parts) components ≡ held_in whole next (texts others) components
  among-step next others first are found =
      ap (λ ps. held_among whole packages (texts ps) components) are.0
      ∙ ap (λ o. led (no_package whole) (λ k. held_in whole k (texts others) components) o) (sym found)

  pub among-stuck : (others : List (Bor Text)) (first : Bor Text) → IsFirstAndRest parts first others
      → None ≡ get_by_text packages first.now → held_among whole packages (texts parts) components ≡ Err (no_package whole)
  among-stuck others first are none =
      ap (λ ps. held_among whole packages (texts ps) components) are.0
      ∙ ap (λ o. led (no_package whole) (λ k. held_in whole k (texts others) components) o) (sym none)
