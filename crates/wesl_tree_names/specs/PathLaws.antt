-- Laws of paths: when two are equal, how they are ordered, and that a text and its path say the same.
use Rattle.std.specs.Prelude.{◌≡◌, ℕ, List, ◌⊎◌, ◌↔◌, Bool, true, false, Some}
use Rattle.std.specs.declared.cmp.Ordering.{Ordering}
use Rattle.std.specs.declared.cmp.Ordering.TheVariants.{Less, Equal, Greater}
use Rattle.wesl_tree_names.specs.Path.{Text, Path, path_view}
use Rattle.wesl_tree_names.specs.PathText.{parse, to_text}
use Rattle.wesl_tree_names.specs.PathOrder.{path_before, same_path}
use Rattle.wesl_tree_names.specs.declared.path.ModulePath.{ModulePath}
use Rattle.wesl_tree_names.specs.contracts.path.ModulePathPartialEq.TheImpl as equality
use Rattle.wesl_tree_names.specs.contracts.path.ModulePathOrd.TheImpl as order
use Rattle.wesl_tree_names.specs.contracts.path.ModulePathHash.TheImpl as hash

-- what `==` of two paths answers: by it and by `cmp` maps and sorts compare keys that are paths
abbrev pub path_eq : ModulePath → ModulePath → Bool
path_eq = (equality.ghosts).eq

-- what `cmp` of two paths answers
abbrev pub path_cmp : ModulePath → ModulePath → Ordering
path_cmp = (order.ghosts).cmp

-- the writes by which a path is hashed
abbrev pub path_hash : ModulePath → List (List ℕ)
path_hash = (hash.ghosts).hash_input

-- paths are equal where they say the same, which a test decides, and such paths have one hash
pub record Equality : Type 0 where
  pub by_view : (p q : ModulePath) → (path_eq p q ≡ true) ↔ (path_view p ≡ path_view q)
  pub by_test : (p q : ModulePath) → path_eq p q ≡ same_path (path_view p) (path_view q)
  pub decides : (p q : Path) → (same_path p q ≡ true) ↔ (p ≡ q)
  pub one_hash : (p q : ModulePath) → path_view p ≡ path_view q → path_hash p ≡ path_hash q

-- `cmp` answers by what the paths say
pub record Order : Type 0 where
  pub less : (p q : ModulePath) → (path_cmp p q ≡ Less) ↔ (path_before (path_view p) (path_view q) ≡ true)
  pub equal : (p q : ModulePath) → (path_cmp p q ≡ Equal) ↔ (path_view p ≡ path_view q)
  pub greater : (p q : ModulePath) → (path_cmp p q ≡ Greater) ↔ (path_before (path_view q) (path_view p) ≡ true)

-- Of two different paths exactly one stands before the other. What stands before a path stands before those after it too.
pub record TotalOrder : Type 0 where
  pub irreflexive : (p : Path) → path_before p p ≡ false
  pub transitive : (p q r : Path) → path_before p q ≡ true → path_before q r ≡ true → path_before p r ≡ true
  pub total : (p q : Path) → (path_before p q ≡ true) ⊎ ((p ≡ q) ⊎ (path_before q p ≡ true))

-- the text of a path that a text says is that text, so it says the path again
pub record RoundTrip : Type 0 where
  pub same_text : (t : Text) (p : Path) → parse t ≡ Some p → to_text p ≡ t
  pub read_back : (t : Text) (p : Path) → parse t ≡ Some p → parse (to_text p) ≡ Some p
