-- A module without what nothing kept reaches.
use Rattle.std.specs.Prelude.{◌≡◌, ℕ, ◌<◌, ◌↔◌, Bool, true, false, List, [], ◌∷◌, length}
use Rattle.wesl_tree_names.specs.Path.{Text}
use Rattle.wesl_tree_syntax.specs.Tree.{ForestOf, end, tree, trees}
use Rattle.wesl_tree_syntax.specs.Unit.{UnitView}
use Rattle.wesl_scope_strip.specs.Declarations.{IsKept}
use Rattle.wesl_scope_strip.specs.Marks.{mark_at}

module _ {I : Type 0} where
  -- those of the trees that are marked
  abbrev pub marked : List Bool → ForestOf I → ForestOf I
  marked (true ∷ ms) (tree l children others) = tree l children (marked ms others)
  marked (false ∷ ms) (tree l children others) = marked ms others
  marked [] f = end
  marked _ end = end

-- `new` is `old` with the declarations of the least set alone, as they stood
pub record IsStripped (keep : List Text) (old new : UnitView) : Type 0 where
  pub marks : List Bool
  pub one_each : length marks ≡ length (trees old.declarations.children)
  pub least : (j : ℕ) → j < length marks → (mark_at marks j ≡ true) ↔ IsKept old keep j
  pub names : new.names ≡ old.names
  pub imports : new.imports ≡ old.imports
  pub directives : new.directives ≡ old.directives
  pub declarations : new.declarations ≡ record { label = old.declarations.label; children = marked marks old.declarations.children }
