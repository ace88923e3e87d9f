-- The directives of a linked unit (WGSL, "Directives").
use Rattle.std.specs.Prelude.{◌≡◌, Option, Some, None, List, [], ◌∷◌, ◌++◌, Vec, flat_map}
use Rattle.std.specs.declared.alloc.Global.{Global}
use Rattle.wesl_tree_names.specs.Path.{Text}
use Rattle.wesl_tree_syntax.specs.Tree.{TreeOf, forest_of, trees, identifiers}
use Rattle.wesl_tree_syntax.specs.Unit.{UnitView, spelled}
use Rattle.wesl_tree_syntax.specs.View.{directives_tree}
use Rattle.wesl_tree_syntax.specs.declared.span.Spanned.{Spanned}
use Rattle.wesl_tree_syntax.specs.declared.declaration.GlobalDirective.{GlobalDirective}
use Rattle.wesl_link_assembly.specs.Linked.{shape}

module _ {X : Type 0} where
  -- the last element; the empty list has none
  abbrev pub last : List X → Option X
  last [] = None
  last (x ∷ []) = Some x
  last (x ∷ y ∷ xs) = last (y ∷ xs)

-- Of equal adjacent ones one stays: each does but where it equals the one before it.
pub data Thins {X : Type 0} : List X → List X → Type 0 where
  none : Thins [] []
  other : (all kept : List X) (x : X) → Thins all kept → (last all ≡ Some x → ⊥) → Thins (all ++ x ∷ []) (kept ++ x ∷ [])
  again : (all kept : List X) (x : X) → Thins all kept → last all ≡ Some x → Thins (all ++ x ∷ []) kept

-- the directives of a unit, each as it is spelled
abbrev pub directives_of : UnitView → List (TreeOf Text)
directives_of u = trees (spelled u).directives.children

-- the directives of units, one unit after the other, each as it is spelled
abbrev pub all_directives : List UnitView → List (TreeOf Text)
all_directives us = flat_map directives_of us

-- Nodes for the directives that stay of these, and the names of their identifiers, in document order, as all are words.
pub record AreThinned (all : List (TreeOf Text)) (nodes : Vec (Spanned GlobalDirective) Global) (words : List Text) : Type 0 where
  pub kept : List (TreeOf Text)
  pub thinned : Thins all kept
  pub same_shape : shape (directives_tree nodes).children ≡ shape (forest_of kept)
  pub words_are : words ≡ identifiers (forest_of kept)
