-- Where identifiers stand in the trees of nodes.
use Rattle.std.specs.Prelude.{◌≡◌, ℕ, Bool, true, false, ◌&&◌, List, length, map}
use Rattle.wesl_tree_names.specs.Path.{Text}
use Rattle.wesl_tree_syntax.specs.Tree.{LabelOf, ForestOf, Forest, end, tree, ident, identifiers, forest_of, import_node, directive_node, declaration_node, respell_forest}
use Rattle.wesl_tree_syntax.specs.View.{placed, import_view, directive_view, global_view}
use Rattle.wesl_tree_syntax.specs.declared.span.Spanned.{Spanned}
use Rattle.wesl_tree_syntax.specs.declared.import.ImportStatement.{ImportStatement}
use Rattle.wesl_tree_syntax.specs.declared.declaration.GlobalDirective.{GlobalDirective}
use Rattle.wesl_tree_syntax.specs.declared.declaration.GlobalDeclaration.{GlobalDeclaration}
use Rattle.wesl_tree_copies.specs.Renumbered.{renumbered}

module _ {I : Type 0} where
  -- an identifier has nothing below it
  abbrev pub is_leaf : LabelOf I → ForestOf I → Bool
  is_leaf (ident r x) end = true
  is_leaf (ident r x) (tree l children others) = false
  is_leaf l f = true

  -- whether no identifier in these trees has anything below it
  abbrev pub are_leaves : ForestOf I → Bool
  are_leaves end = true
  are_leaves (tree l children others) = is_leaf l children && are_leaves children && are_leaves others

-- so it is in the trees of nodes
pub record HaveLeaves : Type 0 where
  pub imports : (all : List (Spanned ImportStatement)) → are_leaves (forest_of (map (placed import_view import_node) all)) ≡ true
  pub directives : (all : List (Spanned GlobalDirective)) → are_leaves (forest_of (map (placed directive_view directive_node) all)) ≡ true
  pub declarations : (all : List (Spanned GlobalDeclaration)) → are_leaves (forest_of (map (placed global_view declaration_node) all)) ≡ true

-- where there is a number for each identifier, those of the renumbered trees are these numbers
abbrev pub TakesNumbers : Type 0
TakesNumbers = (f : Forest) (ns : List ℕ) → are_leaves f ≡ true → length (identifiers f) ≡ length ns → identifiers (renumbered f ns) ≡ ns

-- and where each number has, by `g`, the name that the identifier has by `h`, the spelling is the same
abbrev pub KeepsSpelling : Type 0
KeepsSpelling = (g h : ℕ → Text) (f : Forest) (ns : List ℕ) → are_leaves f ≡ true → map g ns ≡ map h (identifiers f) → respell_forest g (renumbered f ns) ≡ respell_forest h f
