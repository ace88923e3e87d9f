-- Without spans, what a tree shows is what it spells.
use Rattle.std.proofs.Common.{◌≡◌, false, refl, ℕ}
use Rattle.std.specs.Bool.{Decides}
use Rattle.wesl_tree_names.specs.Path.{Text}
use Rattle.wesl_tree_syntax.specs.Tree.{LabelOf, ForestOf, TreeOf, Tree, kind, at, ident, text, texts, truth, unary, binary, assignment, space, access, path, end, tree, respell, respell_label, respell_forest}
use Rattle.wesl_tree_syntax.specs.Shown.{shown, shown_label, shown_forest}
use Rattle.wesl_tree_spelling.proofs.Respelled.{tree_Decides}
use Rattle.wesl_tree_spelling.specs.Same.{same_tree}

module _ {I J : Type 0} (f : I → J) where
  label_spelled : (l : LabelOf I) → respell_label f l ≡ shown_label false f l
  label_spelled (kind k) = refl
  label_spelled (at k s e) = refl
  label_spelled (ident r i) = refl
  label_spelled (text x) = refl
  label_spelled (texts xs) = refl
  label_spelled (truth b) = refl
  label_spelled (unary o) = refl
  label_spelled (binary o) = refl
  label_spelled (assignment o) = refl
  label_spelled (space s) = refl
  label_spelled (access a) = refl
  label_spelled (path p) = refl

  forest_spelled : (ts : ForestOf I) → respell_forest f ts ≡ shown_forest false f ts
  forest_spelled end = refl
  forest_spelled (tree l children others) = rw (label_spelled l, forest_spelled children, forest_spelled others) refl

  tree_spelled : (t : TreeOf I) → respell f t ≡ shown false f t
  tree_spelled t = rw (label_spelled t.label, forest_spelled t.children) refl

-- the test without spans is one of spelling
pub spelling_Decides : (f g : ℕ → Text) (s t : Tree) → Decides (same_tree false f g s t) (respell f s ≡ respell g t)
spelling_Decides f g s t = rw (tree_spelled f s, tree_spelled g t) (tree_Decides false f g s t)
