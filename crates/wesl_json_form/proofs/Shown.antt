-- Without spans, what is shown is what is spelled.
use Rattle.std.proofs.Common.{◌≡◌, Bool, true, false, refl}
use Rattle.wesl_tree_syntax.specs.Tree.{LabelOf, ForestOf, TreeOf, kind, at, ident, text, texts, truth, unary, binary, assignment, space, access, path, end, tree, respell, respell_label, respell_forest}
use Rattle.wesl_tree_syntax.specs.Unit.{UnitView, name_in}
use Rattle.wesl_tree_syntax.specs.Shown.{shown, shown_label, shown_forest, shown_by}
use Rattle.wesl_json_form.specs.Units.{shown_unit}

module _ {I J : Type 0} (f : I → J) where
  pub label_spelled : (l : LabelOf I) → respell_label f l ≡ shown_label false f l
  label_spelled (kind k) = refl
  label_spelled (at k s e) = refl
  label_spelled (ident r i) = refl
  label_spelled (text x) = refl
  label_spelled (texts xs) = refl
  label_spelled (truth b) = refl
  label_spelled (unary o) = refl
  label_spelled (binary o) = refl
  label_spelled (assignment o) = refl
  label_spelled (space s) = refl
  label_spelled (access a) = refl
  label_spelled (path p) = refl

  pub forest_spelled : (ts : ForestOf I) → respell_forest f ts ≡ shown_forest false f ts
  forest_spelled end = refl
  forest_spelled (tree l children others) = rw (label_spelled l, forest_spelled children, forest_spelled others) refl

  pub tree_spelled : (t : TreeOf I) → respell f t ≡ shown false f t
  tree_spelled t = rw (label_spelled t.label, forest_spelled t.children) refl

-- what a form shows of a unit, for a form that is not known
pub spells_by_form : (spans : Bool) (u : UnitView) → shown_unit spans u ≡ shown_by spans (name_in u.names) u
spells_by_form false u = rw (tree_spelled (name_in u.names) u.imports, tree_spelled (name_in u.names) u.directives, tree_spelled (name_in u.names) u.declarations) refl
spells_by_form true u = refl
