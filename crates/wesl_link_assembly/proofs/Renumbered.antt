-- What renumbered trees say.
use Rattle.std.proofs.Common.{◌≡◌, ℕ, true, List, refl, ◌∙◌, ap}
use Rattle.std.specs.Prelude.{Vec}
use Rattle.std.specs.declared.alloc.Global.{Global}
use Rattle.wesl_tree_syntax.specs.Tree.{LabelOf, Forest, ForestOf, end, tree, kind, at, ident, text, texts, truth, unary, binary, assignment, space, access, path, respell_forest}
use Rattle.wesl_tree_syntax.specs.Unit.{forest_of_unit}
use Rattle.wesl_tree_syntax.specs.declared.span.Spanned.{Spanned}
use Rattle.wesl_tree_syntax.specs.declared.declaration.GlobalDirective.{GlobalDirective}
use Rattle.wesl_tree_syntax.specs.declared.declaration.GlobalDeclaration.{GlobalDeclaration}
use Rattle.wesl_tree_copies.specs.Renumbered.{renumbered, after, other_numbers}
use Rattle.wesl_scope_numbers.specs.Leaves.{are_leaves}
use Rattle.wesl_scope_numbers.proofs.Leaves.{have_leaves}
use Rattle.wesl_link_assembly.specs.Linked.{nodes_of}

abbrev pub shape_of : {I : Type 0} → ForestOf I → ForestOf (Unit {0})
shape_of = respell_forest (λ i. tt)

pub paired : {J : Type 0} (l : LabelOf J) (a b c d : ForestOf J) → a ≡ c → b ≡ d → tree l a b ≡ tree l c d
paired l a b c d e f = ap (λ x. tree l x b) e ∙ ap (λ x. tree l c x) f

-- all but the identifiers stays
pub same_shape : (f : Forest) (ns : List ℕ) → shape_of (renumbered f ns) ≡ shape_of f
same_shape end ns = refl
same_shape (tree (ident r x) children others) ns = paired _ _ _ _ _ (same_shape children ns) (same_shape others (other_numbers ns))
same_shape (tree (kind k) children others) ns = paired _ _ _ _ _ (same_shape children ns) (same_shape others (after children ns))
same_shape (tree (at k i j) children others) ns = paired _ _ _ _ _ (same_shape children ns) (same_shape others (after children ns))
same_shape (tree (text y) children others) ns = paired _ _ _ _ _ (same_shape children ns) (same_shape others (after children ns))
same_shape (tree (texts y) children others) ns = paired _ _ _ _ _ (same_shape children ns) (same_shape others (after children ns))
same_shape (tree (truth y) children others) ns = paired _ _ _ _ _ (same_shape children ns) (same_shape others (after children ns))
same_shape (tree (unary y) children others) ns = paired _ _ _ _ _ (same_shape children ns) (same_shape others (after children ns))
same_shape (tree (binary y) children others) ns = paired _ _ _ _ _ (same_shape children ns) (same_shape others (after children ns))
same_shape (tree (assignment y) children others) ns = paired _ _ _ _ _ (same_shape children ns) (same_shape others (after children ns))
same_shape (tree (space y) children others) ns = paired _ _ _ _ _ (same_shape children ns) (same_shape others (after children ns))
same_shape (tree (access y) children others) ns = paired _ _ _ _ _ (same_shape children ns) (same_shape others (after children ns))
same_shape (tree (path y) children others) ns = paired _ _ _ _ _ (same_shape children ns) (same_shape others (after children ns))

-- an identifier has nothing below it in the trees of these nodes
pub nodes_leafy : (ds : Vec (Spanned GlobalDirective) Global) (gs : Vec (Spanned GlobalDeclaration) Global) → are_leaves (forest_of_unit (nodes_of ds gs)) ≡ true
nodes_leafy ds gs = let d = have_leaves.directives ds.items in let g = have_leaves.declarations gs.items in rw (d, g) refl
