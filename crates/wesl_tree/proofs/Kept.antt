-- A list of declarations without the void ones.
use Rattle.std.proofs.Common.{◌≡◌, IsTrue, ℕ, Bool, true, false, not, cond, ◌&&◌, List, [], ◌∷◌, map, refl, if◌then◌else◌}
use Rattle.std.specs.List.{filter}
use Rattle.wesl_tree_syntax.specs.Tree.{Label, Forest, Tree, forest_of, forest_below, label_below, tree, end, declaration_node}
use Rattle.wesl_tree_syntax.specs.Unit.{begins_void, without_voids}
use Rattle.wesl_tree_syntax.specs.View.{global_view, placed}
use Rattle.wesl_tree_syntax.specs.declared.span.Spanned.{Spanned}
use Rattle.wesl_tree_syntax.specs.declared.declaration.GlobalDeclaration.{GlobalDeclaration}
use Rattle.std.proofs.lemmas.Bool.{and_parts}

abbrev pub node_tree : Spanned GlobalDeclaration → Tree
node_tree = placed global_view declaration_node

abbrev pub declares : Spanned GlobalDeclaration → Bool
declares x = not (begins_void (forest_of (global_view x.node ∷ [])))

kept_next : (void : Bool) (x : Spanned GlobalDeclaration) (xs : List (Spanned GlobalDeclaration)) (others : Forest) → forest_of (map node_tree xs) ≡ others
    → forest_of (map node_tree (cond (not void) (x ∷ xs) xs)) ≡ (if void then others else tree (node_tree x).label (node_tree x).children others)
kept_next true x xs others e = e
kept_next false x xs others e = rw e refl

-- what is kept of a list is its forest without voids
pub kept_forest : (xs : List (Spanned GlobalDeclaration)) → forest_of (map node_tree (filter declares xs)) ≡ without_voids (forest_of (map node_tree xs))
kept_forest [] = refl
kept_forest (x ∷ xs) = kept_next (begins_void (forest_of (global_view x.node ∷ []))) x (filter declares xs) (without_voids (forest_of (map node_tree xs))) (kept_forest xs)

below_next : (n : ℕ) (void : Bool) (l : Label) (children others kept : Forest) → (label_below n l && forest_below n children && forest_below n others) ≡ true → (forest_below n others ≡ true → forest_below n kept ≡ true)
    → forest_below n (if void then kept else tree l children kept) ≡ true
below_next n true l children others kept h k = k (and_parts (label_below n l && forest_below n children) (forest_below n others) h).1
below_next n false l children others kept h k =
    let parts = and_parts (label_below n l && forest_below n children) (forest_below n others) h in
    rw (parts.0, k parts.1) refl

-- without voids, the identifiers stay below
pub kept_below : (n : ℕ) (f : Forest) → forest_below n f ≡ true → forest_below n (without_voids f) ≡ true
kept_below n end h = refl
kept_below n (tree l children others) h = below_next n (begins_void children) l children others (without_voids others) h (kept_below n others)

pub still_within : (imports directives : Bool) (n : ℕ) (f kept : Forest) → IsTrue (imports && directives && forest_below n f) → kept ≡ without_voids f → IsTrue (imports && directives && forest_below n kept)
still_within imports directives n f kept h e =
    let parts = and_parts (imports && directives) (forest_below n f) h in
    rw (e, parts.0, kept_below n f parts.1) refl
