-- The names that are bound in trees, as they are gathered.
use Rattle.std.specs.Prelude.{ℕ, List, [], ◌∷◌, ◌++◌}
use Rattle.wesl_tree_syntax.specs.Tree.{Label, Forest, end, tree, ident, binder}

-- the numbers that were found before, and that of a tree of this label if it is a binder; of any other tree `inner`, which are
-- the numbers with those of its children
abbrev pub with_label : List ℕ → List ℕ → Label → List ℕ
with_label found inner (ident binder x) = found ++ x ∷ []
with_label found inner _ = inner

-- the numbers that were found before, and those of the binders in these trees, in document order
abbrev pub gathered : List ℕ → Forest → List ℕ
gathered found end = found
gathered found (tree l children others) = gathered (with_label found (gathered found children) l) others
