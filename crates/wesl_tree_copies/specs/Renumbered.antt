-- Trees whose identifiers take their numbers from a list, in document order, and keep their own where none is left.
use Rattle.std.specs.Prelude.{ℕ, List, [], ◌∷◌}
use Rattle.wesl_tree_syntax.specs.Tree.{Label, Forest, Tree, end, tree, ident}

-- the new number of an identifier that had the number `x`: the first of the list, and `x` where none is left
abbrev pub next_number : ℕ → List ℕ → ℕ
next_number x [] = x
next_number x (n ∷ ns) = n

-- the numbers without the first; of none there are none
abbrev pub other_numbers : List ℕ → List ℕ
other_numbers [] = []
other_numbers (n ∷ ns) = ns

-- the label: an identifier takes the first number, and keeps its own where none is left; every other label stays
abbrev pub relabelled : Label → List ℕ → Label
relabelled (ident r x) ns = ident r (next_number x ns)
relabelled l ns = l

-- the numbers that are left after a node: one fewer after an identifier, else what its children leave
abbrev pub left : Label → List ℕ → List ℕ → List ℕ
left (ident r x) ns after_children = other_numbers ns
left l ns after_children = after_children

-- the numbers that are left after trees side by side: one fewer for each identifier in them, while there are any
abbrev pub after : Forest → List ℕ → List ℕ
after end ns = ns
after (tree l children others) ns = after others (left l ns (after children ns))

-- trees side by side whose identifiers take the numbers in document order, and keep their own where none is left
abbrev pub renumbered : Forest → List ℕ → Forest
renumbered end ns = end
renumbered (tree l children others) ns = tree (relabelled l ns) (renumbered children ns) (renumbered others (left l ns (after children ns)))

-- the numbers that are left after one tree
abbrev pub after_tree : Tree → List ℕ → List ℕ
after_tree t ns = left t.label ns (after t.children ns)

-- one tree whose identifiers take the numbers in document order, and keep their own where none is left
abbrev pub renumbered_tree : Tree → List ℕ → Tree
renumbered_tree t ns = record { label = relabelled t.label ns; children = renumbered t.children ns }
