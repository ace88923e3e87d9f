-- The identifiers of each global declaration, cut from those of the whole module.
use Rattle.std.specs.Prelude.{ℕ, ◌+◌, List, [], ◌∷◌, length, take, drop}
use Rattle.wesl_tree_syntax.specs.Tree.{TreeOf, trees, before, end, identifiers}
use Rattle.wesl_tree_syntax.specs.Unit.{UnitOf}
use Rattle.wesl_scope_occurrences.specs.Occurrences.{Occurrence, occurrences}

module _ {I : Type 0} where
  -- how many identifiers a tree has
  abbrev pub size : TreeOf I → ℕ
  size t = length (identifiers (before t end))

  -- one piece for each tree, as long as the tree has identifiers
  abbrev pub cut : {X : Type 0} → List (TreeOf I) → List X → List (List X)
  cut [] xs = []
  cut (t ∷ ts) xs = take (size t) xs ∷ cut ts (drop (size t) xs)

  -- the global declarations of a module
  abbrev pub declarations_in : UnitOf I → List (TreeOf I)
  declarations_in u = trees u.declarations.children

  -- of each global declaration its identifiers, in document order: those of imports and directives come before
  abbrev pub pieces : UnitOf I → List (List (Occurrence I))
  pieces u = cut (declarations_in u) (drop (size u.directives) (drop (size u.imports) (occurrences u)))

  -- where each of these trees begins, if n identifiers come before them
  abbrev pub starts_from : ℕ → List (TreeOf I) → List ℕ
  starts_from n [] = []
  starts_from n (t ∷ ts) = n ∷ starts_from (n + size t) ts

  -- of each global declaration how many identifiers come before it
  abbrev pub starts : UnitOf I → List ℕ
  starts u = starts_from (size u.imports + size u.directives) (declarations_in u)
