-- Which places of a module some choice of flags keeps together.
use Rattle.std.specs.Prelude.{ℕ, ◌+◌, Bool, false, List, ◌++◌, map, length}
use Rattle.wesl_tree_names.specs.Path.{Text}
use Rattle.wesl_cond_chains.specs.Lists.{elements}
use Rattle.wesl_cond_chains.specs.Picked.{Choice}
use Rattle.wesl_tree_syntax.specs.Tree.{LabelOf, ForestOf, end, tree, ident, kind, at, text, texts, truth, unary, binary, assignment, space, access, path, identifiers}
use Rattle.wesl_tree_syntax.specs.Unit.{UnitOf, forest_of_unit}
use Rattle.wesl_cond_choices.specs.declared.place.Place.{Place}
use Rattle.wesl_cond_choices.specs.declared.place.Place.TheVariants.{Import, Declaration, Name}
use Rattle.wesl_cond_choices.specs.Places.{together}
use Rattle.wesl_cond_alive.specs.Choices.{flags, choice_of, choice_numbers}
use Rattle.wesl_cond_alive.specs.Kept.{kept_forest, kept_indexes}

-- an identifier with its number in document order
pub record Numbered (I : Type 0) : Type 0 where
  pub name : I
  pub number : ℕ

module _ {I : Type 0} where
  -- a label with the number n, if it is an identifier; any other as it is
  abbrev pub relabel : ℕ → LabelOf I → LabelOf (Numbered I)
  relabel n (kind k) = kind k
  relabel n (at k s e) = at k s e
  relabel n (ident r x) = ident r (record { name = x; number = n })
  relabel n (text x) = text x
  relabel n (texts xs) = texts xs
  relabel n (truth b) = truth b
  relabel n (unary o) = unary o
  relabel n (binary o) = binary o
  relabel n (assignment o) = assignment o
  relabel n (space s) = space s
  relabel n (access a) = access a
  relabel n (path p) = path p

  -- each identifier gets its number, from n on
  abbrev pub numbered : ℕ → ForestOf I → ForestOf (Numbered I)
  numbered n end = end
  numbered n (tree l children others) = tree (relabel n l) (numbered n children) (numbered (n + length (identifiers (tree l children end))) others)

module _ (u : UnitOf Text) where
  -- the numbers of the identifiers that a choice keeps
  abbrev pub kept_numbers : Choice Text → List ℕ
  kept_numbers choice = map (λ x. x.number) (identifiers (kept_forest (λ x. choice x.name) (numbered 0 (forest_of_unit u))))

  -- the places that a choice keeps
  abbrev pub kept_places : Choice Text → List Place
  kept_places choice =
      map (λ j. Import j) (kept_indexes choice (elements false u.imports.children))
      ++ map (λ k. Declaration k) (kept_indexes choice (elements false u.declarations.children)) ++ map (λ i. Name i) (kept_numbers choice)

  -- of each choice the places that it keeps
  abbrev pub alive_of : List (List Place)
  alive_of = map (λ k. kept_places (choice_of (flags u) k)) (choice_numbers u)

  -- some choice keeps both
  abbrev pub are_together : Place → Place → Bool
  are_together a b = together alive_of a b
