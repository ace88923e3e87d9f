-- Which nodes of a module, told by their positions, some choice of flags keeps together.
use Rattle.std.specs.Prelude.{◌≡◌, ℕ, zero, suc, nat_eq, ◌<◌, ◌^◌, Bool, true, false, ◌&&◌, not, cond, Option, Some, None, List, [], ◌∷◌, length}
use Rattle.std.specs.List.{list_any}
use Rattle.wesl_tree_names.specs.Path.{Text}
use Rattle.wesl_cond_chains.specs.Conditions.{is_statements, is_list}
use Rattle.wesl_cond_chains.specs.Faults.{closed_list}
use Rattle.wesl_cond_chains.specs.Lists.{elements, is_closed, is_compound, is_entered}
use Rattle.wesl_cond_chains.specs.Picked.{Choice}
use Rattle.wesl_tree_syntax.specs.Tree.{LabelOf, ForestOf, end, tree, kind, at, present, compound_statement}
use Rattle.wesl_tree_syntax.specs.Unit.{UnitOf, forest_of_unit}
use Rattle.wesl_cond_alive.specs.Choices.{flags, choice_of, choice_numbers}
use Rattle.wesl_cond_alive.specs.Kept.{kept_indexes}

-- whether a number is one of these
abbrev pub has : List ℕ → ℕ → Bool
has xs i = list_any (nat_eq i) xs

module _ {I : Type 0} where
  -- nodes that add no number to a position
  abbrev pub is_plain : LabelOf I → Bool
  is_plain (at k s e) = true
  is_plain (kind present) = true
  is_plain (kind compound_statement) = true
  is_plain _ = false

  -- how many trees stand side by side
  abbrev pub size : ForestOf I → ℕ
  size end = 0
  size (tree l children others) = suc (size others)

  -- the statements of a body, after its attributes
  abbrev pub body_size : ForestOf I → ℕ
  body_size (tree a attributes (tree b (tree c own (tree s items rest)) others)) = size items
  body_size _ = 0

  -- the numbers that a field hands on: to the body of a loop or a continuing block, and from there to its statements
  abbrev pub handed : LabelOf I → List ℕ → Option (List ℕ) → ℕ → Option (List ℕ)
  handed l closed held field = cond (is_closed l && nat_eq field 1) (Some closed) (cond (is_compound l) held None)

  -- whether the child with this number is kept in its node: a node of a judged list, or what closes one
  abbrev pub keeps_child : Choice I → Option (List ℕ) → LabelOf I → ForestOf I → ℕ → Bool
  keeps_child choice None l children i =
      cond (is_list l) (has (kept_indexes choice (elements false children)) i)
      (cond (is_closed l && nat_eq i 2) (has (kept_indexes choice (closed_list children)) (body_size children)) true)
  keeps_child choice (Some closed) l children i =
      cond (is_statements l) (has closed i)
      (cond (is_list l) (has (kept_indexes choice (elements false children)) i)
      (cond (is_closed l && nat_eq i 2) (has (kept_indexes choice (closed_list children)) (body_size children)) true))

  module _ (choice : Choice I) where
    -- Whether a choice keeps the node at a position: that of the tree with a number, and from there on. `held` has the
    -- statements that are kept of a body that is judged with what closes it. A tree that is not there is not kept; below one in
    -- which no judged list may lie the position is not looked at further.
    abbrev pub kept_at : Option (List ℕ) → ℕ → List ℕ → ForestOf I → Bool
    kept_at held n position end = false
    kept_at held (suc n) position (tree l children others) = kept_at held n position others
    kept_at held zero [] (tree l children others) = true
    kept_at held zero (i ∷ position) (tree l children others) =
        cond (not (is_entered l)) true
        (cond (is_plain l) (kept_at None zero (i ∷ position) children)
        (keeps_child choice held l children i && kept_at (handed l (kept_indexes choice (closed_list children)) held i) i position children))

  -- Whether a choice keeps the node at a position of a unit: 0 leads to its imports, 1 to its directives, 2 to its
  -- declarations, any other first number nowhere, which is not kept. The unit itself, at the empty position, always is.
  abbrev pub kept_in : Choice I → List ℕ → UnitOf I → Bool
  kept_in choice [] u = true
  kept_in choice (n ∷ position) u = kept_at choice None n position (forest_of_unit u)

-- some choice keeps both of the nodes at these positions
abbrev pub AreAliveTogether : UnitOf Text → List ℕ → List ℕ → Type 0
AreAliveTogether u first second =
    (k : ℕ) × (k < 2 ^ length (flags u)) × (kept_in (choice_of (flags u) k) first u ≡ true) × (kept_in (choice_of (flags u) k) second u ≡ true)

-- the same, told by computing
abbrev pub are_alive_together : UnitOf Text → List ℕ → List ℕ → Bool
are_alive_together u first second = list_any (λ k. kept_in (choice_of (flags u) k) first u && kept_in (choice_of (flags u) k) second u) (choice_numbers u)
