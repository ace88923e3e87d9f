-- What a choice of flags keeps of judged lists.
use Rattle.std.specs.Prelude.{ℕ, suc, Bool, true, false, if◌then◌else◌, List, [], ◌∷◌, map}
use Rattle.std.specs.List.{flat_map, filter}
use Rattle.wesl_cond_features.specs.declared.features.Feature.TheVariants.{Keep}
use Rattle.wesl_cond_chains.specs.Chains.{Judged, is_node, chains}
use Rattle.wesl_cond_chains.specs.Faults.{list_faults}
use Rattle.wesl_cond_chains.specs.FormulaFaults.{Fault}
use Rattle.wesl_cond_chains.specs.Lists.{Element, element, through}
use Rattle.wesl_cond_chains.specs.Picked.{Choice, picked_chain}
use Rattle.wesl_tree_syntax.specs.Tree.{ForestOf}

module _ {I : Type 0} where
  -- whether a list of faults is empty
  abbrev pub is_faultless : List (Fault I) → Bool
  is_faultless [] = true
  is_faultless (f ∷ fs) = false

module _ {I N : Type 0} (J : Judged I N) (as_element : N → Element I) (choice : Choice I) where
  -- of a chain the branch that is picked; a chain in which a fault stands, whatever the flags, stays whole
  abbrev pub kept_chain : List N → List N
  kept_chain c = if is_faultless (list_faults (λ flag. Keep) false (map as_element c)) then picked_chain J choice c else c

  -- what a choice keeps of a list, chain by chain; voids go
  abbrev pub kept_list : List N → List N
  kept_list ns = flat_map kept_chain (chains J (filter (is_node J) ns))

module _ {I : Type 0} where
  -- what a choice keeps of a module
  abbrev pub kept_forest : Choice I → ForestOf I → ForestOf I
  kept_forest choice = through (kept_list element (λ x. x) choice) false

  -- a node with its number in its list
  abbrev pub numbered_element : Judged I (Element I × ℕ)
  numbered_element = record { is_void = λ x. element.is_void x.0; condition_of = λ x. element.condition_of x.0; in_role = λ known role x. x }

  -- the nodes of a list with their numbers, from n on
  abbrev pub numbered_from : ℕ → List (Element I) → List (Element I × ℕ)
  numbered_from n [] = []
  numbered_from n (x ∷ xs) = (x, n) ∷ numbered_from (suc n) xs

  -- the numbers of the nodes of a list that a choice keeps
  abbrev pub kept_indexes : Choice I → List (Element I) → List ℕ
  kept_indexes choice xs = map (λ x. x.1) (kept_list numbered_element (λ x. x.0) choice (numbered_from 0 xs))
