-- Nodes of a judged list as what their conditions say, and chains in which no fault stands where all flags are kept.
use Rattle.std.specs.Prelude.{Bool, true, false, not, ◌&&◌, cond, List, [], ◌∷◌}
use Rattle.wesl_cond_features.specs.declared.features.Feature.TheVariants.{Keep}
use Rattle.wesl_cond_chains.specs.Chains.{Condition, none, on, else_on, otherwise, follows_on}
use Rattle.wesl_cond_chains.specs.Conditions.{first_condition, attributes_in, is_void}
use Rattle.wesl_cond_chains.specs.Faults.{condition_faults, conditions}
use Rattle.wesl_cond_chains.specs.Lists.{Element}
use Rattle.wesl_cond_alive.specs.Kept.{is_faultless}
use Rattle.wesl_tree_syntax.specs.Tree.{tree, end}

-- what matters of a node
pub record Outline (I : Type 0) : Type 0 where
  pub is_void : Bool
  -- its first condition
  pub condition : Condition I
  -- it has one condition at most, and that is a formula
  pub is_clean : Bool

module _ {I : Type 0} where
  -- whether there is one condition at most, and that a formula; `seen` where one comes before
  abbrev pub are_clean_after : Bool → List (Condition I) → Bool
  are_clean_after seen [] = true
  are_clean_after seen (c ∷ cs) = not seen && (is_faultless (condition_faults (λ flag. Keep) c) && are_clean_after true cs)

  -- whether a node with these conditions has one at most, in whose formula no fault stands where all flags are kept
  abbrev pub are_clean : List (Condition I) → Bool
  are_clean cs = are_clean_after false cs

  -- what matters of a node of a judged list, or of what closes one
  abbrev pub outline_of : Element I → Outline I
  outline_of x = record {
    is_void = is_void x.label x.children;
    condition = first_condition (attributes_in (tree x.label x.children end));
    is_clean = are_clean (conditions (attributes_in (tree x.label x.children end)));
  }

  -- whether there is a condition: an @if, an @elif or an @else
  abbrev pub is_conditional : Condition I → Bool
  is_conditional none = false
  is_conditional (on x) = true
  is_conditional (else_on x) = true
  is_conditional otherwise = true

  -- whether an @elif or an @else may come next
  abbrev pub opens_chain : Condition I → Bool
  opens_chain none = false
  opens_chain (on x) = true
  opens_chain (else_on x) = true
  opens_chain otherwise = false

  -- whether what a list has of a chain that is open, or not, is without fault
  abbrev pub is_rest_sound : Bool → List (Outline I) → Bool
  is_rest_sound opened [] = true
  is_rest_sound opened (x ∷ xs) =
      cond x.is_void (is_rest_sound opened xs)
      (cond (follows_on x.condition) (opened && (x.is_clean && is_rest_sound (opens_chain x.condition) xs)) true)

  -- whether the chain that a node begins, before these others, is without fault
  abbrev pub is_chain_sound : Outline I → List (Outline I) → Bool
  is_chain_sound x xs = x.is_clean && is_rest_sound (opens_chain x.condition) xs

  -- whether a node stays whole, by whether the node before it does: it goes on with that one's chain, or has no condition,
  -- or begins a chain at fault
  abbrev pub is_whole : Bool → Outline I → List (Outline I) → Bool
  is_whole whole x xs = cond (follows_on x.condition) whole (not (is_conditional x.condition && is_chain_sound x xs))

  -- the same after a node of a list: a void changes nothing
  abbrev pub whole_after : Bool → Outline I → List (Outline I) → Bool
  whole_after whole x xs = cond x.is_void whole (is_whole whole x xs)
