-- How a list goes on after a chain: what has become of the branches before decides with the next one.
use Rattle.std.specs.Prelude.{◌≡◌, ℕ, List, ◌∷◌, ◌++◌, Bool, false, true, cond, Option}
use Rattle.wesl_cond_chains.specs.Chains.{Judged, residual_after, residual_list}
use Rattle.wesl_cond_chains.specs.Lists.{Element, alone, element, still}
use Rattle.wesl_cond_chains.specs.Nodes.{as_element, as_elements, closed_nodes, optional_elements}
use Rattle.wesl_cond_features.specs.Answers.{Answers}
use Rattle.wesl_cond_features.specs.declared.chain.Chain.{Chain}
use Rattle.wesl_tree_syntax.specs.Tree.{Forest, Tree}

module _ {I N : Type 0} (J : Judged I N) where
  -- how a beginning of a list is taken, whatever follows
  abbrev pub AreTurns : Answers I → Bool → Bool → List N → Bool → Bool → List N → Type 0
  AreTurns known kept decided ns kept' decided' us = (rest : List N) → residual_after J known kept decided (ns ++ rest) ≡ us ++ residual_after J known kept' decided' rest

  -- how the next node is taken: as u where it stays, whatever follows
  abbrev pub IsTurn : Answers I → Bool → Bool → N → Bool → Bool → N → Bool → Type 0
  IsTurn known kept decided n kept' decided' u stays =
      (rest : List N) → residual_after J known kept decided (n ∷ rest)
      ≡ cond stays (u ∷ residual_after J known kept' decided' rest) (residual_after J known kept' decided' rest)

  -- how a beginning of a list is passed, whatever follows and whatever stays of it
  abbrev pub Ends : Answers I → Bool → Bool → List N → Bool → Bool → Type 0
  Ends known kept decided ns kept' decided' = AreTurns known kept decided ns kept' decided' (residual_after J known kept decided ns)

-- The same by the nodes of the code and their chain before and after, whether or not they close a list: one node, which
-- is taken as another,
abbrev pub TakesNode : Judged ℕ (Element ℕ) → Answers ℕ → Chain → Tree → Chain → Tree → Bool → Type 0
TakesNode J known c s d t stays = (closes : Bool) → IsTurn J known c.kept c.decided (as_element closes s) d.kept d.decided (as_element closes t) stays

-- the nodes at the beginning of a list, which are left as they are,
abbrev pub PassesNodes : {A : Type 0} → Answers ℕ → (A → Tree) → Chain → List A → Chain → Type 0
PassesNodes known view c xs d = (closes : Bool) → Ends still known c.kept c.decided (as_elements closes view xs) d.kept d.decided

-- those of a list, of which some stay,
abbrev pub LeavesNodes : {A : Type 0} → Answers ℕ → (A → Tree) → Chain → List A → Chain → List A → Type 0
LeavesNodes known view c xs d ys = (closes : Bool) → AreTurns element known c.kept c.decided (as_elements closes view xs) d.kept d.decided (as_elements closes view ys)

-- what closes a list, which stays or not,
abbrev pub LeavesLast : {A : Type 0} → Answers ℕ → (A → Tree) → Chain → Option A → Chain → Option A → Type 0
LeavesLast known view c x d y = (closes : Bool) → AreTurns element known c.kept c.decided (optional_elements closes view x) d.kept d.decided (optional_elements closes view y)

-- and a whole list with what closes it
abbrev pub LeavesBoth : {A B : Type 0} → Answers ℕ → (A → Tree) → List A → (B → Tree) → Option B → List A → Option B → Type 0
LeavesBoth known view xs last_view x ys y = as_elements false view ys ++ optional_elements true last_view y ≡ residual_list element known (closed_nodes view xs last_view x)

-- what is left of a list that nothing closes
abbrev pub left_of_list : Answers ℕ → Forest → Forest
left_of_list known list = alone (residual_list element known) list
