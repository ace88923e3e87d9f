-- The sets of the choices that keep nodes.
use Rattle.std.specs.Prelude.{◌≡◌, ℕ, Bool, true, false, not, ◌&&◌, cond, List, [], ◌∷◌, length, Result, IfOk, None, Some}
use Rattle.std.specs.declared.alloc.AllocError.{AllocError}
use Rattle.wesl_tree_base.specs.Borrowed.{texts}
use Rattle.wesl_cond_chains.specs.Chains.{follows_on}
use Rattle.wesl_cond_chains.specs.Lists.{Element, elements}
use Rattle.wesl_cond_chains.specs.Picked.{Choice, is_true}
use Rattle.wesl_cond_choices.specs.Choices.{Choices, has as holds}
use Rattle.wesl_tree_syntax.specs.Tree.{Forest, Tree, before, end}
use Rattle.wesl_cond_alive.specs.Choices.{IsSetOf, choice_by}
use Rattle.wesl_cond_alive.specs.Kept.{kept_indexes}
use Rattle.wesl_cond_alive.specs.Positions.{has, kept_at}
use Rattle.wesl_cond_alive.specs.Sound.{Outline}
use Rattle.wesl_cond_positions.specs.declared.lookup.Lookup.{Lookup}

-- the choice with number k of the flags of a look-up, where a flag is a number of its table of names
abbrev pub choice_in : Lookup → ℕ → Choice ℕ
choice_in look k = choice_by look.names.now (texts look.flags.now) k

-- a set that has the choices under which this is true
pub record IsFound (look : Lookup) (test : Choice ℕ → Bool) (c : Choices) : Type 0 where
  pub over : c.flags ≡ length look.flags.now
  pub set : IsSetOf (length look.flags.now) (λ k. test (choice_in look k)) c

-- that of the choices that keep the node at a position, from a tree on, unless memory was wanting
abbrev pub Finds : Lookup → List ℕ → Tree → Result Choices AllocError → Type 0
Finds look position t result = IfOk result (IsFound look (λ choice. kept_at choice None 0 position (before t end)))

-- whether a choice keeps the node at a position, from a body on that holds a judged list
abbrev pub keeps_in_body : Choice ℕ → List (Element ℕ) → List ℕ → Tree → Bool
keeps_in_body choice xs position t = kept_at choice (Some (kept_indexes choice xs)) 0 position (before t end)

-- whether a choice keeps the node at a position from a judged list on, where none lies further below
abbrev pub keeps_leaf : Choice ℕ → List ℕ → Forest → Bool
keeps_leaf choice [] nodes = true
keeps_leaf choice (i ∷ position) nodes = has (kept_indexes choice (elements false nodes)) i

-- whether a choice keeps a node, by whether it stays whole, and whether no branch before in its chain was true
abbrev pub keeps_node : Choice ℕ → Bool → Bool → Outline ℕ → Bool
keeps_node choice whole free x = cond x.is_void false (cond whole true (cond (follows_on x.condition) free true && is_true choice x.condition))

-- whether no branch was true then
abbrev pub free_after : Choice ℕ → Bool → Bool → Outline ℕ → Bool
free_after choice whole free x = cond x.is_void free (cond whole free (cond (follows_on x.condition) free true && not (is_true choice x.condition)))

-- the set of the choices under which no branch was true, after a node
pub record IsFreeAfter (look : Lookup) (whole : Bool) (x : Outline ℕ) (old new : Choices) : Type 0 where
  pub over : new.flags ≡ length look.flags.now
  pub set : IsSetOf (length look.flags.now) (λ k. free_after (choice_in look k) whole (holds old k) x) new
