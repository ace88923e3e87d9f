-- Groups of nodes that reach each other.
use Rattle.std.specs.Prelude.{◌≡◌, ◌↔◌, ◌<◌, ◌≤◌, ℕ, Bool, true, Option, Some, None, List, [], ◌∷◌, length}
use Rattle.std.proofs.Common.{set}
use Rattle.wesl_scope_graph.specs.Graphs.{Graph}
use Rattle.wesl_scope_graph.specs.Marks.{mark_at}
use Rattle.wesl_scope_values.specs.Values.{ReachedFrom, value_at}

-- two nodes reach each other
abbrev pub AreMutual : Graph → ℕ → ℕ → Type 0
AreMutual g a b = ReachedFrom g a b × ReachedFrom g b a

-- each node has a group, and two have one if they reach each other
pub record AreGroups (g : Graph) (groups : List (Option ℕ)) : Type 0 where
  pub each : (a : ℕ) → a < length g → value_at groups a ≡ None → ⊥
  pub alike : (a b n m : ℕ) → value_at groups a ≡ Some n → value_at groups b ≡ Some m → (n ≡ m) ↔ AreMutual g a b

-- marks of these nodes are set
abbrev pub all_set : List ℕ → List Bool → List Bool
all_set [] ms = ms
all_set (n ∷ ns) ms = all_set ns (set ms n true)

-- Some groups are put together: exactly those nodes have their mark in `done` that have a group, and whole groups have it.
-- In `outside` all nodes have theirs. `back` is the graph that is turned round.
pub record IsGrouping (g back : Graph) (done outside : List Bool) (groups : List (Option ℕ)) : Type 0 where
  pub sized : length g ≤ length done
  pub sized_back : length back ≤ length done
  pub sized_outside : length g ≤ length outside
  pub full : (m : ℕ) → m < length g → mark_at outside m ≡ true
  pub closed : (a b : ℕ) → mark_at done a ≡ true → AreMutual g a b → mark_at done b ≡ true
  pub grouped : (m : ℕ) → mark_at done m ≡ true → value_at groups m ≡ None → ⊥
  pub given : (m n : ℕ) → value_at groups m ≡ Some n → (mark_at done m ≡ true) × AreMutual g n m
  pub alike : (a b n m : ℕ) → value_at groups a ≡ Some n → value_at groups b ≡ Some m → AreMutual g a b → n ≡ m
