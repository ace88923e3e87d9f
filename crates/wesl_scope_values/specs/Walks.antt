-- Walks that mark the nodes that they meet.
use Rattle.std.specs.Prelude.{◌≡◌, ◌⊎◌, ◌↔◌, ◌<◌, ◌≤◌, ℕ, Bool, true, false, Option, Some, None, List, [], ◌∷◌, ◌++◌, length, if◌then◌else◌}
use Rattle.std.specs.List.{Contains}
use Rattle.std.proofs.Common.{set}
use Rattle.wesl_scope_graph.specs.Graphs.{Graph, Leads}
use Rattle.wesl_scope_graph.specs.Marks.{mark_at}
use Rattle.wesl_scope_values.specs.Values.{ReachedFromOne, IsHandedOn, value_at}

-- nodes in the order in which they were met, and a mark of each
pub record Visits : Type 0 where
  pub marks : List Bool
  pub nodes : List ℕ

-- the visits of these nodes in this order, with these marks
abbrev pub visits : List Bool → List ℕ → Visits
visits marks nodes = record { marks = marks; nodes = nodes }

-- a node is met: it is put at the end, unless it has its mark
abbrev pub entered : ℕ → Visits → Visits
entered n s = if mark_at s.marks n then s else record { marks = set s.marks n true; nodes = s.nodes ++ n ∷ [] }

-- these nodes are met, one after the other
abbrev pub all_entered : List ℕ → Visits → Visits
all_entered [] s = s
all_entered (n ∷ ns) s = all_entered ns (entered n s)

-- marks of these nodes are taken away
abbrev pub cleared : List ℕ → List Bool → List Bool
cleared [] ms = ms
cleared (n ∷ ns) ms = cleared ns (set ms n false)

-- a mark for each node of the graph, or more marks, and none is set
pub record IsClear (g : Graph) (marks : List Bool) : Type 0 where
  pub sized : length g ≤ length marks
  pub unset : (m : ℕ) → mark_at marks m ≡ false

-- nodes with their mark lead to such nodes alone
abbrev pub AreClosed : Graph → List Bool → Type 0
AreClosed g marks = (a b : ℕ) → mark_at marks a ≡ true → Leads g a b → mark_at marks b ≡ true

-- A walk from the first nodes meets these nodes: it goes on along all edges, but not from nodes that had their mark before.
-- Those that it meets are marked, and nothing else is.
pub record Walked (g : Graph) (first : List ℕ) (before after : List Bool) (nodes : List ℕ) : Type 0 where
  pub sized : length after ≡ length before
  pub sound : (m : ℕ) → Contains nodes m → ReachedFromOne g first m
  pub fresh : (m : ℕ) → Contains nodes m → mark_at before m ≡ true → ⊥
  pub begun : (m : ℕ) → Contains first m → Contains nodes m ⊎ (mark_at before m ≡ true)
  pub onward : (a b : ℕ) → Contains nodes a → Leads g a b → Contains nodes b ⊎ (mark_at before b ≡ true)
  pub listed : (m : ℕ) → mark_at after m ≡ true → Contains nodes m ⊎ (mark_at before m ≡ true)
  pub kept : (m : ℕ) → mark_at before m ≡ true → mark_at after m ≡ true
  pub marked : (m : ℕ) → Contains nodes m → m < length before → mark_at after m ≡ true

-- nodes have those of the first n values that are handed on to them, and no mark is set
pub record AreHandedOn (g told : Graph) (n : ℕ) (marks : List Bool) (values : Graph) : Type 0 where
  pub clear : IsClear g marks
  pub handed : (m v : ℕ) → Leads values m v ↔ ((v < n) × IsHandedOn g told v m)

-- the least of the first n values that the node has
abbrev pub IsLeastBelow : Graph → Graph → ℕ → ℕ → Option ℕ → Type 0
IsLeastBelow g told n m None = (v : ℕ) → v < n → IsHandedOn g told v m → ⊥
IsLeastBelow g told n m (Some v) = IsHandedOn g told v m × ((w : ℕ) → w < v → IsHandedOn g told w m → ⊥)

-- nodes have the least of the first n values, and a node with its mark has one
pub record AreFirst (g told : Graph) (n : ℕ) (marks : List Bool) (values : List (Option ℕ)) : Type 0 where
  pub sized : length g ≤ length marks
  pub closed : AreClosed g marks
  pub marked : (m : ℕ) → mark_at marks m ≡ true → value_at values m ≡ None → ⊥
  pub least : (m : ℕ) → IsLeastBelow g told n m (value_at values m)

-- those of these nodes get the value that have none, and nothing else changes
abbrev pub SetsFirst : List ℕ → ℕ → List (Option ℕ) → List (Option ℕ) → Type 0
SetsFirst nodes v old new = (m : ℕ) →
    ((value_at new m ≡ value_at old m) × (value_at old m ≡ None → Contains nodes m → ⊥))
    ⊎ (Contains nodes m × (value_at old m ≡ None) × (value_at new m ≡ Some v))
