-- Values that are handed on along the edges of a graph. A list of nodes for each value, told as a graph from values to
-- nodes, says which have it by themselves.
use Rattle.std.specs.Prelude.{◌≡◌, ◌↔◌, ◌⊎◌, ◌<◌, ℕ, Option, Some, None, List, get_or}
use Rattle.std.specs.List.{Contains}
use Rattle.wesl_scope_graph.specs.Graphs.{Graph, Leads}

-- no edge or more lead from the first node to the second
pub data ReachedFrom (g : Graph) : ℕ → ℕ → Type 0 where
  itself : (a : ℕ) → ReachedFrom g a a
  onward : (a b c : ℕ) → Leads g a b → ReachedFrom g b c → ReachedFrom g a c

-- each edge is turned round
abbrev pub IsTurned : Graph → Graph → Type 0
IsTurned g back = (a b : ℕ) → Leads back b a ↔ Leads g a b

-- the node is reached from one of these
abbrev pub ReachedFromOne : Graph → List ℕ → ℕ → Type 0
ReachedFromOne g first m = (a : ℕ) × Contains first a × ReachedFrom g a m

-- the node has the value: it is reached from one that has it by itself
abbrev pub IsHandedOn : Graph → Graph → ℕ → ℕ → Type 0
IsHandedOn g told v m = (a : ℕ) × Leads told v a × ReachedFrom g a m

-- the value that is kept of a node; past the end there is none
abbrev pub value_at : List (Option ℕ) → ℕ → Option ℕ
value_at values m = get_or values m None

-- the least value that the node has, or none where it has none
abbrev pub IsLeast : Graph → Graph → ℕ → Option ℕ → Type 0
IsLeast g told m None = (v : ℕ) → IsHandedOn g told v m → ⊥
IsLeast g told m (Some v) = IsHandedOn g told v m × ((w : ℕ) → w < v → IsHandedOn g told w m → ⊥)

-- an edge is added from each of these nodes to that node
abbrev pub AddsFromEach : List ℕ → ℕ → Graph → Graph → Type 0
AddsFromEach nodes to old new = (a b : ℕ) → Leads new a b ↔ (Leads old a b ⊎ (Contains nodes a × (to ≡ b)))
