-- What a search along edges has found so far.
use Rattle.std.specs.Prelude.{◌≡◌, ◌⊎◌, ℕ, ◌<◌, ◌≤◌, Option, Some, None, List, [], ◌∷◌, length, get_or}
use Rattle.wesl_validate_rules.specs.Graphs.{Graph, edges_at, Leads, IsGrounded}
use Rattle.wesl_validate_rules.specs.declared.graph.Mark.{Mark}
use Rattle.wesl_validate_rules.specs.declared.graph.Mark.TheVariants.{New, Open, Done}

-- the node to which edge k of the node a leads, counted from 0; past the last edge node 0
abbrev pub edge_target : Graph → ℕ → ℕ → ℕ
edge_target g a k = get_or (edges_at g a) k 0

-- how far a search is with the node a; a node past the end of the marks was not met
abbrev pub stage_at : List Mark → ℕ → Mark
stage_at ms a = get_or ms a New

-- how many edges of the node a are left to look at; of a node past the end of the list none
abbrev pub left_at : List ℕ → ℕ → ℕ
left_at ls a = get_or ls a 0

-- the node a stands on the way
abbrev pub OnWay : ℕ → List ℕ → Type 0
OnWay a [] = ⊥
OnWay a (b ∷ ws) = (b ≡ a) ⊎ OnWay a ws

-- marks, how many edges of each node are left to look at, and the way: open nodes, the newest first
module _ (g : Graph) (ms : List Mark) (ls : List ℕ) where
  -- each edge that was looked at leads to a node that is done or to the next on the way
  abbrev pub Looked : ℕ → Option ℕ → Type 0
  Looked a above = (k : ℕ) → left_at ls a ≤ k → k < length (edges_at g a) → (stage_at ms (edge_target g a k) ≡ Done) ⊎ (above ≡ Some (edge_target g a k))

  -- the node a leads to the next on the way, if there is one
  abbrev pub Onward : ℕ → Option ℕ → Type 0
  Onward a None = Unit {0}
  Onward a (Some b) = Leads g a b

  -- These nodes are a way below the node `above`, the newest first. Each is a node of the graph, stands there once, and leads
  -- to the newer node beside it, and those of its edges that were looked at lead there or to nodes that are done.
  abbrev pub AreWay : Option ℕ → List ℕ → Type 0
  AreWay above [] = Unit {0}
  AreWay above (a ∷ ws) = (a < length g) × Looked a above × Onward a above × (OnWay a ws → ⊥) × AreWay (Some a) ws

  -- How a search stands: a node that was not met has all its edges left, every path from a node that is done ends, and the
  -- open nodes are those of the way.
  pub record IsSearch (ws : List ℕ) : Type 0 where
    pub marks_sized : length ms ≡ length g
    pub left_sized : length ls ≡ length g
    pub fresh : (a : ℕ) → a < length g → stage_at ms a ≡ New → left_at ls a ≡ length (edges_at g a)
    pub within : (a : ℕ) → a < length g → left_at ls a ≤ length (edges_at g a)
    pub done : (a : ℕ) → stage_at ms a ≡ Done → IsGrounded g a
    pub on_way : (a : ℕ) → stage_at ms a ≡ Open → OnWay a ws
    pub opened : (a : ℕ) → OnWay a ws → stage_at ms a ≡ Open
    pub way : AreWay None ws
