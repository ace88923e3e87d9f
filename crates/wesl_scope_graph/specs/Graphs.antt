-- Graphs: the nodes 0, 1, 2, .. and of each the nodes that it leads to.
use Rattle.std.specs.Prelude.{◌≡◌, ◌<◌, ℕ, Bool, true, List, [], length, map, get_or, Vec}
use Rattle.std.specs.List.{Contains}
use Rattle.std.specs.declared.alloc.Global.{Global}
use Rattle.wesl_scope_graph.specs.Marks.{mark_at}

-- of each node, by its number, the nodes to which it leads; a number past the end of the list may stand there, and is no node
abbrev pub Graph : Type 0
Graph = List (List ℕ)

-- the graph that the lists of the code are
abbrev pub graph_view : List (Vec ℕ Global) → Graph
graph_view = map (λ v. v.items)

-- the nodes to which a node leads, none where there is no such node
abbrev pub edges_at : Graph → ℕ → List ℕ
edges_at g a = get_or g a []

-- node a leads to node b
abbrev pub Leads : Graph → ℕ → ℕ → Type 0
Leads g a b = Contains (edges_at g a) b

-- no edge leads out of the graph
abbrev pub IsClosed : Graph → Type 0
IsClosed g = (a b : ℕ) → Leads g a b → b < length g

-- The marked nodes, and each node to which one of these leads. A node past the end of the marks is none of them.
pub data Reached (g : Graph) (marks : List Bool) : ℕ → Type 0 where
  marked : (a : ℕ) → mark_at marks a ≡ true → Reached g marks a
  onward : (a b : ℕ) → b < length marks → Reached g marks a → Leads g a b → Reached g marks b
