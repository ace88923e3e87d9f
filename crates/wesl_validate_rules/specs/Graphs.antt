-- Paths and rings in graphs.
use Rattle.std.specs.Prelude.{◌≡◌, ◌⊎◌, ℕ}
pub use Rattle.wesl_scope_graph.specs.Graphs.{Graph, graph_view, edges_at, Leads, IsClosed}

module _ (g : Graph) where
  -- one or more edges
  pub data Path : ℕ → ℕ → Type 0 where
    edge : (a b : ℕ) → Leads g a b → Path a b
    then : (a b c : ℕ) → Leads g a b → Path b c → Path a c

  -- every path from it ends
  pub data IsGrounded : ℕ → Type 0 where
    grounded : (a : ℕ) → ((b : ℕ) → Leads g a b → IsGrounded b) → IsGrounded a

  -- the edge from `last` to `first` closes a ring
  pub record IsRing (first last : ℕ) : Type 0 where
    pub leads_there : (first ≡ last) ⊎ Path first last
    pub leads_back : Leads g last first
