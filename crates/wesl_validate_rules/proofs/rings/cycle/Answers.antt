use Rattle.std.proofs.Common.{◌≡◌, ℕ, sym, subst, map}
use Rattle.wesl_tree_syntax.specs.Unit.{UnitView}
use Rattle.wesl_scope_strip.specs.Declarations.{all}
use Rattle.wesl_scope_occurrences.specs.Identified.{identified}
use Rattle.wesl_scope_occurrences.specs.Views.{occurrence_view}
use Rattle.wesl_scope_occurrences.specs.Ways.{way}
use Rattle.wesl_validate_rules.specs.Graphs.{graph_view, edges_at, IsClosed, IsGrounded, IsRing}
use Rattle.wesl_validate_rules.specs.Valid.{spelling, IsAcyclic}
use Rattle.wesl_validate_rules.specs.Faults.{IsCycle}
use Rattle.wesl_validate_rules.proofs.Graphs as graphs
use Rattle.wesl_validate_rules.specs.Steps.{steps}
use Rattle.wesl_validate_rules.proofs.Stepping.{same_steps, on_some, on_none}
use Rattle.wesl_validate_rules.proofs.rings.cycle.Goals as goal

pub ring-requires : goal.ring-requires
ring-requires c = record { closed = subst (λ xs. IsClosed (graph_view xs)) (sym c.deref.ensures.value) c.in_ok-graph.ensures.closed }

pub returns-clause-cycle : goal.returns-clause-cycle
returns-clause-cycle c =
    let found = c.args.found.now in
    let os = map occurrence_view found.all.items in
    let g = graph_view c.deref.result.now in
    let edges : (a : ℕ) → edges_at g a ≡ steps os a = subst (λ xs. (a : ℕ) → edges_at (graph_view xs) a ≡ steps os a) (sym c.deref.ensures.value) c.in_ok-graph.ensures.steps in
    on_some c.ring.result (λ p. IsRing g p.0 p.1) (λ p. (u : UnitView) → identified found ≡ all u → IsCycle u (spelling u p.0) (spelling u p.1))
    (λ p r u e. graphs.cycle u g (same_steps u (way found.outer.items) os e g edges) p.0 p.1 r) c.ring.ensures.ring

pub returns-clause-none : goal.returns-clause-none
returns-clause-none c =
    let found = c.args.found.now in
    let os = map occurrence_view found.all.items in
    let g = graph_view c.deref.result.now in
    let edges : (a : ℕ) → edges_at g a ≡ steps os a = subst (λ xs. (a : ℕ) → edges_at (graph_view xs) a ≡ steps os a) (sym c.deref.ensures.value) c.in_ok-graph.ensures.steps in
    on_none c.ring.result ((a : ℕ) → IsGrounded g a) ((u : UnitView) → identified found ≡ all u → IsAcyclic u)
    (λ r u e. graphs.acyclic u g (same_steps u (way found.outer.items) os e g edges) r) c.ring.ensures.none
