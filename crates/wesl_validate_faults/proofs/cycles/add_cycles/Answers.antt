use Rattle.std.proofs.Common.{◌≡◌, ◌∙◌, ℕ, [], map, sym, subst, append-nil}
use Rattle.std.specs.Prelude.{Option, Some, None, Result, Ok, Err, IfOk, IfNone}
use Rattle.wesl_scope_graph.specs.Graphs.{graph_view, edges_at, IsClosed}
use Rattle.wesl_scope_occurrences.specs.Views.{occurrence_view}
use Rattle.wesl_scope_occurrences.specs.Ways.{way}
use Rattle.wesl_validate_rules.specs.Graphs.{IsGrounded}
use Rattle.wesl_validate_rules.specs.Steps.{steps}
use Rattle.wesl_validate_rules.proofs.Stepping.{same_steps}
use Rattle.wesl_validate_faults.specs.Gathered.{findings_view}
use Rattle.wesl_validate_faults.specs.Listed.{module_numbers}
use Rattle.wesl_validate_faults.proofs.Listing.{declared_is}
use Rattle.wesl_validate_faults.proofs.Rings.{are_cycles, none_are_cycles}
use Rattle.wesl_validate_faults.proofs.cycles.add_cycles.Goals as goal

of_ok : {A E : Type 0} {P Q : A → Type 0} (r : Result A E) → ((x : A) → P x → Q x) → IfOk r P → IfOk r Q
of_ok (Ok x) f p = f x p
of_ok (Err e) f p = p

none_of : {X : Type 0} (r : Option X) (P : Type 0) → r ≡ None → IfNone r P → P
none_of None P e h = h
none_of (Some x) P e h = cc

pub ring-requires : goal.ring-requires
ring-requires c = record { closed = subst (λ xs. IsClosed (graph_view xs)) (sym c.deref.ensures.value) c.in_ok-graph.ensures.closed }

pub returns-in-None : goal.returns-in-None
returns-in-None c =
    let found = c.args.found.now in
    let os = map occurrence_view found.all.items in
    let g = graph_view c.deref.result.now in
    let edges : (a : ℕ) → edges_at g a ≡ steps os a = subst (λ xs. (a : ℕ) → edges_at (graph_view xs) a ≡ steps os a) (sym c.deref.ensures.value) c.in_ok-graph.ensures.steps in
    let ends : (a : ℕ) → IsGrounded g a = none_of c.in_ok-ring.field-0 ((a : ℕ) → IsGrounded g a) c.in-None.is c.in_ok-ring.ensures.none in
    λ u n. ([], none_are_cycles u c.args.names.now n.same_names g (same_steps u (way found.outer.items) os n.same_identifiers g edges) ends (module_numbers u), sym (append-nil (findings_view c.args.findings.now.items)))

pub returns : goal.returns
returns c =
    let found = c.args.found.now in
    let os = map occurrence_view found.all.items in
    let g = graph_view c.in_ok-graph.graph.items in
    let edges : (a : ℕ) → edges_at g a ≡ steps os a = c.in_ok-graph.ensures.steps in
    let ds = c.in_ok-declared.declared.items in
    of_ok c.add_rings.result
    (λ v h u n. (
      h.0,
      are_cycles u c.args.names.now n.same_names g (same_steps u (way found.outer.items) os n.same_identifiers g edges) ds (declared_is u (way found.outer.items) os n.same_identifiers ∙ sym c.in_ok-declared.ensures) h.0 h.1,
      h.2,
    ))
    c.add_rings.ensures
