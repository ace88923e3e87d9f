use Rattle.std.proofs.Common.{◌≡◌, ◌∙◌, ◌==◌, ◌<◌, length, get_or, ap, arith}
use Rattle.wesl_validate_rules.specs.Graphs.{graph_view, edges_at}
use Rattle.wesl_validate_rules.proofs.Stepping.{admitted_next}
use Rattle.wesl_validate_rules.proofs.steps.add_edges.Goals as goal

pub loop-target-preserved : goal.loop-target-preserved
loop-target-preserved c =
    let targets = c.args.targets.now.items in
    let i = c.loop-target.target-index in
    let same : c.deref-target-items.result.now ≡ targets = c.deref-target-items.ensures.value in
    let inside : i < length targets = omega (arith, ap length same) in
    record {
      added = λ a.
          c.in_ok-add_edge.ensures.added a
          ∙ admitted_next (c.args.from == a) (edges_at (graph_view c.args.graph.now.items) a) (edges_at (graph_view c.loop-target.graph.items) a) targets i (get_or c.deref-target-items.result.now i 0) 0 inside (ap (λ xs. get_or xs i 0) same) (c.loop-target.invariant.added a);
      closed = λ h. c.in_ok-add_edge.ensures.closed (c.loop-target.invariant.closed h);
    }
