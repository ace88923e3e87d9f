use Rattle.std.proofs.Common.{◌≡◌, ◌<◌, ◌≤◌, length, get_or, ap, subst, arith}
use Rattle.std.proofs.lemmas.List.{take_all}
use Rattle.wesl_scope_graph.specs.Graphs.{graph_view}
use Rattle.wesl_scope_values.specs.Values.{AddsFromEach}
use Rattle.wesl_scope_values.proofs.Edges.{adds_none, adds_next}
use Rattle.wesl_scope_values.proofs.turning.add_from_each.Goals as goal

pub loop-node-init : goal.loop-node-init
loop-node-init c = record { added = adds_none c.args.to (graph_view c.args.graph.now.items); closed = λ h. h }

pub loop-node-preserved : goal.loop-node-preserved
loop-node-preserved c =
    let at = c.loop-node in
    let ns = c.args.nodes.now.items in
    let same : c.deref-node-items.result.now ≡ ns = c.deref-node-items.ensures.value in
    let inside : at.node-index < length ns = omega (arith, ap length same, c.loop-node-test.true) in
    record {
      added = adds_next ns at.node-index _ c.args.to (graph_view c.args.graph.now.items) (graph_view at.graph.items) (graph_view c.add_edge.new.graph.items) inside (ap (λ xs. get_or xs at.node-index 0) same) at.invariant.added c.in_ok-add_edge.ensures.added;
      closed = λ h. c.in_ok-add_edge.ensures.closed (at.invariant.closed h);
    }

pub returns-clause-added : goal.returns-clause-added
returns-clause-added c =
    let at = c.loop-node in
    let ns = c.args.nodes.now.items in
    let same : c.deref-node-items.result.now ≡ ns = c.deref-node-items.ensures.value in
    let over : length ns ≤ at.node-index = omega (arith, ap length same, c.loop-node-test.false) in
    subst (λ xs. AddsFromEach xs c.args.to (graph_view c.args.graph.now.items) (graph_view at.graph.items)) (take_all at.node-index ns over) at.invariant.added
