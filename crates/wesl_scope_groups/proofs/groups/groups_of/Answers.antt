use Rattle.std.proofs.Common.{◌≤◌, length, arith}
use Rattle.std.proofs.lemmas.List.{length-map}
use Rattle.wesl_scope_graph.specs.Graphs.{graph_view}
use Rattle.wesl_scope_groups.proofs.Grouped.{ends}
use Rattle.wesl_scope_groups.proofs.groups.groups_of.Goals as goal

pub returns : goal.returns
returns c =
    let at = c.loop-node in
    let graph = c.args.graph.now.items in
    let sized = length-map graph (λ v. v.items) in
    let over : length (graph_view graph) ≤ at.node = omega (arith, sized, c.loop-node-test.false, c.len-node-end.ensures) in
    ends (graph_view graph) (graph_view c.in_ok-back.back.items) at.done.items at.outside.items at.groups.items at.node over at.invariant.grouping at.invariant.met
