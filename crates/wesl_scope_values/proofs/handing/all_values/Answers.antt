use Rattle.std.proofs.Common.{◌≤◌, length, arith}
use Rattle.wesl_scope_graph.specs.Graphs.{graph_view}
use Rattle.wesl_scope_values.proofs.HandedOn.{handed_all}
use Rattle.wesl_scope_values.proofs.handing.all_values.Goals as goal

pub returns : goal.returns
returns c =
    let at = c.loop-value in
    let over : length c.args.told.now.items ≤ at.value = omega (arith, c.loop-value-test.false, c.len-value-end.ensures) in
    handed_all (graph_view c.args.graph.now.items) c.args.told.now.items at.value at.marks.items (graph_view at.values.items) over at.invariant
