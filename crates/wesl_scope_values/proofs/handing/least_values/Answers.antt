use Rattle.std.proofs.Common.{◌≤◌, length, arith}
use Rattle.wesl_scope_graph.specs.Graphs.{graph_view}
use Rattle.wesl_scope_values.proofs.HandedOn.{first_all}
use Rattle.wesl_scope_values.proofs.handing.least_values.Goals as goal

pub returns : goal.returns
returns c =
    let at = c.loop-value in
    let over : length c.args.told.now.items ≤ at.value = omega (arith, c.loop-value-test.false, c.len-value-end.ensures) in
    first_all (graph_view c.args.graph.now.items) c.args.told.now.items at.value at.marks.items at.values.items over at.invariant
