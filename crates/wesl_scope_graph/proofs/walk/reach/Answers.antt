use Rattle.std.proofs.Common.{◌≡◌, [], arith, subst}
use Rattle.wesl_scope_graph.specs.Graphs.{graph_view}
use Rattle.wesl_scope_graph.proofs.Reaching.{Reaching, begins, goes_on, ends, empty}
use Rattle.wesl_scope_graph.proofs.walk.reach.Goals as goal

pub loop-node-init : goal.loop-node-init
loop-node-init c = begins (graph_view c.args.graph.now) c.args.marks.now c.in_ok-way.way.items c.in_ok-way.ensures

pub loop-node-preserved : goal.loop-node-preserved
loop-node-preserved c =
    let at = c.loop-node in
    goes_on (graph_view c.args.graph.now) c.args.marks.now at.marks c.spread.new.marks at.way.items c.pop.new.self.items c.spread.new.way.items c.in-Some.node at.invariant c.in-Some.ensures.items c.in_ok-spread.ensures

pub returns : goal.returns
returns c =
    let at = c.loop-node in
    let g = graph_view c.args.graph.now in
    let none = c.in_default.ensures.cases in
    let way : at.way.items ≡ [] = empty at.way.items (omega (arith, none.0, at.way.ok.0)) in
    record { reached = ends g c.args.marks.now at.marks (subst (Reaching g c.args.marks.now at.marks) way at.invariant) }
