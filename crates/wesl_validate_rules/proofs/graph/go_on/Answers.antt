use Rattle.std.proofs.Common.{◌<◌, length, rules}
use Rattle.wesl_validate_rules.proofs.Turns.{in_left, in_nodes, node_inside, small, turn_closes, turn_skips, turn_enters, turn_finishes, met_after, open_not_new, done_not_new}
use Rattle.wesl_validate_rules.proofs.graph.go_on.Goals as goal

pub bounds : goal.bounds
bounds c = small c.args.graph.now c.loop-node.marks c.loop-node.left c.loop-node.way.items c.pop.new.self.items c.in-Some.node c.loop-node.invariant.search c.in-Some.ensures.items c.index-graph-node.result c.index-target.result.now c.if-edges-gt0.true c.index-graph-node.is c.index-target.ensures c.requires.closed

pub bounds-marks-target : goal.bounds-marks-target
bounds-marks-target c = small c.args.graph.now c.loop-node.marks c.loop-node.left c.loop-node.way.items c.pop.new.self.items c.in-Some.node c.loop-node.invariant.search c.in-Some.ensures.items c.index-graph-node.result c.index-target.result.now c.if-edges-gt0.true c.index-graph-node.is c.index-target.ensures c.requires.closed

pub loop-node-preserved-in-Continue-branch-2 : goal.loop-node-preserved-in-Continue-branch-2
loop-node-preserved-in-Continue-branch-2 c = record {
  search = turn_enters c.args.graph.now c.loop-node.marks c.loop-node.left c.loop-node.way.items c.pop.new.self.items c.in-Some.node c.loop-node.invariant.search c.in-Some.ensures.items c.index-graph-node.result c.index-target.result.now c.if-edges-gt0.true c.index-graph-node.is c.index-target.ensures c.requires.closed c.in-New.is c.push.new.self.items c.push-in-New.new.self.items c.in_ok-push.ensures.items c.in_ok-push-in-New.ensures.items;
  met = λ a m. met_after c.loop-node.marks c.index-target.result.now _ a (small c.args.graph.now c.loop-node.marks c.loop-node.left c.loop-node.way.items c.pop.new.self.items c.in-Some.node c.loop-node.invariant.search c.in-Some.ensures.items c.index-graph-node.result c.index-target.result.now c.if-edges-gt0.true c.index-graph-node.is c.index-target.ensures c.requires.closed) open_not_new (c.loop-node.invariant.met a m);
}

pub returns-in-Open-clause-ring : goal.returns-in-Open-clause-ring
returns-in-Open-clause-ring c = turn_closes c.args.graph.now c.loop-node.marks c.loop-node.left c.loop-node.way.items c.pop.new.self.items c.in-Some.node c.loop-node.invariant.search c.in-Some.ensures.items c.index-graph-node.result c.index-target.result.now c.if-edges-gt0.true c.index-graph-node.is c.index-target.ensures c.in-Open.is

pub loop-node-preserved-in-Done : goal.loop-node-preserved-in-Done
loop-node-preserved-in-Done c = record {
  search = turn_skips c.args.graph.now c.loop-node.marks c.loop-node.left c.loop-node.way.items c.pop.new.self.items c.in-Some.node c.loop-node.invariant.search c.in-Some.ensures.items c.index-graph-node.result c.index-target.result.now c.if-edges-gt0.true c.index-graph-node.is c.index-target.ensures c.in-Done.is c.push.new.self.items c.in_ok-push.ensures.items;
  met = c.loop-node.invariant.met;
}

pub loop-node-preserved : goal.loop-node-preserved
loop-node-preserved c = record {
  search = turn_finishes c.args.graph.now c.loop-node.marks c.loop-node.left c.loop-node.way.items c.pop.new.self.items c.in-Some.node c.loop-node.invariant.search c.in-Some.ensures.items c.if-edges-gt0.false;
  met = λ a m. met_after c.loop-node.marks c.in-Some.node _ a (node_inside c.args.graph.now c.loop-node.marks c.loop-node.left c.loop-node.way.items c.pop.new.self.items c.in-Some.node c.loop-node.invariant.search c.in-Some.ensures.items) done_not_new (c.loop-node.invariant.met a m);
}

pub bounds-left-node : goal.bounds-left-node
bounds-left-node c = in_left c.args.graph.now c.loop-node.marks c.loop-node.left c.loop-node.way.items c.pop.new.self.items c.in-Some.node c.loop-node.invariant.search c.in-Some.ensures.items

pub bounds-graph-node : goal.bounds-graph-node
bounds-graph-node c = in_nodes c.args.graph.now c.loop-node.marks c.loop-node.left c.loop-node.way.items c.pop.new.self.items c.in-Some.node c.loop-node.invariant.search c.in-Some.ensures.items

pub bounds-left-node-then-edges-gt0 : goal.bounds-left-node-then-edges-gt0
bounds-left-node-then-edges-gt0 c = in_left c.args.graph.now c.loop-node.marks c.loop-node.left c.loop-node.way.items c.pop.new.self.items c.in-Some.node c.loop-node.invariant.search c.in-Some.ensures.items

pub bounds-marks-node : goal.bounds-marks-node
bounds-marks-node c = node_inside c.args.graph.now c.loop-node.marks c.loop-node.left c.loop-node.way.items c.pop.new.self.items c.in-Some.node c.loop-node.invariant.search c.in-Some.ensures.items

pub offset_bounds-graph-node : goal.offset_bounds-graph-node
offset_bounds-graph-node c = let h : c.in-Some.node < length c.args.graph.now = in_nodes c.args.graph.now c.loop-node.marks c.loop-node.left c.loop-node.way.items c.pop.new.self.items c.in-Some.node c.loop-node.invariant.search c.in-Some.ensures.items in search rules

pub offset_bounds-left-node : goal.offset_bounds-left-node
offset_bounds-left-node c = let h : c.in-Some.node < length c.loop-node.left = in_left c.args.graph.now c.loop-node.marks c.loop-node.left c.loop-node.way.items c.pop.new.self.items c.in-Some.node c.loop-node.invariant.search c.in-Some.ensures.items in search rules

pub offset_bounds-left-node-then-edges-gt0 : goal.offset_bounds-left-node-then-edges-gt0
offset_bounds-left-node-then-edges-gt0 c = let h : c.in-Some.node < length c.loop-node.left = in_left c.args.graph.now c.loop-node.marks c.loop-node.left c.loop-node.way.items c.pop.new.self.items c.in-Some.node c.loop-node.invariant.search c.in-Some.ensures.items in search rules
