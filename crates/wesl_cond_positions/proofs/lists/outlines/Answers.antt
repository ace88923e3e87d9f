use Rattle.wesl_cond_alive.proofs.Outlines.{outline_more}
use Rattle.wesl_cond_positions.proofs.lists.outlines.Goals as goal

pub loop-node-preserved : goal.loop-node-preserved
loop-node-preserved g c =
    outline_more g.T.Conditional.tree c.loop-node.found.items c.put.new.outlines.items c.of.result c.deref-node-items.result.now c.loop-node.node-index c.node-item.result _
    c.loop-node-test.true c.node-item.is c.of.ensures c.in_ok-put.ensures c.loop-node.invariant
