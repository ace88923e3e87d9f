use Rattle.std.proofs.Common.{◌∙◌}
use Rattle.wesl_cond_alive.proofs.Outlines.{outline_more}
use Rattle.wesl_cond_alive.proofs.walk.Walk.outline.Goals as goal

pub loop-node-preserved : goal.loop-node-preserved
loop-node-preserved g c = record {
  noted = λ k. c.loop-node.invariant.noted (c.put.ensures.same.noted k);
  same = λ k. c.put.ensures.same.found k ∙ c.loop-node.invariant.same (c.put.ensures.same.noted k);
  put = λ k. outline_more g.T.Conditional.tree c.loop-node.outlines.items c.put.new.outlines.items c.of.result c.deref-node-items.result.now c.loop-node.node-index c.node-item.result _ c.loop-node-test.true c.node-item.is c.of.ensures (c.put.ensures.put k) (c.loop-node.invariant.put (c.put.ensures.same.noted k));
}
