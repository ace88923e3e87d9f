use Rattle.wesl_cond_chains.specs.Nodes.{replies}
use Rattle.wesl_cond_chains.proofs.Begun.{IsBegun}
use Rattle.wesl_cond_chains.proofs.faults.check_nodes.Given as goal

abbrev pub invariant-loop-node : goal.invariant-loop-node
invariant-loop-node g l = IsBegun (replies l.names l.features) g.T.Conditional.tree l.names l.node-items l.node-index l.opened
