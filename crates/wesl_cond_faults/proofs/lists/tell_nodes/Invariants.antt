use Rattle.wesl_cond_chains.specs.Nodes.{replies}
use Rattle.wesl_cond_faults.proofs.Formulas.{IsBegun}
use Rattle.wesl_cond_faults.proofs.lists.tell_nodes.Given as goal

abbrev pub invariant-loop-node : goal.invariant-loop-node
invariant-loop-node g l = IsBegun l.names (replies l.names l.features) g.T.Conditional.tree l.node-items l.initial.told l.node-index l.opened l.told
