use Rattle.std.proofs.Common.{Bool, map, take}
use Rattle.wesl_cond_chains.specs.Lists.{still}
use Rattle.wesl_cond_chains.specs.Nodes.{answers, as_element}
use Rattle.wesl_cond_chains.specs.Following.{Ends}
use Rattle.wesl_cond_chains.proofs.lists.follow.Given as goal

abbrev pub invariant-loop-node : goal.invariant-loop-node
invariant-loop-node g l = (closes : Bool) → Ends still (answers l.names l.features) l.initial.chain.kept l.initial.chain.decided (map (λ x. as_element closes (g.T.Conditional.tree x)) (take l.node-index l.node-items)) l.chain.kept l.chain.decided
