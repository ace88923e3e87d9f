use Rattle.std.proofs.Common.{take}
use Rattle.wesl_scope_values.specs.Walks.{SetsFirst}
use Rattle.wesl_scope_values.proofs.handing.set_all_first.Given as goal

abbrev pub invariant-loop-node : goal.invariant-loop-node
invariant-loop-node l = SetsFirst (take l.node-index l.nodes.items) l.value l.initial.values.items l.values.items
