use Rattle.std.proofs.Common.{◌≡◌, drop}
use Rattle.wesl_scope_values.specs.Walks.{cleared}
use Rattle.wesl_scope_values.proofs.walking.clear.Given as goal

abbrev pub invariant-loop-node : goal.invariant-loop-node
invariant-loop-node l = cleared (drop l.node-index l.nodes) l.marks ≡ cleared l.nodes l.initial.marks
