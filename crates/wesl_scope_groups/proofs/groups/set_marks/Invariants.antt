use Rattle.std.proofs.Common.{◌≡◌, drop}
use Rattle.wesl_scope_groups.specs.Groups.{all_set}
use Rattle.wesl_scope_groups.proofs.groups.set_marks.Given as goal

abbrev pub invariant-loop-node : goal.invariant-loop-node
invariant-loop-node l = all_set (drop l.node-index l.nodes.items) l.marks ≡ all_set l.nodes.items l.initial.marks
