use Rattle.std.proofs.Common.{take}
use Rattle.wesl_scope_graph.specs.Marks.{Meets}
use Rattle.wesl_scope_graph.proofs.walk.enter_all.Given as goal

abbrev pub invariant-loop-target : goal.invariant-loop-target
invariant-loop-target l = Meets (take l.target-index l.targets.items) l.initial.marks l.marks l.initial.way.items l.way.items
