use Rattle.std.proofs.Common.{◌+◌, ◌*◌, length}
use Rattle.std.specs.Prelude.{sum}
use Rattle.wesl_scope_groups.proofs.order.finish.Given as goal

abbrev pub decreases-loop-node : goal.decreases-loop-node
decreases-loop-node l = 2 * sum l.left + length l.way.items
