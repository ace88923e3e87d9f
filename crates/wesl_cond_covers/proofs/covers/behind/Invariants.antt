use Rattle.std.proofs.Common.{◌≤◌, length}
use Rattle.wesl_cond_covers.proofs.covers.behind.Given as goal

abbrev pub invariant-levels : goal.invariant-levels
invariant-levels l = l.i ≤ length l.levels

abbrev pub decreases-levels : goal.decreases-levels
decreases-levels l = l.i
