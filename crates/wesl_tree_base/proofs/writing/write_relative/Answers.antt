use Rattle.std.proofs.Common.{arith, rules}
use Rattle.std.proofs.Output.{has_written_append, has_written_of_eq}
use Rattle.wesl_tree_base.proofs.Supers.{relative-more}
use Rattle.wesl_tree_base.proofs.writing.write_relative.Goals as goal

pub loop-done-preserved : goal.loop-done-preserved
loop-done-preserved g c =
    λ plain. has_written_of_eq _ _ _ _ _ (relative-more c.loop-done._done (omega arith)) (has_written_append _ _ _ _ _ _ (c.loop-done.invariant plain) (search rules))
