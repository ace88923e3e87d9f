use Rattle.std.specs.Fmt.{HasWritten, IsPlainFormatter}
use Rattle.wesl_tree_base.specs.Pieces.{joined, relative_pieces}
use Rattle.wesl_tree_base.proofs.writing.write_relative.Given as goal

abbrev pub invariant-loop-done : goal.invariant-loop-done
invariant-loop-done g l =
    IsPlainFormatter l.fn.f → HasWritten g.W.Write.write_str_gives l.fn.f (joined (relative_pieces l._done)) l.f
