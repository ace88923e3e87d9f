use Rattle.std.proofs.Common.{length, ◌-◌, ◌≤◌, ◌≡◌, take}
use Rattle.std.specs.Io.KnownBytes.{Appends}
use Rattle.wesl_program.proofs.streams.write_whole.Given as goal

abbrev pub invariant-loop-done : goal.invariant-loop-done
invariant-loop-done g l =
    (l.done ≤ length l.line)
    × Appends (g.W.Write.contents l.initial.writer.inner.now) (g.W.Write.contents l.writer.inner.now) (take l.done l.line)
    × (l.writer.has_failed ≡ l.initial.writer.has_failed)
    × (l.writer.inner.ghost_name ≡ l.initial.writer.inner.ghost_name)

abbrev pub decreases-loop-done : goal.decreases-loop-done
decreases-loop-done g l = length l.line - l.done
