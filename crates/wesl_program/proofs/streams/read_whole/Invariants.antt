use Rattle.std.proofs.Common.{◌≡◌}
use Rattle.std.specs.Io.KnownBytes.{Consumes}
use Rattle.wesl_program.proofs.streams.read_whole.Given as goal

abbrev pub invariant-loop : goal.invariant-loop
invariant-loop g l =
    Consumes (g.R.Read.remaining l.initial.reader.inner.now) (g.R.Read.remaining l.reader.inner.now) l.bytes.items
    × (l.reader.has_failed ≡ l.initial.reader.has_failed)
    × (l.reader.inner.ghost_name ≡ l.initial.reader.inner.ghost_name)
