use Rattle.std.proofs.Common.{◌≡◌, ◌<◌, length}
use Rattle.wesl_scope_occurrences.specs.Ways.{way}
use Rattle.wesl_scope_words.specs.Finding.{look, read_outwards}
use Rattle.wesl_scope_words.proofs.rivals.Rivals.read.Given as goal

abbrev pub invariant-loop-here : goal.invariant-loop-here
invariant-loop-here l = (l.here < length l.outer) × (read_outwards (look l.self) l.word l.place (way l.outer l.block) ≡ read_outwards (look l.self) l.word l.place (way l.outer l.here))

abbrev pub decreases-loop-here : goal.decreases-loop-here
decreases-loop-here l = l.here
