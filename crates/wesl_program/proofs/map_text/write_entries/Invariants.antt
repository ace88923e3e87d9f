use Rattle.std.proofs.Common.{◌≡◌, ◌++◌}
use Rattle.wesl_program.proofs.Maps.{left}
use Rattle.wesl_program.proofs.map_text.write_entries.Given as goal

abbrev pub invariant-loop-entry : goal.invariant-loop-entry
invariant-loop-entry l =
    (l.out.tokens ++ left l.entry-index l.entries ≡ l.initial.out.tokens ++ left 0 l.entries) × (l.out.before ≡ l.initial.out.before)
