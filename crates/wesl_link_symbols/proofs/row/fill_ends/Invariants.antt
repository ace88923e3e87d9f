use Rattle.std.proofs.Common.{◌≡◌, ◌≤◌, length}
use Rattle.wesl_link_symbols.specs.Row.{AreRunsFrom}
use Rattle.wesl_link_symbols.proofs.row.fill_ends.Given as goal

abbrev pub invariant-imports : goal.invariant-imports
invariant-imports l = record {
  long : length l.ends ≡ length l.imports;
  within : l.i ≤ length l.imports;
  runs : AreRunsFrom l.likeness l.imports l.i l.ends;
}

abbrev pub decreases-imports : goal.decreases-imports
decreases-imports l = l.i
