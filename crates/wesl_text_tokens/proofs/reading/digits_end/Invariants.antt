use Rattle.std.proofs.Common.{◌≤◌, ◌-◌, length}
use Rattle.std.specs.Str.{IsCharBoundary}
use Rattle.wesl_text_tokens.specs.Reading.{AreDigitsTo}
use Rattle.wesl_text_tokens.proofs.reading.digits_end.Given as goal

abbrev pub invariant-loop-at : goal.invariant-loop-at
invariant-loop-at l = record {
  boundary : IsCharBoundary l.text l.at;
  order : l.fn.from ≤ l.at;
  goes : AreDigitsTo l.text l.fn.from l.fn.read l.at l.digits;
}

abbrev pub decreases-loop-at : goal.decreases-loop-at
decreases-loop-at l = length l.text - l.at
