use Rattle.std.proofs.Common.{◌≡◌, ℕ, ◌≤◌, ◌-◌, length}
use Rattle.std.specs.Prelude.{slice_range}
use Rattle.std.specs.Str.{IsCharBoundary}
use Rattle.wesl_text_tokens.specs.Pieces.{in_name}
use Rattle.wesl_text_tokens.specs.Reading.{read_at}
use Rattle.wesl_text_tokens.proofs.reading.name_end.Given as goal

abbrev pub invariant-loop-at : goal.invariant-loop-at
invariant-loop-at l = record {
  boundary : IsCharBoundary l.text l.at;
  order : l.fn.from ≤ l.at;
  goes : (s : ℕ) → s ≤ l.fn.from → read_at l.text (in_name s (slice_range l.text s l.fn.from)) l.fn.from ≡ read_at l.text (in_name s (slice_range l.text s l.at)) l.at;
}

abbrev pub decreases-loop-at : goal.decreases-loop-at
decreases-loop-at l = length l.text - l.at
