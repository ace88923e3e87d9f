use Rattle.std.proofs.Common.{◌≡◌, ◌≤◌, ◌-◌, length}
use Rattle.std.specs.Str.{IsCharBoundary}
use Rattle.wesl_text_tokens.specs.Pieces.{line_comment}
use Rattle.wesl_text_tokens.specs.Reading.{read_at}
use Rattle.wesl_text_tokens.proofs.comment.line_end.Given as goal

abbrev pub invariant-loop-at : goal.invariant-loop-at
invariant-loop-at l = record {
  boundary : IsCharBoundary l.text l.at;
  order : l.fn.from ≤ l.at;
  goes : read_at l.text line_comment l.fn.from ≡ read_at l.text line_comment l.at;
}

abbrev pub decreases-loop-at : goal.decreases-loop-at
decreases-loop-at l = length l.text - l.at
