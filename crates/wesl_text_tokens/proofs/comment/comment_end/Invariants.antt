use Rattle.std.proofs.Common.{◌≡◌, ◌+◌, ◌≤◌, ◌<◌, ◌-◌, length}
use Rattle.std.specs.Str.{IsCharBoundary}
use Rattle.wesl_text_tokens.specs.declared.comment.Half.TheVariants as half
use Rattle.wesl_text_tokens.specs.Pieces.{block_comment}
use Rattle.wesl_text_tokens.specs.Reading.{read_at}
use Rattle.wesl_text_tokens.proofs.comment.comment_end.Given as goal

abbrev pub invariant-loop-at : goal.invariant-loop-at
invariant-loop-at l = record {
  boundary : IsCharBoundary l.text l.at;
  order : l.fn.from ≤ l.at;
  some : 0 < l.depth;
  fits : l.depth ≤ l.at + 1;
  goes : read_at l.text (block_comment l.fn.start 1 half.Neither) l.fn.from ≡ read_at l.text (block_comment l.fn.start l.depth l.half) l.at;
}

abbrev pub decreases-loop-at : goal.decreases-loop-at
decreases-loop-at l = length l.text - l.at
