use Rattle.std.proofs.Common.{◌≡◌, ◌≤◌, drop}
use Rattle.wesl_text_tokens.specs.Brackets.{brackets, known_from}
use Rattle.wesl_text_tokens.specs.Pieces.{bits_of}
use Rattle.wesl_text_tokens.specs.Views.{known_of, pieces_of}
use Rattle.wesl_text_tokens.proofs.lists.lists_of.Given as goal

abbrev pub invariant-loop-index : goal.invariant-loop-index
invariant-loop-index l = record {
  depth : l.lists.depth ≤ l.index;
  goes : known_from l.index (known_of l.lists) (drop l.index (bits_of (pieces_of l.pieces))) ≡ brackets (bits_of (pieces_of l.pieces));
}
