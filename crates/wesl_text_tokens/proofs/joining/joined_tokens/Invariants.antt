use Rattle.std.proofs.Common.{◌≡◌}
use Rattle.wesl_text_tokens.specs.Joining.{IsHeldBefore}
use Rattle.wesl_text_tokens.specs.Pieces.{bits_of}
use Rattle.wesl_text_tokens.specs.Tokens.{made_of, placed_from}
use Rattle.wesl_text_tokens.specs.Views.{all_placed_of, known_of, pieces_of}
use Rattle.wesl_text_tokens.proofs.Joins.{placed_behind}
use Rattle.wesl_text_tokens.proofs.joining.joined_tokens.Given as goal

abbrev pub invariant-loop-index : goal.invariant-loop-index
invariant-loop-index l = record {
  held : IsHeldBefore l.index l.held;
  goes : placed_behind (all_placed_of l.tokens.items) l.index (known_of l.lists) l.held (pieces_of l.pieces) ≡ placed_from (made_of (bits_of (pieces_of l.pieces))) (pieces_of l.pieces);
}
