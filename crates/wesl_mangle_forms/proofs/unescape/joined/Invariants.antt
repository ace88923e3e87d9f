use Rattle.std.proofs.Common.{◌≡◌, ◌∷◌, take, string_bytes}
use Rattle.wesl_mangle_forms.specs.Escape.{from_pieces}
use Rattle.wesl_tree_base.specs.Borrowed.{texts}
use Rattle.wesl_mangle_forms.proofs.unescape.joined.Given as goal

abbrev pub invariant-loop-piece : goal.invariant-loop-piece
invariant-loop-piece l = string_bytes l.name ≡ from_pieces (l.first ∷ texts (take l.piece-index l.more))
