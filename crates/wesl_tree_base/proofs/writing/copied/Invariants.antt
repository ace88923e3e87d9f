use Rattle.std.proofs.Common.{◌≡◌, map, take, string_bytes}
use Rattle.wesl_tree_base.specs.Borrowed.{texts}
use Rattle.wesl_tree_base.proofs.writing.copied.Given as goal

abbrev pub invariant-loop-piece : goal.invariant-loop-piece
invariant-loop-piece l = map string_bytes l.names.items ≡ texts (take l.piece-index l.pieces)
