use Rattle.std.proofs.Common.{◌≡◌, string_bytes}
use Rattle.wesl_tree_base.specs.Pieces.{joined, relative_pieces}
use Rattle.wesl_tree_base.proofs.writing.relative_text.Given as goal

abbrev pub invariant-loop-done : goal.invariant-loop-done
invariant-loop-done l = string_bytes l.text ≡ joined (relative_pieces l._done)
