use Rattle.std.proofs.Common.{◌≡◌, drop}
use Rattle.wesl_tree_spelling.proofs.Pairs.{agree}
use Rattle.wesl_tree_spelling.proofs.tables.same_texts.Given as goal

abbrev pub invariant-loop-i : goal.invariant-loop-i
invariant-loop-i l = agree l.left.items l.right.items ≡ agree (drop l.i l.left.items) (drop l.i l.right.items)
