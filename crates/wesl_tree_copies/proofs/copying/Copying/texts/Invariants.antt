use Rattle.wesl_tree_copies.proofs.Texts.{TextsSoFar}
use Rattle.wesl_tree_copies.proofs.copying.Copying.texts.Given as goal

abbrev pub invariant-loop-text : goal.invariant-loop-text
invariant-loop-text l = TextsSoFar l.fn.self l.self l.text-items l.text-index l.copies.items
