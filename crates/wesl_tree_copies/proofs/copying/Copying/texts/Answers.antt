use Rattle.wesl_tree_copies.proofs.Texts.{all_texts, no_texts, one_more_text}
use Rattle.wesl_tree_copies.proofs.copying.Copying.texts.Goals as goal

pub loop-text-init : goal.loop-text-init
loop-text-init c = no_texts _ _ _ _ c.list-copies.ensures.empty c.list-copies.ensures.noted

pub loop-text-preserved : goal.loop-text-preserved
loop-text-preserved c = one_more_text c.text-item.result c.text-copy.result c.loop-text-test.true c.text-item.is c.loop-text.invariant c.text-copy.ensures c.push.ensures.noted c.push.ensures.pushed

pub returns : goal.returns
returns c = all_texts c.args.texts.now c.loop-text.copies c.loop-text.invariant c.deref-text-items.ensures.value c.loop-text-test.false
