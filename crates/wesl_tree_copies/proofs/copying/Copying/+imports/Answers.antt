use Rattle.wesl_tree_syntax.specs.Tree.{list}
use Rattle.wesl_tree_syntax.specs.View.{entry_view}
use Rattle.wesl_tree_copies.proofs.Listed.{all_copied, none_yet, one_more}
use Rattle.wesl_tree_copies.proofs.copying.Copying.+imports.Goals as goal

pub entries-loop-entry-init : goal.entries-loop-entry-init
entries-loop-entry-init t c = none_yet entry_view entry_view _ _ _ _ c.list-copies.ensures.empty c.list-copies.ensures.noted

pub entries-loop-entry-preserved : goal.entries-loop-entry-preserved
entries-loop-entry-preserved t c = one_more entry_view entry_view c.loop-entry-test.true c.entry-item.is c.loop-entry.invariant c.entry-copy.ensures c.push.ensures.noted c.push.ensures.pushed

pub entries-returns : goal.entries-returns
entries-returns t c = all_copied entry_view entry_view list c.args.entries.now c.loop-entry.copies c.loop-entry.invariant c.deref-entry-items.ensures.value c.loop-entry-test.false
