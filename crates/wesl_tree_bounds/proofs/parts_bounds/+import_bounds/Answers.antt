use Rattle.std.proofs.Common.{refl, sym, ◌∙◌}
use Rattle.wesl_tree_syntax.specs.View.{entry_view}
use Rattle.wesl_tree_bounds.proofs.Below.{end_below, next_below, not_below}
use Rattle.wesl_tree_bounds.proofs.Views.{entry_below}
use Rattle.wesl_tree_bounds.proofs.parts_bounds.+import_bounds.Goals as goal

pub entries_are_below-loop-entry-init : goal.entries_are_below-loop-entry-init
entries_are_below-loop-entry-init t c = refl

pub entries_are_below-loop-entry-preserved : goal.entries_are_below-loop-entry-preserved
entries_are_below-loop-entry-preserved t c =
    next_below entry_view c.args.bound c.deref-entry-items.result.now c.loop-entry.entry-index c.entry-item.result c.loop-entry-test.true c.entry-item.is (entry_below c.args.bound c.entry-item.result ∙ sym c.content_is_below.ensures ∙ c.if-not-content_is_below.false) c.loop-entry.invariant

pub entries_are_below-returns-then-not-content_is_below : goal.entries_are_below-returns-then-not-content_is_below
entries_are_below-returns-then-not-content_is_below t c =
    not_below entry_view c.args.bound c.deref-entry-items.result.now c.args.entries.now.items c.loop-entry.entry-index c.entry-item.result c.loop-entry-test.true c.entry-item.is c.deref-entry-items.ensures.value (entry_below c.args.bound c.entry-item.result ∙ sym c.content_is_below.ensures ∙ c.if-not-content_is_below.true) c.loop-entry.invariant

pub entries_are_below-returns : goal.entries_are_below-returns
entries_are_below-returns t c =
    end_below entry_view c.args.bound c.deref-entry-items.result.now c.args.entries.now.items c.loop-entry.entry-index c.loop-entry-test.false c.deref-entry-items.ensures.value c.loop-entry.invariant
