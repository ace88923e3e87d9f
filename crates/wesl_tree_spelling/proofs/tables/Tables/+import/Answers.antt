use Rattle.std.proofs.Common.{arith, refl, sym, ◌∙◌}
use Rattle.wesl_tree_syntax.specs.Tree.{import_entry}
use Rattle.wesl_tree_syntax.specs.View.{entry_view}
use Rattle.wesl_tree_spelling.proofs.Chains.{last, of_kind, seen, stop, then}
use Rattle.wesl_tree_spelling.proofs.Pairs.{all_agree, other_lengths, pair_agrees, pair_differs}
use Rattle.wesl_tree_spelling.proofs.tables.Tables.+import.Goals as goal
use Rattle.wesl_tree_syntax.proofs.Views.{view_entry}
use mathlib.Core.Bool.{and-true}

pub same_entries-returns-then-len : goal.same_entries-returns-then-len
same_entries-returns-then-len t c = other_lengths entry_view c.args.self.now c.args.left.now c.args.right.now c.len.ensures c.len-2.ensures c.if-len.true

pub same_entries-loop-i-init : goal.same_entries-loop-i-init
same_entries-loop-i-init t c = record { rest = refl }

pub same_entries-index-requires : goal.same_entries-index-requires
same_entries-index-requires t c = omega (arith, c.loop-i-test.true, c.len-i-end.ensures)

pub same_entries-index-requires-in-loop-i : goal.same_entries-index-requires-in-loop-i
same_entries-index-requires-in-loop-i t c = omega (arith, c.loop-i-test.true, c.len-i-end.ensures, c.len.ensures, c.len-2.ensures, c.if-len.false)

pub same_entries-loop-i-preserved : goal.same_entries-loop-i-preserved
same_entries-loop-i-preserved t c =
    pair_agrees entry_view c.args.self.now c.index.result.now c.index-in-loop-i.result.now c.len.ensures c.len-2.ensures c.if-len.false c.len-i-end.ensures c.loop-i-test.true c.index.ensures c.index-in-loop-i.ensures
    c.same_entry.ensures c.if-not-same_entry.false c.loop-i.invariant

pub same_entries-returns-then-not-same_entry : goal.same_entries-returns-then-not-same_entry
same_entries-returns-then-not-same_entry t c =
    pair_differs entry_view c.args.self.now c.index.result.now c.index-in-loop-i.result.now c.len.ensures c.len-2.ensures c.if-len.false c.len-i-end.ensures c.loop-i-test.true c.index.ensures c.index-in-loop-i.ensures
    c.same_entry.ensures c.if-not-same_entry.true c.loop-i.invariant

pub same_entries-returns : goal.same_entries-returns
same_entries-returns t c = all_agree entry_view c.args.self.now c.len.ensures c.len-2.ensures c.if-len.false c.len-i-end.ensures c.loop-i-test.false c.loop-i.invariant

pub same_entry-returns-then-same_texts : goal.same_entry-returns-then-same_texts
same_entry-returns-then-same_texts t c = seen c.args.self.now (view_entry c.args.left.now) (view_entry c.args.right.now) (of_kind import_entry refl (then (c.same_texts.ensures ∙ sym (and-true _)) c.if-same_texts.true (last c.same_content.ensures)))

pub same_entry-returns-else-same_texts : goal.same_entry-returns-else-same_texts
same_entry-returns-else-same_texts t c = seen c.args.self.now (view_entry c.args.left.now) (view_entry c.args.right.now) (of_kind import_entry refl (stop (c.same_texts.ensures ∙ sym (and-true _)) c.if-same_texts.false))
