use Rattle.std.proofs.Common.{arith, get_or, refl}
use Rattle.wesl_tree_syntax.specs.Tree.{list}
use Rattle.wesl_tree_syntax.specs.View.{entry_view}
use Rattle.wesl_tree_renumber.proofs.Listed.{all_numbered, none_yet, passed_more}
use Rattle.wesl_tree_renumber.proofs.Parts.{entry_numbered}
use Rattle.wesl_tree_renumber.proofs.renumbering.Renumbering.+imports.Goals as goal

pub entries-loop-entry-init : goal.entries-loop-entry-init
entries-loop-entry-init t c = ((refl, λ k d h. refl), none_yet entry_view _ _)

pub entries-loop-entry-preserved : goal.entries-loop-entry-preserved
entries-loop-entry-preserved t c =
    let l = c.loop-entry in
    let x = get_or l.entry-items l.entry-index c.entry-item.result in
    passed_more entry_view c.entry-item.result _ (omega arith) l.invariant (entry_numbered x c.content.new.content c.content.ensures)

pub entries-returns : goal.entries-returns
entries-returns t c =
    let l = c.loop-entry in
    let lent = c.deref_mut-entry-items in
    all_numbered entry_view list c.args.entries.now l.invariant.1 lent.ensures.value (omega (arith, l.auto.entry-items, lent.ensures.len)) (omega arith)
