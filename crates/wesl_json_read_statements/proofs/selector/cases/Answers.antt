use Rattle.std.proofs.Common.{refl, sym, ◌∙◌}
use Rattle.wesl_json_form.specs.Schema.{a_case}
use Rattle.wesl_tree_syntax.specs.Tree.{list}
use Rattle.wesl_tree_syntax.specs.View.{selector_view}
use Rattle.wesl_json_read.proofs.Noting.{all_items, is_clear, no_items, no_list, one_item, stopped}
use Rattle.wesl_json_read_statements.proofs.selector.cases.Goals as goal
use Rattle.wesl_json_read_statements.proofs.selector.cases.Goals.{else-not-is_stopped, then-not-is_stopped}

pub loop-index-init : goal.loop-index-init
loop-index-init c = no_items selector_view list a_case c.in-Some.ensures.same c.room-cases.ensures.empty c.room-cases.ensures.noted

pub loop-index-preserved : goal.loop-index-preserved
loop-index-preserved c =
    elim c.if-not-is_stopped.branch [
      | then-not-is_stopped w ↦ rw (w.reader-is, w.cases-is) (one_item selector_view list a_case c.loop-index-test.true c.index-items-index.is c.loop-index.invariant (is_clear _ (sym c.is_stopped.ensures ∙ w.if-not-is_stopped.true)) w.case-case.ensures w.put.ensures.put w.put.ensures.noted)
      | else-not-is_stopped w ↦ rw (w.reader-is, w.cases-is) (stopped selector_view list a_case (sym c.is_stopped.ensures ∙ w.if-not-is_stopped.false) c.loop-index.invariant)
    ]

pub returns : goal.returns
returns c = all_items selector_view list a_case refl c.in-Some.ensures.there c.loop-index-test.false c.loop-index.invariant c.within.ensures

pub returns-in_default : goal.returns-in_default
returns-in_default c = no_list selector_view list a_case c.new.ensures.items c.in_default.ensures.lacks
