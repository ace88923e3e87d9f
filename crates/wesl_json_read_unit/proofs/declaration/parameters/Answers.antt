use Rattle.std.proofs.Common.{refl, sym, ◌∙◌}
use Rattle.wesl_json_form.specs.Schema.{a_parameter}
use Rattle.wesl_tree_syntax.specs.Tree.{parameters}
use Rattle.wesl_tree_syntax.specs.View.{parameter_view}
use Rattle.wesl_json_read.proofs.Noting.{all_items, is_clear, no_items, no_list, one_item, stopped}
use Rattle.wesl_json_read_unit.proofs.declaration.parameters.Goals as goal
use Rattle.wesl_json_read_unit.proofs.declaration.parameters.Goals.{else-not-is_stopped, then-not-is_stopped}

pub loop-index-init : goal.loop-index-init
loop-index-init c = no_items parameter_view parameters a_parameter c.in-Some.ensures.same c.room-parameters.ensures.empty c.room-parameters.ensures.noted

pub loop-index-preserved : goal.loop-index-preserved
loop-index-preserved c =
    elim c.if-not-is_stopped.branch [
      | then-not-is_stopped w ↦ rw (w.reader-is, w.parameters-is) (one_item parameter_view parameters a_parameter c.loop-index-test.true c.index-items-index.is c.loop-index.invariant (is_clear _ (sym c.is_stopped.ensures ∙ w.if-not-is_stopped.true)) w.parameter-parameter.ensures w.put.ensures.put w.put.ensures.noted)
      | else-not-is_stopped w ↦ rw (w.reader-is, w.parameters-is) (stopped parameter_view parameters a_parameter (sym c.is_stopped.ensures ∙ w.if-not-is_stopped.false) c.loop-index.invariant)
    ]

pub returns : goal.returns
returns c = all_items parameter_view parameters a_parameter refl c.in-Some.ensures.there c.loop-index-test.false c.loop-index.invariant c.within.ensures

pub returns-in_default : goal.returns-in_default
returns-in_default c = no_list parameter_view parameters a_parameter c.new.ensures.items c.in_default.ensures.lacks
