use Rattle.std.proofs.Common.{refl, sym, ◌∙◌}
use Rattle.wesl_json_form.specs.Schema.{an_attribute}
use Rattle.wesl_tree_syntax.specs.Tree.{attributes}
use Rattle.wesl_json_read.specs.Gives.{placed_attribute}
use Rattle.wesl_json_read.proofs.Noting.{all_items, is_clear, no_items, no_list, one_item, stopped}
use Rattle.wesl_json_read.proofs.reader.Reader.attributes.Goals as goal
use Rattle.wesl_json_read.proofs.reader.Reader.attributes.Goals.{else-not-is_stopped, then-not-is_stopped}

pub loop-index-init : goal.loop-index-init
loop-index-init c = no_items placed_attribute attributes an_attribute c.in-Some.ensures.same c.room-attributes.ensures.empty c.room-attributes.ensures.noted

pub loop-index-preserved : goal.loop-index-preserved
loop-index-preserved c =
    elim c.if-not-is_stopped.branch [
      | then-not-is_stopped w ↦ rw (w.self-is, w.attributes-is) (one_item placed_attribute attributes an_attribute c.loop-index-test.true c.index-items-index.is c.loop-index.invariant (is_clear _ (sym c.is_stopped.ensures ∙ w.if-not-is_stopped.true)) w.attribute-attribute.ensures w.put.ensures.put w.put.ensures.noted)
      | else-not-is_stopped w ↦ rw (w.self-is, w.attributes-is) (stopped placed_attribute attributes an_attribute (sym c.is_stopped.ensures ∙ w.if-not-is_stopped.false) c.loop-index.invariant)
    ]

pub returns : goal.returns
returns c = all_items placed_attribute attributes an_attribute refl c.in-Some.ensures.there c.loop-index-test.false c.loop-index.invariant c.within.ensures

pub returns-in_default : goal.returns-in_default
returns-in_default c = no_list placed_attribute attributes an_attribute c.new.ensures.items c.in_default.ensures.lacks
