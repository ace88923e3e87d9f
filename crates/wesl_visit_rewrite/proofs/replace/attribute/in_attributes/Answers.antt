use Rattle.std.proofs.Common.{get_or, refl, arith}
use Rattle.wesl_tree_syntax.specs.View.{attribute_view, placed}
use Rattle.wesl_tree_syntax.specs.Tree.{attribute_node}
use Rattle.wesl_visit_rewrite.proofs.Steps.{first_all, first_none, first_step, inside}
use Rattle.wesl_visit_rewrite.proofs.replace.attribute.in_attributes.Goals as goal

pub loop-i-init : goal.loop-i-init
loop-i-init g c =
    first_none _ (placed attribute_view attribute_node) _ _

pub loop-i-preserved : goal.loop-i-preserved
loop-i-preserved g c =
    let xs = c.loop-i.attributes in
    let x = c.index-attributes-i.result in
    let d = c.in_attribute-goes in
    first_step _ (placed attribute_view attribute_node) c.loop-i.i _ _ _ c.args.attributes.now xs x (record { node = d.new.attribute; span = (get_or xs c.loop-i.i x).span }) (omega arith) (omega arith) c.index-attributes-i.is c.loop-i.invariant (inside (((placed attribute_view attribute_node) (get_or xs c.loop-i.i x)).label) refl refl d.ensures)

pub returns : goal.returns
returns g c =
    first_all _ (placed attribute_view attribute_node) c.loop-i.i _ _ c.args.attributes.now c.loop-i.attributes (omega arith) (omega arith) c.loop-i.invariant
