use Rattle.std.proofs.Common.{refl, arith}
use Rattle.wesl_tree_syntax.specs.View.{attributes_tree}
use Rattle.wesl_visit_rewrite.proofs.Parts.{attributes_after}
use Rattle.wesl_visit_rewrite.proofs.Steps.{taken_if}
use Rattle.wesl_visit_rewrite.proofs.replace.attribute.at_attributes.Goals as goal

pub returns-then-takes_whole_attributes : goal.returns-then-takes_whole_attributes
returns-then-takes_whole_attributes g c =
    taken_if _ c.takes_whole_attributes.result _ _ (attributes_tree c.args.attributes.now) (attributes_tree c.finish_attributes.new.node) refl c.takes_whole_attributes.ensures c.if-takes_whole_attributes.true c.finish_attributes.ensures

pub returns-else-takes_whole_attributes : goal.returns-else-takes_whole_attributes
returns-else-takes_whole_attributes g c =
    let d = c.finish_attributes-else-takes_whole_attributes in
    let e = c.in_attributes-goes in
    attributes_after c.takes_whole_attributes.result c.args.attributes.now _ e.new.attributes (attributes_tree d.new.node) c.takes_whole_attributes.ensures c.if-takes_whole_attributes.false c.deref_mut.ensures.value (omega (arith, e.auto.attributes, c.deref_mut.ensures.len)) e.ensures d.ensures
