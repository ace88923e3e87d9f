use Rattle.std.proofs.Common.{arith, refl}
use Rattle.wesl_tree_syntax.specs.Tree.{at, attribute_node}
use Rattle.wesl_visit_collect.proofs.Adds.{entered, inside, passed, walked_all, walked_next, walked_none}
use Rattle.wesl_visit_collect.proofs.Seen.{seen_attributes}
use Rattle.wesl_visit_collect.proofs.collect.attribute.at_attributes.Goals as goal

pub loop-attribute-init : goal.loop-attribute-init
loop-attribute-init g c =
    walked_none

pub loop-attribute-preserved : goal.loop-attribute-preserved
loop-attribute-preserved g c =
    walked_next c.attribute-item.result (omega arith) c.attribute-item.is c.loop-attribute.invariant (inside (at attribute_node _ _) refl (λ f. refl) c.in_attribute.ensures)

pub returns-after-loop-attribute : goal.returns-after-loop-attribute
returns-after-loop-attribute g c =
    entered (seen_attributes g.T.Kind.sought c.args.attributes.now) c.if-enter.true c.enter.ensures (walked_all (omega arith) c.deref-attribute-items.ensures.value c.loop-attribute.invariant)

pub returns-else-enter : goal.returns-else-enter
returns-else-enter g c =
    passed (seen_attributes g.T.Kind.sought c.args.attributes.now) c.if-enter.false c.enter.ensures
