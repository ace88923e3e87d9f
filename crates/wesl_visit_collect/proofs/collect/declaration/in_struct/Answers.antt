use Rattle.std.proofs.Common.{arith, refl}
use Rattle.wesl_tree_syntax.specs.Tree.{at, kind, member_node, members, struct}
use Rattle.wesl_visit_collect.proofs.Adds.{beside, beyond, inside, walked_all, walked_next, walked_none}
use Rattle.wesl_visit_collect.proofs.collect.declaration.in_struct.Goals as goal

pub loop-member-init : goal.loop-member-init
loop-member-init g c =
    walked_none

pub loop-member-preserved : goal.loop-member-preserved
loop-member-preserved g c =
    walked_next c.member-item.result (omega arith) c.member-item.is c.loop-member.invariant (inside (at member_node _ _) refl (λ f. refl) c.in_member.ensures)

pub returns : goal.returns
returns g c =
    inside (kind struct) refl (λ f. refl) (beside c.at_attributes.ensures (beyond refl (inside (kind members) refl (λ f. refl) (walked_all (omega arith) c.deref-member-items.ensures.value c.loop-member.invariant))))
