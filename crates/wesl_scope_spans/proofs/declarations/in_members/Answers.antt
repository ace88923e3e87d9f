use Rattle.std.proofs.Common.{arith, refl}
use Rattle.wesl_tree_syntax.specs.Tree.{at, kind, member_node, members}
use Rattle.wesl_scope_spans.proofs.Stepped.{walked_all, walked_next, walked_none}
use Rattle.wesl_scope_spans.proofs.Steps.{inside}
use Rattle.wesl_scope_spans.proofs.declarations.in_members.Goals as goal

pub loop-member-init : goal.loop-member-init
loop-member-init c s = walked_none

pub loop-member-preserved : goal.loop-member-preserved
loop-member-preserved c s = walked_next c.member-item.result (omega arith) c.member-item.is (c.loop-member.invariant s) (inside (at member_node _ _) refl c.in_member.ensures)

pub returns : goal.returns
returns c s = inside (kind members) refl (walked_all (omega arith) c.deref-member-items.ensures.value (c.loop-member.invariant s))
