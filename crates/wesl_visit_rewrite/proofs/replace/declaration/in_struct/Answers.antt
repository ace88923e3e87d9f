use Rattle.std.proofs.Common.{refl, arith}
use Rattle.wesl_tree_syntax.specs.Tree.{struct, kind, member_node, members}
use Rattle.wesl_tree_syntax.specs.View.{member_view, placed}
use Rattle.wesl_visit_rewrite.proofs.Steps.{beside, inside, unmoved, went_list}
use Rattle.wesl_visit_rewrite.proofs.replace.declaration.in_struct.Goals as goal

pub returns : goal.returns
returns g c =
    let d = c.in_members in
    inside (kind struct) refl refl (beside c.at_attributes-goes.ensures (beside (unmoved _ refl) (went_list (placed member_view member_node) members c.args.structure.now.members _ d.new.all refl refl c.deref_mut.ensures.value (omega (arith, d.auto.all, c.deref_mut.ensures.len)) d.ensures)))
