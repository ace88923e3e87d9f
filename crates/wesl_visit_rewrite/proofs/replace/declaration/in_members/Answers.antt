use Rattle.std.proofs.Common.{get_or, refl, arith}
use Rattle.wesl_tree_syntax.specs.View.{member_view, placed}
use Rattle.wesl_tree_syntax.specs.Tree.{member_node}
use Rattle.wesl_visit_rewrite.proofs.Steps.{first_all, first_none, first_step, inside}
use Rattle.wesl_visit_rewrite.proofs.replace.declaration.in_members.Goals as goal

pub loop-i-init : goal.loop-i-init
loop-i-init g c =
    first_none _ (placed member_view member_node) _ _

pub loop-i-preserved : goal.loop-i-preserved
loop-i-preserved g c =
    let xs = c.loop-i.all in
    let x = c.index-all-i.result in
    let d = c.in_member-goes in
    first_step _ (placed member_view member_node) c.loop-i.i _ _ _ c.args.all.now xs x (record { node = d.new.member; span = (get_or xs c.loop-i.i x).span }) (omega arith) (omega arith) c.index-all-i.is c.loop-i.invariant (inside (((placed member_view member_node) (get_or xs c.loop-i.i x)).label) refl refl d.ensures)

pub returns : goal.returns
returns g c =
    first_all _ (placed member_view member_node) c.loop-i.i _ _ c.args.all.now c.loop-i.all (omega arith) (omega arith) c.loop-i.invariant
