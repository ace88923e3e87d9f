use Rattle.std.proofs.Common.{get_or, refl, arith}
use Rattle.wesl_tree_syntax.specs.View.{global_view, placed}
use Rattle.wesl_tree_syntax.specs.Tree.{declaration_node}
use Rattle.wesl_visit_rewrite.proofs.Steps.{first_all, first_none, first_step, inside}
use Rattle.wesl_visit_rewrite.proofs.replace.declaration.in_declarations.Goals as goal

pub loop-i-init : goal.loop-i-init
loop-i-init g c =
    first_none _ (placed global_view declaration_node) _ _

pub loop-i-preserved : goal.loop-i-preserved
loop-i-preserved g c =
    let xs = c.loop-i.declarations in
    let x = c.index-declarations-i.result in
    let d = c.in_global-goes in
    first_step _ (placed global_view declaration_node) c.loop-i.i _ _ _ c.args.declarations.now xs x (record { node = d.new.declaration; span = (get_or xs c.loop-i.i x).span }) (omega arith) (omega arith) c.index-declarations-i.is c.loop-i.invariant (inside (((placed global_view declaration_node) (get_or xs c.loop-i.i x)).label) refl refl d.ensures)

pub returns : goal.returns
returns g c =
    first_all _ (placed global_view declaration_node) c.loop-i.i _ _ c.args.declarations.now c.loop-i.declarations (omega arith) (omega arith) c.loop-i.invariant
