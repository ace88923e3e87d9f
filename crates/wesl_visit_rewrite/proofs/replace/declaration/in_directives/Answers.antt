use Rattle.std.proofs.Common.{get_or, refl, arith}
use Rattle.wesl_tree_syntax.specs.View.{directive_view, placed}
use Rattle.wesl_tree_syntax.specs.Tree.{directive_node}
use Rattle.wesl_visit_rewrite.proofs.Steps.{first_all, first_none, first_step, inside}
use Rattle.wesl_visit_rewrite.proofs.replace.declaration.in_directives.Goals as goal

pub loop-i-init : goal.loop-i-init
loop-i-init g c =
    first_none _ (placed directive_view directive_node) _ _

pub loop-i-preserved : goal.loop-i-preserved
loop-i-preserved g c =
    let xs = c.loop-i.directives in
    let x = c.index-directives-i.result in
    let d = c.in_directive-goes in
    first_step _ (placed directive_view directive_node) c.loop-i.i _ _ _ c.args.directives.now xs x (record { node = d.new.directive; span = (get_or xs c.loop-i.i x).span }) (omega arith) (omega arith) c.index-directives-i.is c.loop-i.invariant (inside (((placed directive_view directive_node) (get_or xs c.loop-i.i x)).label) refl refl d.ensures)

pub returns : goal.returns
returns g c =
    first_all _ (placed directive_view directive_node) c.loop-i.i _ _ c.args.directives.now c.loop-i.directives (omega arith) (omega arith) c.loop-i.invariant
