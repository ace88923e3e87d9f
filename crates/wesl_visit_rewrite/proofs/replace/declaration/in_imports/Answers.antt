use Rattle.std.proofs.Common.{get_or, refl, arith}
use Rattle.wesl_tree_syntax.specs.View.{import_view, placed}
use Rattle.wesl_tree_syntax.specs.Tree.{import_node}
use Rattle.wesl_visit_rewrite.proofs.Steps.{first_all, first_none, first_step, inside}
use Rattle.wesl_visit_rewrite.proofs.replace.declaration.in_imports.Goals as goal

pub loop-i-init : goal.loop-i-init
loop-i-init g c =
    first_none _ (placed import_view import_node) _ _

pub loop-i-preserved : goal.loop-i-preserved
loop-i-preserved g c =
    let xs = c.loop-i.imports in
    let x = c.index-imports-i.result in
    let d = c.in_import-goes in
    first_step _ (placed import_view import_node) c.loop-i.i _ _ _ c.args.imports.now xs x (record { node = d.new.import; span = (get_or xs c.loop-i.i x).span }) (omega arith) (omega arith) c.index-imports-i.is c.loop-i.invariant (inside (((placed import_view import_node) (get_or xs c.loop-i.i x)).label) refl refl d.ensures)

pub returns : goal.returns
returns g c =
    first_all _ (placed import_view import_node) c.loop-i.i _ _ c.args.imports.now c.loop-i.imports (omega arith) (omega arith) c.loop-i.invariant
