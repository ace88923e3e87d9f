use Rattle.wesl_text_guard.specs.Guards.{as_it_is}
use Rattle.std.proofs.Common.{arith, get_or}
use Rattle.wesl_tree_syntax.specs.Tree.{declaration_node, declarations}
use Rattle.wesl_tree_syntax.specs.View.{global_view, placed}
use Rattle.wesl_text_guard.proofs.Listed.{all_guarded, none_yet, nothing_asked, one_more}
use Rattle.wesl_text_guard.proofs.Parts.{of_place}
use Rattle.wesl_text_guard.proofs.guard.Guard.globals.Goals as goal

pub loop-declaration-init : goal.loop-declaration-init
loop-declaration-init c = none_yet as_it_is (placed global_view declaration_node) _ _

pub loop-declaration-preserved : goal.loop-declaration-preserved
loop-declaration-preserved c =
    let l = c.loop-declaration in
    let x = get_or l.declaration-items l.declaration-index c.declaration-item.result in
    one_more as_it_is (placed global_view declaration_node) c.declaration-item.result _ (omega arith) l.invariant (of_place global_view declaration_node x c.global.new.declaration c.global.ensures)

pub returns : goal.returns
returns c =
    let l = c.loop-declaration in
    let lent = c.deref_mut-declaration-items in
    all_guarded as_it_is (placed global_view declaration_node) declarations (nothing_asked (placed global_view declaration_node)) c.args.declarations.now l.invariant lent.ensures.value (omega (arith, l.auto.declaration-items, lent.ensures.len)) (omega arith)
