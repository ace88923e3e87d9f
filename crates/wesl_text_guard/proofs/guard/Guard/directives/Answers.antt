use Rattle.wesl_text_guard.specs.Guards.{as_it_is}
use Rattle.std.proofs.Common.{arith, get_or}
use Rattle.wesl_tree_syntax.specs.Tree.{directive_list, directive_node}
use Rattle.wesl_tree_syntax.specs.View.{directive_view, placed}
use Rattle.wesl_text_guard.proofs.Listed.{all_guarded, none_yet, nothing_asked, one_more}
use Rattle.wesl_text_guard.proofs.Parts.{of_place}
use Rattle.wesl_text_guard.proofs.guard.Guard.directives.Goals as goal

pub loop-directive-init : goal.loop-directive-init
loop-directive-init c = none_yet as_it_is (placed directive_view directive_node) _ _

pub loop-directive-preserved : goal.loop-directive-preserved
loop-directive-preserved c =
    let l = c.loop-directive in
    let x = get_or l.directive-items l.directive-index c.directive-item.result in
    one_more as_it_is (placed directive_view directive_node) c.directive-item.result _ (omega arith) l.invariant (of_place directive_view directive_node x c.directive.new.directive c.directive.ensures)

pub returns : goal.returns
returns c =
    let l = c.loop-directive in
    let lent = c.deref_mut-directive-items in
    all_guarded as_it_is (placed directive_view directive_node) directive_list (nothing_asked (placed directive_view directive_node)) c.args.directives.now l.invariant lent.ensures.value (omega (arith, l.auto.directive-items, lent.ensures.len)) (omega arith)
