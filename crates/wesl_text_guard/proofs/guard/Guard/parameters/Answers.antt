use Rattle.wesl_text_guard.specs.Guards.{as_it_is}
use Rattle.std.proofs.Common.{arith}
use Rattle.wesl_tree_syntax.specs.Tree.{parameters}
use Rattle.wesl_tree_syntax.specs.View.{parameter_view}
use Rattle.wesl_text_guard.proofs.Listed.{all_guarded, none_yet, nothing_asked, one_more}
use Rattle.wesl_text_guard.proofs.guard.Guard.parameters.Goals as goal

pub loop-parameter-init : goal.loop-parameter-init
loop-parameter-init c = none_yet as_it_is parameter_view _ _

pub loop-parameter-preserved : goal.loop-parameter-preserved
loop-parameter-preserved c =
    let l = c.loop-parameter in
    one_more as_it_is parameter_view c.parameter-item.result c.parameter.new.parameter (omega arith) l.invariant c.parameter.ensures

pub returns : goal.returns
returns c =
    let l = c.loop-parameter in
    let lent = c.deref_mut-parameter-items in
    all_guarded as_it_is parameter_view parameters (nothing_asked parameter_view) c.args.all.now l.invariant lent.ensures.value (omega (arith, l.auto.parameter-items, lent.ensures.len)) (omega arith)
