use Rattle.wesl_tree_syntax.specs.Tree.{parameters}
use Rattle.wesl_tree_syntax.specs.View.{parameter_view}
use Rattle.wesl_tree_copies.proofs.Listed.{all_copied, none_yet, one_more}
use Rattle.wesl_tree_copies.proofs.copying.Copying.parameters.Goals as goal

pub loop-parameter-init : goal.loop-parameter-init
loop-parameter-init c = none_yet parameter_view parameter_view _ _ _ _ c.list-copies.ensures.empty c.list-copies.ensures.noted

pub loop-parameter-preserved : goal.loop-parameter-preserved
loop-parameter-preserved c =
    one_more parameter_view parameter_view c.loop-parameter-test.true c.parameter-item.is c.loop-parameter.invariant c.parameter-copy.ensures c.push.ensures.noted c.push.ensures.pushed

pub returns : goal.returns
returns c = all_copied parameter_view parameter_view parameters c.args.all.now c.loop-parameter.copies c.loop-parameter.invariant c.deref-parameter-items.ensures.value c.loop-parameter-test.false
