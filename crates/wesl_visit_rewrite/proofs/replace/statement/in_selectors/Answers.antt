use Rattle.std.proofs.Common.{arith}
use Rattle.wesl_tree_syntax.specs.View.{selector_view}
use Rattle.wesl_visit_rewrite.proofs.Steps.{first_all, first_none, first_step}
use Rattle.wesl_visit_rewrite.proofs.replace.statement.in_selectors.Goals as goal

pub loop-i-init : goal.loop-i-init
loop-i-init g c =
    first_none _ selector_view _ _

pub loop-i-preserved : goal.loop-i-preserved
loop-i-preserved g c =
    let xs = c.loop-i.selectors in
    let x = c.index-selectors-i.result in
    let d = c.in_selector-goes in
    first_step _ selector_view c.loop-i.i _ _ _ c.args.selectors.now xs x d.new.selector (omega arith) (omega arith) c.index-selectors-i.is c.loop-i.invariant d.ensures

pub returns : goal.returns
returns g c =
    first_all _ selector_view c.loop-i.i _ _ c.args.selectors.now c.loop-i.selectors (omega arith) (omega arith) c.loop-i.invariant
