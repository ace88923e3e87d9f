use Rattle.std.proofs.Common.{arith}
use Rattle.wesl_tree_syntax.specs.View.{parameter_view}
use Rattle.wesl_visit_rewrite.proofs.Steps.{first_all, first_none, first_step}
use Rattle.wesl_visit_rewrite.proofs.replace.declaration.in_parameters.Goals as goal

pub loop-i-init : goal.loop-i-init
loop-i-init g c =
    first_none _ parameter_view _ _

pub loop-i-preserved : goal.loop-i-preserved
loop-i-preserved g c =
    let xs = c.loop-i.all in
    let x = c.index-all-i.result in
    let d = c.in_parameter-goes in
    first_step _ parameter_view c.loop-i.i _ _ _ c.args.all.now xs x d.new.parameter (omega arith) (omega arith) c.index-all-i.is c.loop-i.invariant d.ensures

pub returns : goal.returns
returns g c =
    first_all _ parameter_view c.loop-i.i _ _ c.args.all.now c.loop-i.all (omega arith) (omega arith) c.loop-i.invariant
