use Rattle.std.proofs.Common.{arith, refl}
use Rattle.wesl_tree_syntax.specs.Tree.{kind, parameters}
use Rattle.wesl_scope_spans.proofs.Stepped.{walked_all, walked_next, walked_none}
use Rattle.wesl_scope_spans.proofs.Steps.{inside}
use Rattle.wesl_scope_spans.proofs.declarations.in_parameters.Goals as goal

pub loop-parameter-init : goal.loop-parameter-init
loop-parameter-init c = walked_none

pub loop-parameter-preserved : goal.loop-parameter-preserved
loop-parameter-preserved c = walked_next c.parameter-item.result (omega arith) c.parameter-item.is c.loop-parameter.invariant c.in_parameter.ensures

pub returns : goal.returns
returns c = inside (kind parameters) refl (walked_all (omega arith) c.deref-parameter-items.ensures.value c.loop-parameter.invariant)
