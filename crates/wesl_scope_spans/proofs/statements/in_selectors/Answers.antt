use Rattle.std.proofs.Common.{arith, refl}
use Rattle.wesl_tree_syntax.specs.Tree.{kind, list}
use Rattle.wesl_scope_spans.proofs.Stepped.{walked_all, walked_next, walked_none}
use Rattle.wesl_scope_spans.proofs.Steps.{inside}
use Rattle.wesl_scope_spans.proofs.statements.in_selectors.Goals as goal

pub loop-selector-init : goal.loop-selector-init
loop-selector-init c s = walked_none

pub loop-selector-preserved : goal.loop-selector-preserved
loop-selector-preserved c s = walked_next c.selector-item.result (omega arith) c.selector-item.is (c.loop-selector.invariant s) (c.in_selector.ensures s)

pub returns : goal.returns
returns c s = inside (kind list) refl (walked_all (omega arith) c.deref-selector-items.ensures.value (c.loop-selector.invariant s))
