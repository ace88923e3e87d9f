use Rattle.std.proofs.Common.{arith, refl}
use Rattle.wesl_tree_syntax.specs.Tree.{at, declaration_node, declarations, kind}
use Rattle.wesl_scope_spans.proofs.Stepped.{walked_all, walked_next, walked_none}
use Rattle.wesl_scope_spans.proofs.Steps.{inside}
use Rattle.wesl_scope_spans.proofs.declarations.in_declarations.Goals as goal

pub loop-declaration-init : goal.loop-declaration-init
loop-declaration-init c s = walked_none

pub loop-declaration-preserved : goal.loop-declaration-preserved
loop-declaration-preserved c s =
    walked_next c.declaration-item.result (omega arith) c.declaration-item.is (c.loop-declaration.invariant s) (inside (at declaration_node _ _) refl c.in_global.ensures)

pub returns : goal.returns
returns c s = inside (kind declarations) refl (walked_all (omega arith) c.deref-declaration-items.ensures.value (c.loop-declaration.invariant s))
