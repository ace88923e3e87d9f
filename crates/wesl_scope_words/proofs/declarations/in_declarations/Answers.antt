use Rattle.std.proofs.Common.{arith, refl}
use Rattle.wesl_tree_syntax.specs.Tree.{at, declaration_node, declarations, kind}
use Rattle.wesl_scope_words.proofs.Steps.{inside, walked_all, walked_next, walked_none}
use Rattle.wesl_scope_words.proofs.declarations.in_declarations.Goals as goal

pub loop-declaration-init : goal.loop-declaration-init
loop-declaration-init c = walked_none

pub loop-declaration-preserved : goal.loop-declaration-preserved
loop-declaration-preserved c =
    walked_next c.declaration-item.result (omega arith) c.declaration-item.is c.loop-declaration.invariant (inside (at declaration_node _ _) refl c.in_global.ensures)

pub returns : goal.returns
returns c = inside (kind declarations) refl (walked_all (omega arith) c.deref-declaration-items.ensures.value c.loop-declaration.invariant)
