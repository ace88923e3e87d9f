use Rattle.std.proofs.Common.{arith, refl}
use Rattle.wesl_tree_syntax.specs.Tree.{at, declaration_node, declarations, kind}
use Rattle.wesl_visit_collect.proofs.Adds.{inside, walked_all, walked_next, walked_none}
use Rattle.wesl_visit_collect.proofs.collect.declaration.in_declarations.Goals as goal

pub loop-declaration-init : goal.loop-declaration-init
loop-declaration-init g c =
    walked_none

pub loop-declaration-preserved : goal.loop-declaration-preserved
loop-declaration-preserved g c =
    walked_next c.declaration-item.result (omega arith) c.declaration-item.is c.loop-declaration.invariant (inside (at declaration_node _ _) refl (λ f. refl) c.in_global.ensures)

pub returns : goal.returns
returns g c =
    inside (kind declarations) refl (λ f. refl) (walked_all (omega arith) c.deref-declaration-items.ensures.value c.loop-declaration.invariant)
