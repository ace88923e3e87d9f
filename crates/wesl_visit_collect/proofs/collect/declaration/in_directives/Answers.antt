use Rattle.std.proofs.Common.{arith, refl}
use Rattle.wesl_tree_syntax.specs.Tree.{at, directive_list, directive_node, kind}
use Rattle.wesl_visit_collect.proofs.Adds.{inside, walked_all, walked_next, walked_none}
use Rattle.wesl_visit_collect.proofs.collect.declaration.in_directives.Goals as goal

pub loop-directive-init : goal.loop-directive-init
loop-directive-init g c =
    walked_none

pub loop-directive-preserved : goal.loop-directive-preserved
loop-directive-preserved g c =
    walked_next c.directive-item.result (omega arith) c.directive-item.is c.loop-directive.invariant (inside (at directive_node _ _) refl (λ f. refl) c.in_directive.ensures)

pub returns : goal.returns
returns g c =
    inside (kind directive_list) refl (λ f. refl) (walked_all (omega arith) c.deref-directive-items.ensures.value c.loop-directive.invariant)
