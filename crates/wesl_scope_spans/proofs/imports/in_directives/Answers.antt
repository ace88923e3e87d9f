use Rattle.std.proofs.Common.{arith, refl}
use Rattle.wesl_tree_syntax.specs.Tree.{at, directive_list, directive_node, kind}
use Rattle.wesl_scope_spans.proofs.Stepped.{walked_all, walked_next, walked_none}
use Rattle.wesl_scope_spans.proofs.Steps.{inside}
use Rattle.wesl_scope_spans.proofs.imports.in_directives.Goals as goal

pub loop-directive-init : goal.loop-directive-init
loop-directive-init c s = walked_none

pub loop-directive-preserved : goal.loop-directive-preserved
loop-directive-preserved c s =
    let d = c.directive-item.result in
    walked_next d (omega arith) c.directive-item.is (c.loop-directive.invariant s) (inside (at directive_node _ _) refl (c.in_directive.ensures d.span))

pub returns : goal.returns
returns c s = inside (kind directive_list) refl (walked_all (omega arith) c.deref-directive-items.ensures.value (c.loop-directive.invariant s))
