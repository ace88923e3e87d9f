use Rattle.std.proofs.Common.{◌≡◌, ◌∙◌, ◌<◌, length, get_or, ap, map, arith}
use Rattle.wesl_tree_syntax.specs.View.{expression_tree}
use Rattle.wesl_validate_calls.specs.Made.{call_told, one_told}
use Rattle.wesl_validate_calls.proofs.Gathering.{more_calls}
use Rattle.wesl_validate_calls.proofs.calls.add_expressions.Goals as goal

pub loop-node-preserved : goal.loop-node-preserved
loop-node-preserved c =
    let nodes = c.args.nodes.now.items in
    let i = c.loop-node.node-index in
    let same : c.deref-node-items.result.now ≡ nodes = c.deref-node-items.ensures.value in
    let inside : i < length nodes = omega (arith, ap length same) in
    let item = c.node-item.result in
    let is : item ≡ get_or nodes i item = c.node-item.is ∙ ap (λ xs. get_or xs i item) same in
    more_calls expression_tree nodes i item
    (map call_told c.args.calls.now.items) (map call_told c.loop-node.calls.items) (map call_told c.add.new.calls.items) (one_told c.expression_call-call.result)
    inside is c.loop-node.invariant c.in_ok-add.ensures c.expression_call-call.ensures
