use Rattle.std.proofs.Common.{◌≡◌, ◌++◌, map, take}
use Rattle.std.specs.Prelude.{flat_map}
use Rattle.wesl_visit_collect.specs.Lent.{views}
use Rattle.wesl_tree_syntax.specs.View.{expression_tree}
use Rattle.wesl_validate_rules.specs.Calls.{called_in}
use Rattle.wesl_validate_calls.specs.Made.{call_told}
use Rattle.wesl_validate_calls.proofs.calls.add_expressions.Given as goal

abbrev pub invariant-loop-node : goal.invariant-loop-node
invariant-loop-node l = map call_told l.calls.items ≡ map call_told l.initial.calls.items ++ flat_map (λ t. called_in t.children) (views expression_tree (take l.node-index l.nodes.items))
