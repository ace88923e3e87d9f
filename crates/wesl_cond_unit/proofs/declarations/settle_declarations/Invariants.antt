use Rattle.std.proofs.Common.{◌≡◌, ◌++◌, map, take, drop}
use Rattle.wesl_cond_chains.specs.Nodes.{answers}
use Rattle.wesl_cond_chains.specs.Residual.{residual_tree}
use Rattle.wesl_tree_syntax.specs.Tree.{declaration_node}
use Rattle.wesl_tree_syntax.specs.View.{global_view, placed}
use Rattle.wesl_cond_unit.proofs.declarations.settle_declarations.Given as goal

abbrev pub invariant-loop-node : goal.invariant-loop-node
invariant-loop-node l =
    map (placed global_view declaration_node) (take l.node-index l.node-items) ++ map (λ x. residual_tree (answers l.names l.features) (placed global_view declaration_node x)) (drop l.node-index l.node-items) ≡ map (λ x. residual_tree (answers l.names l.features) (placed global_view declaration_node x)) l.initial.node-items
