use Rattle.wesl_cond_chains.specs.Nodes.{replies}
use Rattle.wesl_tree_syntax.specs.Tree.{declaration_node}
use Rattle.wesl_tree_syntax.specs.View.{global_view, placed}
use Rattle.wesl_cond_faults.proofs.Walking.{IsLeft}
use Rattle.wesl_cond_faults.proofs.declarations.tell_in_declarations.Given as goal

abbrev pub invariant-loop-node : goal.invariant-loop-node
invariant-loop-node l = IsLeft l.names (replies l.names l.features) (placed global_view declaration_node) l.node-items l.initial.told l.node-index l.chain.kept l.chain.decided l.told
