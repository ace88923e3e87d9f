use Rattle.std.proofs.Common.{refl}
use Rattle.wesl_tree_syntax.specs.Tree.{directive_list, directive_node}
use Rattle.wesl_tree_syntax.specs.View.{directive_view, placed}
use Rattle.wesl_cond_positions.proofs.Nodes.{leaf_found}
use Rattle.wesl_cond_positions.proofs.lookup.Lookup.directives.Goals as goal

pub returns : goal.returns
returns c =
    leaf_found (placed directive_view directive_node) (λ x. refl) directive_list (λ choice. record { entered = refl; plain = refl; list = refl; closed = refl; compound = refl }) c.args.self.now c.args.nodes.now.items c.args.position.now c.leaf.result c.leaf.ensures
