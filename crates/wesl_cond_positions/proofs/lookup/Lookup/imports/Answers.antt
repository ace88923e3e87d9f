use Rattle.std.proofs.Common.{refl}
use Rattle.wesl_tree_syntax.specs.Tree.{import_node, imports as imports_kind}
use Rattle.wesl_tree_syntax.specs.View.{import_view, placed}
use Rattle.wesl_cond_positions.proofs.Nodes.{leaf_found}
use Rattle.wesl_cond_positions.proofs.lookup.Lookup.imports.Goals as goal

pub returns : goal.returns
returns c =
    leaf_found (placed import_view import_node) (λ x. refl) imports_kind (λ choice. record { entered = refl; plain = refl; list = refl; closed = refl; compound = refl }) c.args.self.now c.args.nodes.now.items c.args.position.now c.leaf.result c.leaf.ensures
