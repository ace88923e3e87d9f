use Rattle.std.proofs.Common.{refl}
use Rattle.wesl_tree_syntax.specs.Tree.{member_node, members as members_kind}
use Rattle.wesl_tree_syntax.specs.View.{member_view, placed}
use Rattle.wesl_cond_positions.proofs.Nodes.{leaf_found}
use Rattle.wesl_cond_positions.proofs.lookup.Lookup.members.Goals as goal

pub returns : goal.returns
returns c =
    leaf_found (placed member_view member_node) (λ x. refl) members_kind (λ choice. record { entered = refl; plain = refl; list = refl; closed = refl; compound = refl }) c.args.self.now c.args.members.now.items c.args.position.now c.leaf.result c.leaf.ensures
