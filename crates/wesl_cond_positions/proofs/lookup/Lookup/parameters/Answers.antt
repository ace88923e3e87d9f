use Rattle.std.proofs.Common.{refl}
use Rattle.wesl_tree_syntax.specs.Tree.{parameters as parameters_kind}
use Rattle.wesl_tree_syntax.specs.View.{parameter_view}
use Rattle.wesl_cond_positions.proofs.Nodes.{leaf_found}
use Rattle.wesl_cond_positions.proofs.lookup.Lookup.parameters.Goals as goal

pub returns : goal.returns
returns c =
    leaf_found parameter_view (λ x. refl) parameters_kind (λ choice. record { entered = refl; plain = refl; list = refl; closed = refl; compound = refl }) c.args.self.now c.args.parameters.now.items c.args.position.now c.leaf.result c.leaf.ensures
