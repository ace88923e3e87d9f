use Rattle.std.proofs.Common.{arith, sym, ◌∙◌}
use Rattle.wesl_cond_chains.specs.Nodes.{answers, attribute_tree, marked_tree}
use Rattle.wesl_cond_chains.proofs.Fronts.{front_is_all, map_in_turn}
use Rattle.wesl_cond_chains.proofs.conditions.mark_all.Goals as goal

pub returns : goal.returns
returns c =
    sym (front_is_all attribute_tree (λ a. marked_tree (answers c.args.names.now c.args.features.now) c.args.role (attribute_tree a)) c.loop-attribute.attributes c.loop-attribute.attribute-index (omega arith))
    ∙ c.loop-attribute.invariant
    ∙ map_in_turn attribute_tree (marked_tree (answers c.args.names.now c.args.features.now) c.args.role) c.args.attributes.now
