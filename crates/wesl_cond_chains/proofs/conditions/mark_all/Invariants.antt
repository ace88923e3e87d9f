use Rattle.std.proofs.Common.{◌≡◌, ◌++◌, map, take, drop}
use Rattle.wesl_cond_chains.specs.Nodes.{answers, attribute_tree, marked_tree}
use Rattle.wesl_cond_chains.proofs.conditions.mark_all.Given as goal

abbrev pub invariant-loop-attribute : goal.invariant-loop-attribute
invariant-loop-attribute l =
    map attribute_tree (take l.attribute-index l.attributes) ++ map (λ a. marked_tree (answers l.names l.features) l.role (attribute_tree a)) (drop l.attribute-index l.attributes) ≡ map (λ a. marked_tree (answers l.names l.features) l.role (attribute_tree a)) l.initial.attributes
