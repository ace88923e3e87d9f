use Rattle.std.proofs.Common.{◌≡◌, map, take}
use Rattle.wesl_link_tables.specs.TextsView.{numbering_of_texts as numbering}
use Rattle.wesl_link_engine.specs.Reasons.{told_node, steps_told}
use Rattle.wesl_link_engine.proofs.steps.steps_by.Given as goal

abbrev pub invariant-loop-node : goal.invariant-loop-node
invariant-loop-node l = steps_told l.steps.items ≡ map (told_node (numbering l.link.numbers)) (take l.node-index l.nodes)
