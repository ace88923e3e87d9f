use Rattle.std.proofs.Common.{◌≡◌, drop}
use Rattle.wesl_cond_chains.specs.Faults.{conditions}
use Rattle.wesl_cond_chains.specs.Nodes.{attributes_forest}
use Rattle.wesl_cond_alive.specs.Sound.{are_clean, are_clean_after}
use Rattle.wesl_cond_alive.proofs.outline.are_clean.Given as goal

abbrev pub invariant-loop-attribute : goal.invariant-loop-attribute
invariant-loop-attribute l = are_clean (conditions (attributes_forest l.attributes)) ≡ are_clean_after l.seen (conditions (attributes_forest (drop l.attribute-index l.attributes)))
