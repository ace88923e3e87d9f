use Rattle.std.proofs.Common.{◌≡◌, drop}
use Rattle.wesl_cond_chains.specs.Chains.{holds}
use Rattle.wesl_cond_chains.specs.Conditions.{first_condition}
use Rattle.wesl_cond_chains.specs.Nodes.{answers, attributes_forest}
use Rattle.wesl_cond_chains.proofs.conditions.holds.Given as goal

abbrev pub invariant-loop-attribute : goal.invariant-loop-attribute
invariant-loop-attribute l = holds (answers l.names l.features) (first_condition (attributes_forest (drop l.attribute-index l.attributes))) ≡ holds (answers l.names l.features) (first_condition (attributes_forest l.attributes))
