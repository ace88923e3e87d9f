use Rattle.std.proofs.Common.{◌≡◌, drop}
use Rattle.wesl_cond_chains.specs.Nodes.{replies}
use Rattle.wesl_cond_chains.proofs.Begun.{formulas}
use Rattle.wesl_cond_chains.proofs.faults.check_formulas.Given as goal

abbrev pub invariant-loop-attribute : goal.invariant-loop-attribute
invariant-loop-attribute l = formulas (replies l.names l.features) l.attributes ≡ formulas (replies l.names l.features) (drop l.attribute-index l.attributes)
