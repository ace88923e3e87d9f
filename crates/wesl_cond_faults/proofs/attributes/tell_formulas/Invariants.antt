use Rattle.wesl_cond_chains.specs.Nodes.{replies}
use Rattle.wesl_cond_faults.proofs.Formulas.{AreBegun}
use Rattle.wesl_cond_faults.proofs.attributes.tell_formulas.Given as goal

abbrev pub invariant-loop-attribute : goal.invariant-loop-attribute
invariant-loop-attribute l = AreBegun l.names (replies l.names l.features) l.attributes l.initial.told l.attribute-index l.told
