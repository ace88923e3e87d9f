use Rattle.wesl_link_symbols.specs.Index.{Chains}
use Rattle.wesl_explain_faults.specs.Gathering.{wrong_in}
use Rattle.wesl_explain_faults.proofs.faults.tie.Given as goal

abbrev pub invariant-loop-index : goal.invariant-loop-index
invariant-loop-index l = Chains wrong_in l.told l.index l.latest.entries l.earlier.items
