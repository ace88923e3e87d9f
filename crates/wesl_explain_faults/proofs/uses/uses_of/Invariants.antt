use Rattle.std.proofs.Common.{◌≡◌, map, take}
use Rattle.wesl_explain_faults.specs.Told.{asker_in}
use Rattle.wesl_explain_faults.proofs.uses.uses_of.Given as goal

abbrev pub invariant-loop-asker : goal.invariant-loop-asker
invariant-loop-asker l = map asker_in l.uses.items ≡ take l.asker-index l.askers
