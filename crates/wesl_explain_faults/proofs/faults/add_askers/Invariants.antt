use Rattle.wesl_link_symbols.proofs.Indexing.{steps}
use Rattle.wesl_explain_faults.proofs.Gathering.{IsAsking}
use Rattle.wesl_explain_faults.proofs.faults.add_askers.Given as goal

abbrev pub invariant-findings : goal.invariant-findings
invariant-findings l = IsAsking l.ties.told.now l.wrong l.askers.items l.at

abbrev pub decreases-findings : goal.decreases-findings
decreases-findings l = steps l.at
