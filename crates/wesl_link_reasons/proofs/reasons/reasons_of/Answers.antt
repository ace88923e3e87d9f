use Rattle.wesl_link_reasons.proofs.Ending.{ended}
use Rattle.wesl_link_reasons.proofs.reasons.reasons_of.Goals as goal

pub returns : goal.returns
returns c = ended _ c.run.new.self c.in_ok-run.ensures.sound c.in_ok-run.ensures.firsts c.in_ok-run.ensures.through c.in_ok-run.ensures.done
