use Rattle.wesl_cond_chains.proofs.Steps.{written_as}
use Rattle.wesl_cond_chains.proofs.formula.simplify.Goals as goal

pub returns : goal.returns
returns c = written_as _ _ c.leave.ensures
