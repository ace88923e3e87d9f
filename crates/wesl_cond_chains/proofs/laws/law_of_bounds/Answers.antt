use Rattle.wesl_cond_chains.proofs.Bounds.{tree_left_below}
use Rattle.wesl_cond_chains.proofs.laws.law_of_bounds.Goals as goal

pub returns : goal.returns
returns c = λ n answers t outside h. tree_left_below n answers outside t h
