use Rattle.wesl_cond_chains.proofs.SameTrees.{picked_unit_on}
use Rattle.wesl_cond_chains.proofs.laws.law_of_choices.Goals as goal

pub returns : goal.returns
returns c = λ answers choice u agrees. picked_unit_on choice answers u agrees
