use Rattle.wesl_json_light.proofs.Whole.{have_no_float}
use Rattle.wesl_json_light.proofs.laws.law_of_whole_values.Goals as goal

pub returns : goal.returns
returns c = have_no_float
