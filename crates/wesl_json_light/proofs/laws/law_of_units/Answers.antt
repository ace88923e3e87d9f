use Rattle.wesl_json_light.proofs.Modules.{units_read_back}
use Rattle.wesl_json_light.proofs.laws.law_of_units.Goals as goal

pub returns : goal.returns
returns c = units_read_back
