use Rattle.wesl_json_light.proofs.Sorted.{are_sorted}
use Rattle.wesl_json_light.proofs.laws.law_of_order.Goals as goal

pub returns : goal.returns
returns c = are_sorted
