use Rattle.wesl_json_form.proofs.Broken.{whole_form_refuses}
use Rattle.wesl_json_form.proofs.laws.law_of_places.Goals as goal

pub returns : goal.returns
returns c = whole_form_refuses
