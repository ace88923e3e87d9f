use Rattle.std.proofs.Common.{refl}
use Rattle.wesl_json.proofs.PlaceLemmas.{a_number}
use Rattle.wesl_json.proofs.places.NumberSinkSink.number.Goals as goal

pub returns : goal.returns
returns c = a_number refl refl refl
