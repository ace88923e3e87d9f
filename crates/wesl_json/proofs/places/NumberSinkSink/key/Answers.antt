use Rattle.std.proofs.Common.{refl}
use Rattle.wesl_json.proofs.PlaceLemmas.{no_number}
use Rattle.wesl_json.proofs.places.NumberSinkSink.key.Goals as goal

pub returns : goal.returns
returns c = no_number refl
