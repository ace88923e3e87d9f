use Rattle.wesl_mangle_forms.proofs.Reading.{round_trip}
use Rattle.wesl_mangle_forms.proofs.laws.escape_round_trip.Goals as goal

pub returns : goal.returns
returns c = round_trip
