use Rattle.wesl_mangle_forms.proofs.Words.{unicode_round_trip}
use Rattle.wesl_mangle_forms.proofs.laws.unicode_round_trip.Goals as goal

pub returns : goal.returns
returns c = unicode_round_trip
