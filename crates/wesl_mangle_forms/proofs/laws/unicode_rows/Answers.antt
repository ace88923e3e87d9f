use Rattle.std.proofs.Common.{refl}
use lib.Utf8.{encode}
use Rattle.wesl_mangle_forms.proofs.laws.unicode_rows.Goals as goal

pub returns : goal.returns
unfolding encode
returns c = record { two_up = (refl, refl); root = (refl, refl); module_item = (refl, refl); dependency = refl; own_module = refl; no_item = refl; empty = refl; array_of_two = refl; array_of_sum = refl }
