-- Rows, by computation.
use Rattle.std.proofs.Common.{refl}
use Rattle.std.specs.Str.{chars}
use Rattle.wesl_text_guarded.specs.Rows.{ComparisonsAreEnclosed, OperandsAreEnclosed, OthersStay}

pub operands_are_enclosed : OperandsAreEnclosed
unfolding chars
operands_are_enclosed = (refl, refl, refl, refl, refl, refl)

pub others_stay : OthersStay
unfolding chars
others_stay = (refl, refl, refl)

pub comparisons_are_enclosed : ComparisonsAreEnclosed
unfolding chars
comparisons_are_enclosed = (refl, refl, refl)
