-- The rows hold.
use Rattle.std.proofs.Common.{refl}
use Rattle.wesl_cond_choices.specs.Choices.{has_bit}
use Rattle.wesl_cond_choices.specs.Rows.{PlaceRows}

pub place_rows : PlaceRows
unfolding has_bit
place_rows = record { x = refl; not_x = refl; past = refl; lists = refl; apart = refl; under = refl; itself = refl; from_outside = refl; dead = refl; not_there = refl }
