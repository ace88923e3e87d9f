-- The rows hold.
use Rattle.std.proofs.Common.{refl}
use Rattle.wesl_cond_alive.specs.Rows.{PlaceRows, PositionRows}

pub place_rows : PlaceRows
place_rows = record { one_flag = refl; alive = refl; use_of_first = refl; apart = refl; from_outside = refl; not_there = refl; broken_stays = refl }

pub position_rows : PositionRows
position_rows = record { two_flags = refl; apart = refl; under = refl; in_turn = refl; ends = refl; ends_apart = refl; breaks_apart = refl; gone = refl; whole = refl }
