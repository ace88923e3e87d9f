-- The number that a kind of number holds.
use Rattle.std.specs.Prelude.{Bool, true, pos, int_lt}
use Rattle.std.specs.Float.{float_is_finite}
use Rattle.serde_json.specs.Data.{Num, unsigned, negative, float}
use Rattle.wesl_json_form.specs.declared.number.NumberKind.{NumberKind}
use Rattle.wesl_json_form.specs.declared.number.NumberKind.TheVariants.{Whole, Negative, Float}

-- the number as JSON data has it: a whole one from 0 on, a whole one below 0, or a float
abbrev pub num_of : NumberKind → Num
num_of (Whole n) = unsigned n
num_of (Negative z) = negative z
num_of (Float x) = float x

-- what is told to be negative is, and floats are finite
abbrev pub is_valid : NumberKind → Bool
is_valid (Whole n) = true
is_valid (Negative z) = int_lt z (pos 0)
is_valid (Float x) = float_is_finite x
