-- The first of two answers that is one.
use Rattle.std.specs.Prelude.{Option, Some, None}

-- the first, or else the second
abbrev pub first_of : {X : Type 0} → Option X → Option X → Option X
first_of (Some x) second = Some x
first_of None second = second
