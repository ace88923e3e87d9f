-- The place that the program tells of a fault.
use Rattle.std.specs.Prelude.{option_map}
use Rattle.wesl_program.specs.Fault.{path_text}
use Rattle.wesl_program.specs.Places.{Where}
use Rattle.wesl_program.specs.declared.place.Told.{Told}

-- the place that the code tells: the path of the module as a text, and in its source the first byte and the byte after the last
-- one, each where it is told
abbrev pub where_told : Told → Where
where_told t = record { home = option_map (λ p. path_text p.now) t.«module»; span = option_map (λ s. (s.start, s.end)) t.span }
