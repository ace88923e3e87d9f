-- How a place goes over the characters of a text.
use Rattle.std.specs.Prelude.{ℕ, suc, if◌then◌else◌, List}
use Rattle.wesl_text_lines.specs.Lines.{ends_line}
use Rattle.wesl_text_lines.specs.declared.place.Place.{Place}

-- the place behind a character, which ends at this byte, before these others
abbrev pub behind : Place → ℕ → List ℕ → ℕ → Place
behind p c cs end =
    if ends_line c cs then record { line = suc p.line; column = 1; line_start = end }
    else record { line = p.line; column = suc p.column; line_start = p.line_start }
