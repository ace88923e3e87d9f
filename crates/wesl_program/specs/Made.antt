-- The bytes of a line that was made, or that stands in the program.
use Rattle.std.specs.Prelude.{List, ℕ, string_bytes}
use Rattle.wesl_program.specs.declared.lines.Line.{Line}
use Rattle.wesl_program.specs.declared.lines.Line.TheVariants.{Made, Constant}

-- the bytes of a line: of the text that was made, or of the constant
abbrev pub bytes_of : Line → List ℕ
bytes_of (Made s) = string_bytes s
bytes_of (Constant s) = s.now
