-- What a value of the code says of the lines of a text.
use Rattle.std.specs.Prelude.{ℕ, List}
use Rattle.wesl_text_lines.specs.declared.line_starts.LineStarts.{LineStarts}

-- the bytes with which the lines begin
abbrev pub starts_view : LineStarts → List ℕ
starts_view lines = lines.starts.items
