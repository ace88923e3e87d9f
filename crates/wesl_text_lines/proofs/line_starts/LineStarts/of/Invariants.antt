use Rattle.std.proofs.Common.{◌≡◌, ◌++◌}
use Rattle.std.specs.Prelude.{chars}
use Rattle.std.specs.Str.{IsUtf8}
use Rattle.std.specs.Str.Iter.{char_indices_offset, char_indices_rest}
use Rattle.wesl_text_lines.specs.Lines.{line_ends, line_starts}
use Rattle.wesl_text_lines.proofs.line_starts.LineStarts.of.Given as goal

abbrev pub invariant-loop-character : goal.invariant-loop-character
invariant-loop-character l = record {
  can_go : (goal.iterator-loop-character).can_next l.rest;
  ends : (goal.iterator-loop-character).is_finite l.rest;
  begun : l.starts.items ++ line_ends (char_indices_offset l.rest) (chars (char_indices_rest l.rest)) ≡ line_starts l.text;
  utf8 : IsUtf8 (char_indices_rest l.rest);
}
