use Rattle.std.proofs.Common.{◌≡◌, suc, ◌+◌, ◌≤◌, length}
use Rattle.std.specs.Prelude.{chars}
use Rattle.std.specs.Str.{IsUtf8}
use Rattle.std.specs.Str.Iter.{char_indices_offset, char_indices_rest}
use Rattle.wesl_text_lines.proofs.Walk.{beginning, walk}
use Rattle.wesl_text_lines.proofs.place.place_of.Given as goal

abbrev pub invariant-loop-character : goal.invariant-loop-character
invariant-loop-character l = record {
  can_go : (goal.iterator-loop-character).can_next l.rest;
  ends : (goal.iterator-loop-character).is_finite l.rest;
  goes : walk l.offset l.place (char_indices_offset l.rest) (chars (char_indices_rest l.rest)) ≡ walk l.offset beginning 0 (chars l.text);
  utf8 : IsUtf8 (char_indices_rest l.rest);
  whole : char_indices_offset l.rest + length (char_indices_rest l.rest) ≡ length l.text;
  lines : l.place.line ≤ suc (char_indices_offset l.rest);
  columns : l.place.column ≤ suc (char_indices_offset l.rest);
}
