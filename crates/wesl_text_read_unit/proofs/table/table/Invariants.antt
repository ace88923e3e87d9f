use Rattle.std.proofs.Common.{◌≡◌, map, string_bytes, take}
use Rattle.wesl_text_read_unit.proofs.table.table.Given as goal

abbrev pub invariant-loop-text : goal.invariant-loop-text
invariant-loop-text l = l.table ≡ map string_bytes (take l.text-index l.text-items)
