use Rattle.std.proofs.Common.{◌≡◌, drop}
use Rattle.std.specs.List.{list_all}
use Rattle.wesl_text_sink.specs.Words.{is_plain}
use Rattle.wesl_text_sink.proofs.words.are_plain.Given as goal

abbrev pub invariant-loop-byte : goal.invariant-loop-byte
invariant-loop-byte l = list_all is_plain l.bytes ≡ list_all is_plain (drop l.byte-index l.bytes)
