use Rattle.std.proofs.Common.{length, map, string_bytes}
use Rattle.wesl_text_read.specs.Leads.{ahead}
use Rattle.wesl_text_read.proofs.WordLists.{Words}
use Rattle.wesl_text_read.proofs.reader.Reader.words.Given as goal

abbrev pub invariant-words : goal.invariant-words
invariant-words l = Words (map string_bytes l.words.items) l.fn.self l.self

abbrev pub decreases-words : goal.decreases-words
decreases-words l = length (ahead l.self)
