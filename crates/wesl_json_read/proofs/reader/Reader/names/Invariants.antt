use Rattle.wesl_json_read.proofs.NameLists.{NotesNames}
use Rattle.wesl_json_read.proofs.reader.Reader.names.Given as goal

abbrev pub invariant-loop-index : goal.invariant-loop-index
invariant-loop-index l = NotesNames l.items l.index l.names.items l.fn.self l.self
