use Rattle.std.proofs.Common.{length, map, string_bytes}
use Rattle.wesl_text_read.specs.Leads.{ahead}
use Rattle.wesl_text_read.proofs.Paths.{Steps}
use Rattle.wesl_text_read.proofs.reader.Reader.steps.Given as goal

abbrev pub invariant-steps : goal.invariant-steps
invariant-steps l = Steps (map string_bytes l.names.items) l.fn.self l.self

abbrev pub decreases-steps : goal.decreases-steps
decreases-steps l = length (ahead l.self)
