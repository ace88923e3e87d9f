use Rattle.std.proofs.Common.{length, map, string_bytes}
use Rattle.wesl_text_read.specs.Leads.{ahead}
use Rattle.wesl_text_read.proofs.Paths.{Steps}
use Rattle.wesl_text_read_imports.proofs.path.steps.Given as goal

abbrev pub invariant-steps : goal.invariant-steps
invariant-steps l = Steps (map string_bytes l.names.items) l.fn.reader l.reader

abbrev pub decreases-steps : goal.decreases-steps
decreases-steps l = length (ahead l.reader)
