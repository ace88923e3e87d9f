use Rattle.std.proofs.Common.{length, string_bytes}
use Rattle.wesl_text_read.specs.Leads.{ahead}
use Rattle.wesl_text_read_imports.proofs.Slashes.{Slashed}
use Rattle.wesl_text_read_imports.proofs.path.package_name.Given as goal

abbrev pub invariant-parts : goal.invariant-parts
invariant-parts l = Slashed (string_bytes l.name) l.fn.reader l.reader

abbrev pub decreases-parts : goal.decreases-parts
decreases-parts l = length (ahead l.reader)
