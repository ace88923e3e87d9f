use Rattle.std.proofs.Common.{rules}
use Rattle.wesl_program.proofs.bundle_value.bundle_of_bytes.Goals as goal

pub returns-clause-refused : goal.returns-clause-refused
returns-clause-refused c = search rules
