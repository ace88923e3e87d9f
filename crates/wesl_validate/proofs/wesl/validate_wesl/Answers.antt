use Rattle.std.proofs.Common.{rules}
use Rattle.wesl_validate.proofs.wesl.validate_wesl.Goals as goal

pub returns-in-Some-clause-valid : goal.returns-in-Some-clause-valid
returns-in-Some-clause-valid c = search rules
