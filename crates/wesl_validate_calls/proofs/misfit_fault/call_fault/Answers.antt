use Rattle.std.proofs.Common.{rules}
use Rattle.wesl_validate_calls.proofs.misfit_fault.call_fault.Goals as goal

pub returns-clause-fault : goal.returns-clause-fault
returns-clause-fault c = search rules
