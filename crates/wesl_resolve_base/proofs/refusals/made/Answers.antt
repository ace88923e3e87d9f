use Rattle.std.proofs.Common.{sym, ap}
use Rattle.std.specs.Result.{result_ok}
use Rattle.wesl_resolve_base.proofs.refusals.made.Goals as goal

pub returns-in-Ok : goal.returns-in-Ok
returns-in-Ok g c = sym (ap result_ok c.in-Ok.is)

pub returns-in-Err : goal.returns-in-Err
returns-in-Err g c = sym (ap result_ok c.in-Err.is)
