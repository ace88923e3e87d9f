use Rattle.std.proofs.Common.{rules}
use Rattle.wesl_scope.proofs.entry_points.is_stage.Goals as goal

pub returns-in-Compute : goal.returns-in-Compute
returns-in-Compute c = search rules
