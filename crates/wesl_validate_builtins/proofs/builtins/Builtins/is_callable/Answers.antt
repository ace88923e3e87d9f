use Rattle.std.proofs.Common.{rules}
use Rattle.wesl_validate_builtins.proofs.builtins.Builtins.is_callable.Goals as goal

pub returns-else-is_among : goal.returns-else-is_among
returns-else-is_among c = search rules
