use Rattle.std.proofs.Common.{rules}
use Rattle.wesl_link.proofs.resolutions.Resolutions.module_order.Goals as goal

pub returns-clause-order : goal.returns-clause-order
returns-clause-order c = search rules
