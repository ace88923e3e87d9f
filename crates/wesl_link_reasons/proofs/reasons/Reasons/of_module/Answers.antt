use Rattle.std.proofs.Common.{rules}
use Rattle.wesl_link_reasons.proofs.reasons.Reasons.of_module.Goals as goal

pub returns-clause-none : goal.returns-clause-none
returns-clause-none c = search rules
