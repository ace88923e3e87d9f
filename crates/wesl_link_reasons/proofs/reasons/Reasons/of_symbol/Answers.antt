use Rattle.std.proofs.Common.{rules}
use Rattle.wesl_link_reasons.proofs.reasons.Reasons.of_symbol.Goals as goal

pub returns-clause-told : goal.returns-clause-told
returns-clause-told c = search rules
