use Rattle.std.proofs.Common.{rules}
use Rattle.wesl_cond_chains.proofs.formula.both.Goals as goal

pub returns-in-Yes-Undecided : goal.returns-in-Yes-Undecided
returns-in-Yes-Undecided c = search rules
