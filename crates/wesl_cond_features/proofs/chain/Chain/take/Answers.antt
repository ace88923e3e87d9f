use Rattle.std.proofs.Common.{rules}
use Rattle.wesl_cond_features.proofs.chain.Chain.take.Goals as goal

pub returns-then-kept-clause-decided : goal.returns-then-kept-clause-decided
returns-then-kept-clause-decided c = search rules

pub returns-else-kept-clause-decided : goal.returns-else-kept-clause-decided
returns-else-kept-clause-decided c = search rules
