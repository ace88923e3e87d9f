use Rattle.std.proofs.Common.{rules}
use Rattle.wesl_link_split.proofs.askers.first_asker.Goals as goal

pub returns-clause-first : goal.returns-clause-first
returns-clause-first c = search rules
