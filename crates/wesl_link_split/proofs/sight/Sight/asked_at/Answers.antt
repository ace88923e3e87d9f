use Rattle.std.proofs.Common.{rules}
use Rattle.wesl_link_split.proofs.sight.Sight.asked_at.Goals as goal

pub returns-then-is_own_split : goal.returns-then-is_own_split
returns-then-is_own_split c = search rules
