use Rattle.std.proofs.Common.{rules}
use Rattle.wesl_cond_covers.proofs.sights.changes_at.Goals as goal

pub returns-then-not-is_seen : goal.returns-then-not-is_seen
returns-then-not-is_seen c = search rules
