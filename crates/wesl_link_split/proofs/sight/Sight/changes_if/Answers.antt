use Rattle.std.proofs.Common.{rules}
use Rattle.wesl_link_split.proofs.sight.Sight.changes_if.Goals as goal

pub returns-in_ok-changes : goal.returns-in_ok-changes
returns-in_ok-changes c = search rules
