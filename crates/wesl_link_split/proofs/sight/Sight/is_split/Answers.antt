use Rattle.std.proofs.Common.{rules}
use Rattle.wesl_link_split.proofs.sight.Sight.is_split.Goals as goal

pub returns : goal.returns
returns c = search rules
