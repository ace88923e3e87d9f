use Rattle.std.proofs.Common.{rules}
use Rattle.wesl_cond_covers.proofs.sights.others.Goals as goal

pub returns : goal.returns
returns c = search rules
