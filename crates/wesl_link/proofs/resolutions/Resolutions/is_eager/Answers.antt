use Rattle.std.proofs.Common.{rules}
use Rattle.wesl_link.proofs.resolutions.Resolutions.is_eager.Goals as goal

pub returns : goal.returns
returns c = search rules
