use Rattle.std.proofs.Common.{rules}
use Rattle.wesl_tree_names.proofs.errors.ErrorFromAllocFailed.from.Goals as goal

pub returns : goal.returns
returns g c = search rules
