use Rattle.std.proofs.Common.{rules}
use Rattle.wesl_tree_names.proofs.path.PathOrigin.try_clone.Goals as goal

pub returns-clause-equal : goal.returns-clause-equal
returns-clause-equal c = search rules
