use Rattle.std.proofs.Common.{rules}
use Rattle.wesl_tree_names.proofs.path.ModulePath.join.Goals as goal

pub returns-clause-joined : goal.returns-clause-joined
returns-clause-joined c = search rules
