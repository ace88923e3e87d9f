use Rattle.std.proofs.Common.{rules}
use Rattle.wesl_tree_names.proofs.path.ModulePath.is_relative.Goals as goal

pub returns-in_default : goal.returns-in_default
returns-in_default c = search rules
