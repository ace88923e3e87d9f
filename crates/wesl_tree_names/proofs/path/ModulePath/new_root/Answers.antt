use Rattle.std.proofs.Common.{rules}
use Rattle.wesl_tree_names.proofs.path.ModulePath.new_root.Goals as goal

pub returns : goal.returns
returns c = search rules
