use Rattle.std.proofs.Common.{rules}
use Rattle.wesl_tree_names.proofs.names.Names.new.Goals as goal

pub returns : goal.returns
returns c = search rules
