use Rattle.std.proofs.Common.{rules}
use Rattle.wesl_tree_names.proofs.path.PathOrigin.joined.Goals as goal

pub returns-in-Package-Absolute-clause-value : goal.returns-in-Package-Absolute-clause-value
returns-in-Package-Absolute-clause-value c = search rules
