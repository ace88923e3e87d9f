use Rattle.std.proofs.Common.{rules}
use Rattle.wesl_tree_names.proofs.errors.Diagnostic.into_error.Goals as goal

pub returns : goal.returns
returns c = search rules
