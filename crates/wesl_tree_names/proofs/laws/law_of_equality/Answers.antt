use Rattle.wesl_tree_names.proofs.Order.{equality_holds}
use Rattle.wesl_tree_names.proofs.laws.law_of_equality.Goals as goal

pub returns : goal.returns
returns c = equality_holds
