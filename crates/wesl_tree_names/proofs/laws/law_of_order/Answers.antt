use Rattle.wesl_tree_names.proofs.Order.{order_holds, total_holds}
use Rattle.wesl_tree_names.proofs.laws.law_of_order.Goals as goal

pub returns-clause-by_view : goal.returns-clause-by_view
returns-clause-by_view c = order_holds

pub returns-clause-total : goal.returns-clause-total
returns-clause-total c = total_holds
