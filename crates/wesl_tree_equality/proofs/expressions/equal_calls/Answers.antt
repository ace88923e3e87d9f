use Rattle.std.proofs.Common.{rules}
use Rattle.wesl_tree_equality.proofs.OfExpressions.{calls_decided}
use Rattle.wesl_tree_equality.proofs.expressions.equal_calls.Goals as goal

pub returns : goal.returns
returns c = search (rules, calls_decided)
