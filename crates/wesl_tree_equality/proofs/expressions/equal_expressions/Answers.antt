use Rattle.std.proofs.Common.{rules}
use Rattle.wesl_tree_equality.proofs.OfExpressions.{expressions_decided}
use Rattle.wesl_tree_equality.proofs.expressions.equal_expressions.Goals as goal

pub returns : goal.returns
returns c = search (rules, expressions_decided)
