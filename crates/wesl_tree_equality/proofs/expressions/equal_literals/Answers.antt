use Rattle.std.proofs.Common.{rules}
use Rattle.wesl_tree_equality.proofs.OfLiterals.{literals_decided}
use Rattle.wesl_tree_equality.proofs.expressions.equal_literals.Goals as goal

pub returns : goal.returns
returns c = search (rules, literals_decided)
