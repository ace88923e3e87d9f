use Rattle.std.proofs.Common.{sym}
use Rattle.wesl_tree_syntax.specs.View.{attributes_tree, expression_tree}
use Rattle.wesl_tree_syntax.specs.declared.statement.AssignmentOperator.TheVariants as operators
use Rattle.wesl_text_read.proofs.Expressions.{viewed}
use Rattle.wesl_text_read_simple.proofs.Wholes.{discarded_read}
use Rattle.wesl_text_read_simple.proofs.expressed.read_discarded.Goals as goal
use Rattle.wesl_tree_syntax.proofs.Views.{view_assignment}

pub returns : goal.returns
returns c =
    viewed _ _ (sym (view_assignment c.attributes-attributes.result operators.Equal c.read_wildcard-lhs.result c.expression-rhs.result))
    (discarded_read (attributes_tree c.attributes-attributes.result) (expression_tree c.read_wildcard-lhs.result) (expression_tree c.expression-rhs.result) c.requires
    c.attributes-attributes.ensures c.read_wildcard-lhs.ensures c.skip_sign.ensures c.expression-rhs.ensures)
