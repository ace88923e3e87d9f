use Rattle.std.proofs.Common.{sym}
use Rattle.wesl_tree_syntax.specs.Tree.{before, end}
use Rattle.wesl_tree_syntax.specs.View.{expression_tree}
use Rattle.wesl_text_read.proofs.Attributes.{operand_attribute_read}
use Rattle.wesl_text_read.proofs.Expressions.{viewed}
use Rattle.wesl_text_read.proofs.reader.Reader.operand_attribute.Goals as goal

pub returns : goal.returns
returns c = viewed _ _ (sym c.with_operand.ensures) (operand_attribute_read c.args.self.now.levels (before (expression_tree c.operand_in_parentheses-operand.result) end) c.args.word c.operand_in_parentheses-operand.ensures)
