use Rattle.std.proofs.Common.{sym}
use Rattle.wesl_tree_syntax.specs.Tree.{list}
use Rattle.wesl_tree_syntax.specs.View.{expression_tree, listed, type_view}
use Rattle.wesl_text_read.proofs.Expressions.{call_parts, viewed}
use Rattle.wesl_text_read.proofs.reader.Reader.call.Goals as goal
use Rattle.wesl_tree_syntax.proofs.Views.{view_call_of}

pub returns : goal.returns
returns c = viewed _ _ (sym (view_call_of c.type_expression.result c.arguments.result)) (call_parts (type_view c.type_expression.result) (listed expression_tree list c.arguments.result) c.type_expression.ensures c.arguments.ensures)
