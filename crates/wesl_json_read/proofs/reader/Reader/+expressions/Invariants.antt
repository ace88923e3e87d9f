use Rattle.std.proofs.Common.{◌+◌, ◌*◌}
use Rattle.serde_json.specs.Data.{depth}
use Rattle.wesl_json_form.specs.View.{borrowed_view}
use Rattle.wesl_tree_syntax.specs.Tree.{list}
use Rattle.wesl_tree_syntax.specs.View.{argument_view, expression_tree}
use Rattle.wesl_json_form.specs.Schema.{a_template_argument, an_expression}
use Rattle.wesl_json_read.proofs.Noting.{NotesItems}
use Rattle.wesl_json_read.proofs.reader.Reader.+expressions.Given as goal

abbrev pub decreases-expression : goal.decreases-expression
decreases-expression l = 10 * depth (borrowed_view l.value.now) + 9

abbrev pub decreases-expression_object : goal.decreases-expression_object
decreases-expression_object l = 10 * depth (borrowed_view l.value.now) + 8

abbrev pub decreases-worded_expression : goal.decreases-worded_expression
decreases-worded_expression l = 10 * depth (borrowed_view l.value.now) + 7

abbrev pub decreases-parenthesized : goal.decreases-parenthesized
decreases-parenthesized l = 10 * depth (borrowed_view l.value.now) + 6

abbrev pub decreases-component : goal.decreases-component
decreases-component l = 10 * depth (borrowed_view l.value.now) + 6

abbrev pub decreases-indexing : goal.decreases-indexing
decreases-indexing l = 10 * depth (borrowed_view l.value.now) + 6

abbrev pub decreases-unary : goal.decreases-unary
decreases-unary l = 10 * depth (borrowed_view l.value.now) + 6

abbrev pub decreases-binary : goal.decreases-binary
decreases-binary l = 10 * depth (borrowed_view l.value.now) + 6

abbrev pub decreases-type_of : goal.decreases-type_of
decreases-type_of l = 10 * depth (borrowed_view l.value.now) + 8

abbrev pub decreases-type_object : goal.decreases-type_object
decreases-type_object l = 10 * depth (borrowed_view l.value.now) + 5

abbrev pub decreases-boxed_at : goal.decreases-boxed_at
decreases-boxed_at l = 10 * depth (borrowed_view l.value.now) + 4

abbrev pub decreases-expression_at : goal.decreases-expression_at
decreases-expression_at l = 10 * depth (borrowed_view l.value.now) + 3

abbrev pub decreases-expressions : goal.decreases-expressions
decreases-expressions l = 10 * depth (borrowed_view l.value.now) + 3

abbrev pub decreases-type_at : goal.decreases-type_at
decreases-type_at l = 10 * depth (borrowed_view l.value.now) + 3

abbrev pub decreases-arguments : goal.decreases-arguments
decreases-arguments l = 10 * depth (borrowed_view l.value.now) + 3

abbrev pub decreases-argument_list : goal.decreases-argument_list
decreases-argument_list l = 10 * depth (borrowed_view l.value.now) + 2

abbrev pub invariant-argument_list-loop-index : goal.invariant-argument_list-loop-index
invariant-argument_list-loop-index l = NotesItems argument_view list a_template_argument l.items l.index l.arguments.items l.fn.self l.self

abbrev pub invariant-expressions-loop-index : goal.invariant-expressions-loop-index
invariant-expressions-loop-index l = NotesItems expression_tree list an_expression l.items l.index l.expressions.items l.fn.self l.self
