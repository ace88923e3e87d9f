use Rattle.std.proofs.Common.{◌+◌, ◌*◌}
use Rattle.wesl_tree_syntax.specs.View.{argument_view, expression_tree}
use Rattle.wesl_text_form.specs.Productions.{an_argument, an_expression}
use Rattle.wesl_text_read.specs.Within.{allows}
use Rattle.wesl_text_read.proofs.Chains.{Chains, Posts}
use Rattle.wesl_text_read.proofs.Lists.{Lists}
use Rattle.wesl_text_read.proofs.reader.Reader.+expressions.Given as goal

abbrev pub decreases-expression : goal.decreases-expression
decreases-expression l = 20 * l.self.now.levels

abbrev pub decreases-operand : goal.decreases-operand
decreases-operand l = 20 * l.self.now.levels + 10

abbrev pub decreases-operations : goal.decreases-operations
decreases-operations l = 20 * l.self.now.levels + 10

abbrev pub decreases-operation : goal.decreases-operation
decreases-operation l = 20 * l.self.now.levels + 2

abbrev pub decreases-prefixed : goal.decreases-prefixed
decreases-prefixed l = 20 * l.self.now.levels + 2

abbrev pub decreases-posts : goal.decreases-posts
decreases-posts l = 20 * l.self.now.levels + 5

abbrev pub decreases-post : goal.decreases-post
decreases-post l = 20 * l.self.now.levels + 4

abbrev pub decreases-index : goal.decreases-index
decreases-index l = 20 * l.self.now.levels + 2

abbrev pub decreases-bare_expression : goal.decreases-bare_expression
decreases-bare_expression l = 20 * l.self.now.levels + 9

abbrev pub decreases-named_expression : goal.decreases-named_expression
decreases-named_expression l = 20 * l.self.now.levels + 8

abbrev pub decreases-enclosed : goal.decreases-enclosed
decreases-enclosed l = 20 * l.self.now.levels + 2

abbrev pub decreases-type_expression : goal.decreases-type_expression
decreases-type_expression l = 20 * l.self.now.levels + 7

abbrev pub decreases-template_arguments : goal.decreases-template_arguments
decreases-template_arguments l = 20 * l.self.now.levels + 6

abbrev pub decreases-template_list : goal.decreases-template_list
decreases-template_list l = 20 * l.self.now.levels + 5

abbrev pub decreases-list_arguments : goal.decreases-list_arguments
decreases-list_arguments l = 20 * l.self.now.levels + 4

abbrev pub decreases-arguments : goal.decreases-arguments
decreases-arguments l = 20 * l.self.now.levels + 5

abbrev pub decreases-expressions : goal.decreases-expressions
decreases-expressions l = 20 * l.self.now.levels + 4

abbrev pub invariant-operations-operations : goal.invariant-operations-operations
invariant-operations-operations l = Chains (allows l.within) l.room l.fn.first l.left l.fn.self l.self

abbrev pub decreases-operations-operations : goal.decreases-operations-operations
decreases-operations-operations l = l.room

abbrev pub invariant-posts-posts : goal.invariant-posts-posts
invariant-posts-posts l = Posts l.room l.fn.first l.base l.fn.self l.self

abbrev pub decreases-posts-posts : goal.decreases-posts-posts
decreases-posts-posts l = l.room

abbrev pub invariant-list_arguments-arguments : goal.invariant-list_arguments-arguments
invariant-list_arguments-arguments l = Lists argument_view an_argument l.goes_on l.room l.arguments.items l.fn.self l.self

abbrev pub decreases-list_arguments-arguments : goal.decreases-list_arguments-arguments
decreases-list_arguments-arguments l = l.room

abbrev pub invariant-expressions-expressions : goal.invariant-expressions-expressions
invariant-expressions-expressions l = Lists expression_tree an_expression l.goes_on l.room l.expressions.items l.fn.self l.self

abbrev pub decreases-expressions-expressions : goal.decreases-expressions-expressions
decreases-expressions-expressions l = l.room
