use Rattle.wesl_text_print.proofs.Adding.{told}
use Rattle.wesl_text_print_statements.proofs.Bodies.{expression_case}
use Rattle.wesl_text_print_statements.proofs.statement.print_selector.Goals as goal

pub returns-in-Expression : goal.returns-in-Expression
returns-in-Expression g c = told (expression_case c.args.names.now c.args.selector.now c.in-Expression.expression c.in-Expression.is) c.print_expression.ensures
