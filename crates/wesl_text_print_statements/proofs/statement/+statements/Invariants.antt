use Rattle.wesl_text_form.specs.Productions.{a_clause, a_statement, an_else_if}
use Rattle.wesl_text_print.proofs.Lists.{AreBefore, node_slots}
use Rattle.wesl_tree_syntax.specs.View.{clause_view, else_if_view, statement_tree}
use Rattle.wesl_text_print_statements.proofs.statement.+statements.Given as goal

abbrev pub invariant-print_statements-loop-statement : goal.invariant-print_statements-loop-statement
invariant-print_statements-loop-statement g l = AreBefore (node_slots l.names a_statement statement_tree) g.S.TokenSink.after l.statement-items l.initial.out l.out l.statement-index

abbrev pub invariant-print_else_ifs-loop-clause : goal.invariant-print_else_ifs-loop-clause
invariant-print_else_ifs-loop-clause g l = AreBefore (node_slots l.names an_else_if else_if_view) g.S.TokenSink.after l.clause-items l.initial.out l.out l.clause-index

abbrev pub invariant-print_each_clause-loop-clause : goal.invariant-print_each_clause-loop-clause
invariant-print_each_clause-loop-clause g l = AreBefore (node_slots l.names a_clause clause_view) g.S.TokenSink.after l.clause-items l.initial.out l.out l.clause-index
