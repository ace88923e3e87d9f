use Rattle.wesl_tree_syntax.specs.View.{clause_view, else_if_view, statement_tree}
use Rattle.wesl_json_form.specs.Schema.{a_clause, a_statement, an_elif}
use Rattle.wesl_json_print_nodes.proofs.Lists.{AreNodesBefore}
use Rattle.wesl_json_print_nodes.proofs.statement.+printing.Given as goal

abbrev pub invariant-print_each_statement-loop-node : goal.invariant-print_each_statement-loop-node
invariant-print_each_statement-loop-node g l = AreNodesBefore l.spans l.names a_statement statement_tree g.S.Sink.after l.node-items l.initial.out l.out l.node-index

abbrev pub invariant-print_each_elif-loop-clause : goal.invariant-print_each_elif-loop-clause
invariant-print_each_elif-loop-clause g l = AreNodesBefore l.spans l.names an_elif else_if_view g.S.Sink.after l.clause-items l.initial.out l.out l.clause-index

abbrev pub invariant-print_each_clause-loop-clause : goal.invariant-print_each_clause-loop-clause
invariant-print_each_clause-loop-clause g l = AreNodesBefore l.spans l.names a_clause clause_view g.S.Sink.after l.clause-items l.initial.out l.out l.clause-index
