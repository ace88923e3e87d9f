use Rattle.serde_json.specs.Data.{depth}
use Rattle.wesl_json_form.specs.View.{borrowed_view}
use Rattle.std.proofs.Common.{◌+◌, ◌*◌}
use Rattle.wesl_json_form.specs.Schema.{a_clause, a_statement, an_elif}
use Rattle.wesl_tree_syntax.specs.Tree.{clauses, list, statements}
use Rattle.wesl_tree_syntax.specs.View.{clause_view, else_if_view, statement_tree}
use Rattle.wesl_json_read.proofs.Noting.{NotesItems}
use Rattle.wesl_json_read_statements.proofs.statement.+statements.Given as goal

abbrev pub decreases-statement : goal.decreases-statement
decreases-statement l = 10 * depth (borrowed_view l.value.now) + 9

abbrev pub decreases-worded_statement : goal.decreases-worded_statement
decreases-worded_statement l = 10 * depth (borrowed_view l.value.now) + 8

abbrev pub decreases-block : goal.decreases-block
decreases-block l = 10 * depth (borrowed_view l.value.now) + 7

abbrev pub decreases-if_statement : goal.decreases-if_statement
decreases-if_statement l = 10 * depth (borrowed_view l.value.now) + 7

abbrev pub decreases-switch_statement : goal.decreases-switch_statement
decreases-switch_statement l = 10 * depth (borrowed_view l.value.now) + 7

abbrev pub decreases-loop_statement : goal.decreases-loop_statement
decreases-loop_statement l = 10 * depth (borrowed_view l.value.now) + 7

abbrev pub decreases-for_statement : goal.decreases-for_statement
decreases-for_statement l = 10 * depth (borrowed_view l.value.now) + 7

abbrev pub decreases-while_statement : goal.decreases-while_statement
decreases-while_statement l = 10 * depth (borrowed_view l.value.now) + 7

abbrev pub decreases-else_if : goal.decreases-else_if
decreases-else_if l = 10 * depth (borrowed_view l.value.now) + 7

abbrev pub decreases-clause : goal.decreases-clause
decreases-clause l = 10 * depth (borrowed_view l.value.now) + 7

abbrev pub decreases-body : goal.decreases-body
decreases-body l = 10 * depth (borrowed_view l.value.now) + 3

abbrev pub decreases-statements : goal.decreases-statements
decreases-statements l = 10 * depth (borrowed_view l.value.now) + 3

abbrev pub decreases-optional_statement : goal.decreases-optional_statement
decreases-optional_statement l = 10 * depth (borrowed_view l.value.now) + 3

abbrev pub decreases-else_ifs : goal.decreases-else_ifs
decreases-else_ifs l = 10 * depth (borrowed_view l.value.now) + 3

abbrev pub decreases-else_clause : goal.decreases-else_clause
decreases-else_clause l = 10 * depth (borrowed_view l.value.now) + 3

abbrev pub decreases-clauses : goal.decreases-clauses
decreases-clauses l = 10 * depth (borrowed_view l.value.now) + 3

abbrev pub decreases-continuing : goal.decreases-continuing
decreases-continuing l = 10 * depth (borrowed_view l.value.now) + 3

abbrev pub invariant-statements-loop-index : goal.invariant-statements-loop-index
invariant-statements-loop-index l = NotesItems statement_tree statements a_statement l.items l.index l.statements.items l.fn.reader l.reader

abbrev pub invariant-else_ifs-loop-index : goal.invariant-else_ifs-loop-index
invariant-else_ifs-loop-index l = NotesItems else_if_view list an_elif l.items l.index l.clauses.items l.fn.reader l.reader

abbrev pub invariant-clauses-loop-index : goal.invariant-clauses-loop-index
invariant-clauses-loop-index l = NotesItems clause_view clauses a_clause l.items l.index l.clauses.items l.fn.reader l.reader
