use Rattle.std.proofs.Common.{◌+◌, ◌*◌}
use Rattle.wesl_tree_syntax.specs.View.{clause_view, else_if_view, statement_tree}
use Rattle.wesl_text_form.specs.Productions.{a_clause, a_statement, an_else_if}
use Rattle.wesl_text_reading.specs.Reading.{any, at_level}
use Rattle.wesl_text_read.specs.Levels.{inner}
use Rattle.wesl_text_read_statements.proofs.Runs.{Grows}
use Rattle.wesl_text_read_statements.proofs.statement.+statements.Given as goal

abbrev pub decreases-read_body : goal.decreases-read_body
decreases-read_body l = 20 * l.reader.now.levels + 1

abbrev pub decreases-body_within : goal.decreases-body_within
decreases-body_within l = 20 * l.reader.now.levels + 13

abbrev pub decreases-read_statements : goal.decreases-read_statements
decreases-read_statements l = 20 * l.reader.now.levels + 12

abbrev pub decreases-read_statement : goal.decreases-read_statement
decreases-read_statement l = 20 * l.reader.now.levels + 11

abbrev pub decreases-read_bare_statement : goal.decreases-read_bare_statement
decreases-read_bare_statement l = 20 * l.reader.now.levels + 10

abbrev pub decreases-read_if : goal.decreases-read_if
decreases-read_if l = 20 * l.reader.now.levels + 9

abbrev pub decreases-read_if_clause : goal.decreases-read_if_clause
decreases-read_if_clause l = 20 * l.reader.now.levels + 2

abbrev pub decreases-read_else_ifs : goal.decreases-read_else_ifs
decreases-read_else_ifs l = 20 * l.reader.now.levels + 3

abbrev pub decreases-read_else_if : goal.decreases-read_else_if
decreases-read_else_if l = 20 * l.reader.now.levels + 2

abbrev pub decreases-optional_else : goal.decreases-optional_else
decreases-optional_else l = 20 * l.reader.now.levels + 3

abbrev pub decreases-read_else : goal.decreases-read_else
decreases-read_else l = 20 * l.reader.now.levels + 2

abbrev pub decreases-read_switch : goal.decreases-read_switch
decreases-read_switch l = 20 * l.reader.now.levels + 9

abbrev pub decreases-read_clauses : goal.decreases-read_clauses
decreases-read_clauses l = 20 * l.reader.now.levels + 3

abbrev pub decreases-read_clause : goal.decreases-read_clause
decreases-read_clause l = 20 * l.reader.now.levels + 2

abbrev pub decreases-clause_within : goal.decreases-clause_within
decreases-clause_within l = 20 * l.reader.now.levels + 3

abbrev pub decreases-read_loop : goal.decreases-read_loop
decreases-read_loop l = 20 * l.reader.now.levels + 9

abbrev pub decreases-read_block : goal.decreases-read_block
decreases-read_block l = 20 * l.reader.now.levels + 5

abbrev pub decreases-lower_statements : goal.decreases-lower_statements
decreases-lower_statements l = 20 * l.reader.now.levels + 4

abbrev pub decreases-lower_statement : goal.decreases-lower_statement
decreases-lower_statement l = 20 * l.reader.now.levels + 3

abbrev pub decreases-optional_continuing : goal.decreases-optional_continuing
decreases-optional_continuing l = 20 * l.reader.now.levels + 8

abbrev pub decreases-read_continuing : goal.decreases-read_continuing
decreases-read_continuing l = 20 * l.reader.now.levels + 7

abbrev pub decreases-read_for : goal.decreases-read_for
decreases-read_for l = 20 * l.reader.now.levels + 9

abbrev pub decreases-read_while : goal.decreases-read_while
decreases-read_while l = 20 * l.reader.now.levels + 9

abbrev pub invariant-read_statements-statements : goal.invariant-read_statements-statements
invariant-read_statements-statements l = Grows statement_tree a_statement (λ n. inner n a_statement) l.goes_on l.room l.statements.items l.fn.reader l.reader

abbrev pub decreases-read_statements-statements : goal.decreases-read_statements-statements
decreases-read_statements-statements l = l.room

abbrev pub invariant-lower_statements-statements : goal.invariant-lower_statements-statements
invariant-lower_statements-statements l = Grows statement_tree a_statement (λ n. at_level n any a_statement) l.goes_on l.room l.statements.items l.fn.reader l.reader

abbrev pub decreases-lower_statements-statements : goal.decreases-lower_statements-statements
decreases-lower_statements-statements l = l.room

abbrev pub invariant-read_else_ifs-clauses : goal.invariant-read_else_ifs-clauses
invariant-read_else_ifs-clauses l = Grows else_if_view an_else_if (λ n. inner n an_else_if) l.goes_on l.room l.clauses.items l.fn.reader l.reader

abbrev pub decreases-read_else_ifs-clauses : goal.decreases-read_else_ifs-clauses
decreases-read_else_ifs-clauses l = l.room

abbrev pub invariant-read_clauses-clauses : goal.invariant-read_clauses-clauses
invariant-read_clauses-clauses l = Grows clause_view a_clause (λ n. inner n a_clause) l.goes_on l.room l.clauses.items l.fn.reader l.reader

abbrev pub decreases-read_clauses-clauses : goal.decreases-read_clauses-clauses
decreases-read_clauses-clauses l = l.room
