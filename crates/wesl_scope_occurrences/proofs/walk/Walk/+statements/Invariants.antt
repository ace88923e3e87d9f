use Rattle.wesl_tree_syntax.specs.View.{clause_view, else_if_view, statement_tree}
use Rattle.wesl_scope_occurrences.specs.Views.{here_view}
use Rattle.wesl_scope_occurrences.proofs.Steps.{Passed}
use Rattle.wesl_scope_occurrences.proofs.walk.Walk.+statements.Given as goal

abbrev pub invariant-statements-loop-node : goal.invariant-statements-loop-node
invariant-statements-loop-node g l = Passed g.H.Handler.after statement_tree (here_view l.here) l.initial.self l.self l.node-items l.node-index

abbrev pub invariant-else_if_clauses-loop-clause : goal.invariant-else_if_clauses-loop-clause
invariant-else_if_clauses-loop-clause g l = Passed g.H.Handler.after else_if_view (here_view l.here) l.initial.self l.self l.clause-items l.clause-index

abbrev pub invariant-clauses-loop-clause : goal.invariant-clauses-loop-clause
invariant-clauses-loop-clause g l = Passed g.H.Handler.after clause_view (here_view l.here) l.initial.self l.self l.clause-items l.clause-index
