use Rattle.std.proofs.Common.{[], drop, map}
use Rattle.wesl_tree_syntax.specs.View.{clause_view, else_if_view, statement_tree}
use Rattle.wesl_cond_alive.specs.Walk.{listed}
use Rattle.wesl_cond_alive.specs.Views.{here_view, spot_view}
use Rattle.wesl_cond_alive.proofs.Steps.{Passed}
use Rattle.wesl_cond_alive.proofs.walk.Walk.+statements.Given as goal

abbrev pub invariant-statements-loop-i : goal.invariant-statements-loop-i
invariant-statements-loop-i l = Passed statement_tree (spot_view l.here) (λ i. listed (drop i (map here_view l.places))) l.initial.self l.self l.nodes.items l.i

abbrev pub invariant-else_if_clauses-loop-clause : goal.invariant-else_if_clauses-loop-clause
invariant-else_if_clauses-loop-clause l = Passed else_if_view (spot_view l.here) (λ i. listed []) l.initial.self l.self l.clause-items l.clause-index

abbrev pub invariant-clauses-loop-i : goal.invariant-clauses-loop-i
invariant-clauses-loop-i l = Passed clause_view (spot_view l.here) (λ i. listed (drop i (map here_view l.places.items))) l.initial.self l.self l.all.items l.i
