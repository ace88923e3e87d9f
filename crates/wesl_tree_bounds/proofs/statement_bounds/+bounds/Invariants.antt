use Rattle.std.proofs.Common.{◌≡◌, drop}
use Rattle.wesl_tree_syntax.specs.View.{statement_tree, else_if_view, clause_view}
use Rattle.wesl_tree_bounds.proofs.Below.{all_below}
use Rattle.wesl_tree_bounds.proofs.statement_bounds.+bounds.Given as goal

abbrev pub invariant-statements_are_below-loop-node : goal.invariant-statements_are_below-loop-node
invariant-statements_are_below-loop-node l =
    all_below (statement_tree) l.bound l.node-items ≡ all_below (statement_tree) l.bound (drop l.node-index l.node-items)

abbrev pub invariant-else_ifs_are_below-loop-clause : goal.invariant-else_ifs_are_below-loop-clause
invariant-else_ifs_are_below-loop-clause l =
    all_below (else_if_view) l.bound l.clause-items ≡ all_below (else_if_view) l.bound (drop l.clause-index l.clause-items)

abbrev pub invariant-clauses_are_below-loop-clause : goal.invariant-clauses_are_below-loop-clause
invariant-clauses_are_below-loop-clause l =
    all_below (clause_view) l.bound l.clause-items ≡ all_below (clause_view) l.bound (drop l.clause-index l.clause-items)
