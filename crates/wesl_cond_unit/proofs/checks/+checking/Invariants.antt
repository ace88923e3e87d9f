use Rattle.wesl_cond_chains.specs.Nodes.{replies}
use Rattle.wesl_tree_syntax.specs.View.{clause_view, else_if_view, statement_tree}
use Rattle.wesl_cond_unit.proofs.Walked.{IsLeft, IsListed}
use Rattle.wesl_cond_unit.proofs.checks.+checking.Given as goal

abbrev pub invariant-check_else_ifs-loop-clause : goal.invariant-check_else_ifs-loop-clause
invariant-check_else_ifs-loop-clause l = IsListed (replies l.names l.features) else_if_view l.clause-items l.clause-index

abbrev pub invariant-check_statements-loop-node : goal.invariant-check_statements-loop-node
invariant-check_statements-loop-node l = IsLeft (replies l.names l.features) statement_tree l.node-items l.node-index l.chain.kept l.chain.decided

abbrev pub invariant-check_clauses-loop-clause : goal.invariant-check_clauses-loop-clause
invariant-check_clauses-loop-clause l = IsLeft (replies l.names l.features) clause_view l.clause-items l.clause-index l.chain.kept l.chain.decided
