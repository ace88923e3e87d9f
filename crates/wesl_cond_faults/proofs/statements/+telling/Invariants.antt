use Rattle.wesl_cond_chains.specs.Nodes.{replies}
use Rattle.wesl_tree_syntax.specs.View.{clause_view, else_if_view, statement_tree}
use Rattle.wesl_cond_faults.proofs.Walking.{IsLeft, IsListed}
use Rattle.wesl_cond_faults.proofs.statements.+telling.Given as goal

abbrev pub invariant-tell_else_ifs-loop-clause : goal.invariant-tell_else_ifs-loop-clause
invariant-tell_else_ifs-loop-clause l = IsListed l.names (replies l.names l.features) else_if_view l.clause-items l.initial.told l.clause-index l.told

abbrev pub invariant-tell_statements-loop-node : goal.invariant-tell_statements-loop-node
invariant-tell_statements-loop-node l = IsLeft l.names (replies l.names l.features) statement_tree l.node-items l.initial.told l.node-index l.chain.kept l.chain.decided l.told

abbrev pub invariant-tell_clauses-loop-clause : goal.invariant-tell_clauses-loop-clause
invariant-tell_clauses-loop-clause l = IsLeft l.names (replies l.names l.features) clause_view l.clause-items l.initial.told l.clause-index l.chain.kept l.chain.decided l.told
