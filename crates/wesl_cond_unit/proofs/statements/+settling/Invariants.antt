use Rattle.std.proofs.Common.{◌≡◌, ◌++◌, map, take, drop}
use Rattle.wesl_cond_chains.specs.Nodes.{answers}
use Rattle.wesl_cond_chains.specs.Residual.{residual_tree}
use Rattle.wesl_tree_syntax.specs.View.{clause_view, else_if_view, statement_tree}
use Rattle.wesl_cond_unit.proofs.statements.+settling.Given as goal

abbrev pub invariant-settle_statements-loop-node : goal.invariant-settle_statements-loop-node
invariant-settle_statements-loop-node l =
    goal.unvisited-settle_statements-loop-node l
    × (map statement_tree (take l.node-index l.nodes) ++ map (λ x. residual_tree (answers l.names l.features) (statement_tree x)) (drop l.node-index l.nodes) ≡ map (λ x. residual_tree (answers l.names l.features) (statement_tree x)) l.initial.nodes)

abbrev pub invariant-settle_else_ifs-loop-clause : goal.invariant-settle_else_ifs-loop-clause
invariant-settle_else_ifs-loop-clause l =
    goal.unvisited-settle_else_ifs-loop-clause l
    × (map else_if_view (take l.clause-index l.clauses) ++ map (λ x. residual_tree (answers l.names l.features) (else_if_view x)) (drop l.clause-index l.clauses) ≡ map (λ x. residual_tree (answers l.names l.features) (else_if_view x)) l.initial.clauses)

abbrev pub invariant-settle_clauses-loop-clause : goal.invariant-settle_clauses-loop-clause
invariant-settle_clauses-loop-clause l =
    goal.unvisited-settle_clauses-loop-clause l
    × (map clause_view (take l.clause-index l.clauses) ++ map (λ x. residual_tree (answers l.names l.features) (clause_view x)) (drop l.clause-index l.clauses) ≡ map (λ x. residual_tree (answers l.names l.features) (clause_view x)) l.initial.clauses)
