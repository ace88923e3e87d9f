use Rattle.std.proofs.Common.{◌≡◌, ℕ, ◌≤◌, length, get_or}
use Rattle.wesl_tree_syntax.specs.View.{clause_view, else_if_view, statement_tree}
use Rattle.wesl_tree_syntax.specs.declared.span.Spanned.{Spanned}
use Rattle.wesl_tree_syntax.specs.declared.statement.Statement.{Statement}
use Rattle.wesl_visit_rewrite.specs.Replaced.{rule}
use Rattle.wesl_visit_rewrite.proofs.Steps.{FirstWent}
use Rattle.wesl_visit_rewrite.proofs.replace.statement.+replacing_statements.Given as goal

-- what is done so far; and those after it stand as they did
abbrev pub invariant-at_statements-loop-i : goal.invariant-at_statements-loop-i
invariant-at_statements-loop-i g l =
    (FirstWent (rule g.T.Kind.sought g.R.Rewrite.rewrites l.deep) statement_tree l.i l.initial.goes l.initial.statements l.goes l.statements)
    × ((length l.statements ≡ length l.initial.statements) × ((k : ℕ) (d : Spanned Statement) → l.i ≤ k → get_or l.statements k d ≡ get_or l.initial.statements k d))

abbrev pub invariant-each_else_if-loop-i : goal.invariant-each_else_if-loop-i
invariant-each_else_if-loop-i g l = (FirstWent (rule g.T.Kind.sought g.R.Rewrite.rewrites l.deep) else_if_view l.i l.initial.goes l.initial.clauses l.goes l.clauses) × goal.unvisited-each_else_if-loop-i g l

abbrev pub invariant-each_clause-loop-i : goal.invariant-each_clause-loop-i
invariant-each_clause-loop-i g l = (FirstWent (rule g.T.Kind.sought g.R.Rewrite.rewrites l.deep) clause_view l.i l.initial.goes l.initial.clauses l.goes l.clauses) × goal.unvisited-each_clause-loop-i g l
