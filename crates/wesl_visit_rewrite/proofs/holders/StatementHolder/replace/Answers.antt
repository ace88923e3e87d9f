use Rattle.wesl_tree_syntax.specs.View.{statement_view}
use Rattle.wesl_visit_rewrite.proofs.Roots.{root}
use Rattle.wesl_visit_rewrite.proofs.holders.StatementHolder.replace.Goals as goal

pub returns-clause-replaced : goal.returns-clause-replaced
returns-clause-replaced g c =
    root _ _ (statement_view c.args.self.now) (statement_view c.in_statement.new.statement) (c.law_of_variants.ensures.statements g.T.Kind.sought c.args.self.now) c.in_statement.ensures
