use Rattle.wesl_tree_syntax.specs.View.{expression_view}
use Rattle.wesl_visit_rewrite.proofs.Roots.{root}
use Rattle.wesl_visit_rewrite.proofs.holders.ExpressionHolder.replace.Goals as goal

pub returns-clause-replaced : goal.returns-clause-replaced
returns-clause-replaced g c =
    root _ _ (expression_view c.args.self.now) (expression_view c.in_expression.new.expression) (c.law_of_variants.ensures.expressions g.T.Kind.sought c.args.self.now) c.in_expression.ensures
