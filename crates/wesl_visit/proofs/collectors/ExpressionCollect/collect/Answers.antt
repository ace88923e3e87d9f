use Rattle.wesl_tree_syntax.specs.View.{expression_view}
use Rattle.wesl_visit_collect.proofs.Variants.{expression_unpicked}
use Rattle.wesl_visit_collect.proofs.Ends.{listed_below}
use Rattle.wesl_visit.proofs.collectors.ExpressionCollect.collect.Goals as goal

pub returns-clause-listed : goal.returns-clause-listed
returns-clause-listed g c = listed_below (expression_view c.args.self.now) c.end.result (expression_unpicked g.T.Kind.sought c.args.self.now) c.new-found.ensures c.in_expression.ensures c.end.ensures.listed
