use Rattle.wesl_tree_syntax.specs.View.{statement_view}
use Rattle.wesl_visit_collect.proofs.Variants.{statement_unpicked}
use Rattle.wesl_visit_collect.proofs.Ends.{listed_below}
use Rattle.wesl_visit.proofs.collectors.StatementCollect.collect.Goals as goal

pub returns-clause-listed : goal.returns-clause-listed
returns-clause-listed g c = listed_below (statement_view c.args.self.now) c.end.result (statement_unpicked g.T.Kind.sought c.args.self.now) c.new-found.ensures c.in_statement.ensures c.end.ensures.listed
