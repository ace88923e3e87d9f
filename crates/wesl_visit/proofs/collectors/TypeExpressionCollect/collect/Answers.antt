use Rattle.wesl_visit_collect.proofs.Ends.{listed_in_type}
use Rattle.wesl_visit.proofs.collectors.TypeExpressionCollect.collect.Goals as goal

pub returns-clause-listed : goal.returns-clause-listed
returns-clause-listed g c = listed_in_type c.args.self.now c.end.result c.new-found.ensures c.in_type.ensures c.end.ensures.listed
