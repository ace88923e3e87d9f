use Rattle.wesl_tree_syntax.specs.View.{attribute_view}
use Rattle.wesl_visit_collect.proofs.Variants.{attribute_unpicked}
use Rattle.wesl_visit_collect.proofs.Ends.{listed_below}
use Rattle.wesl_visit.proofs.collectors.AttributeCollect.collect.Goals as goal

pub returns-clause-listed : goal.returns-clause-listed
returns-clause-listed g c = listed_below (attribute_view c.args.self.now) c.end.result (attribute_unpicked g.T.Kind.sought c.args.self.now) c.new-found.ensures c.in_attribute.ensures c.end.ensures.listed
