use Rattle.wesl_tree_syntax.specs.View.{global_view}
use Rattle.wesl_visit_collect.proofs.Variants.{global_unpicked}
use Rattle.wesl_visit_collect.proofs.Ends.{listed_below}
use Rattle.wesl_visit.proofs.collectors.GlobalDeclarationCollect.collect.Goals as goal

pub returns-clause-listed : goal.returns-clause-listed
returns-clause-listed g c = listed_below (global_view c.args.self.now) c.end.result (global_unpicked g.T.Kind.sought c.args.self.now) c.new-found.ensures c.in_global.ensures c.end.ensures.listed
