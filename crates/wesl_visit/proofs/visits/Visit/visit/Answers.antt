use Rattle.std.proofs.Common.{◌∙◌}
use Rattle.wesl_visit_collect.proofs.Joined.{outermost_found}
use Rattle.wesl_visit.proofs.visits.Visit.visit.Goals as goal

pub returns-clause-listed : goal.returns-clause-listed
returns-clause-listed g c = c.in_ok-nodes.ensures.listed ∙ outermost_found g.T.Kind.sought (g.Self.Holder.tree c.args.self.now)
