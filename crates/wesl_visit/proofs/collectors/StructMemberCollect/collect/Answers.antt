use Rattle.std.proofs.Common.{refl}
use Rattle.wesl_tree_syntax.specs.View.{member_view}
use Rattle.wesl_visit_collect.proofs.Ends.{listed_below}
use Rattle.wesl_visit.proofs.collectors.StructMemberCollect.collect.Goals as goal

pub returns-clause-listed : goal.returns-clause-listed
returns-clause-listed g c = listed_below (member_view c.args.self.now) c.end.result refl c.new-found.ensures c.in_member.ensures c.end.ensures.listed
