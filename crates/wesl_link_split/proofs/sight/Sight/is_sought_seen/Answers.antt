use Rattle.std.proofs.Common.{◌∙◌}
use Rattle.wesl_link_split.specs.SightView.{sight_view}
use Rattle.wesl_link_split.proofs.Leads.{by_row, by_group}
use Rattle.wesl_link_split.proofs.sight.Sight.is_sought_seen.Goals as goal

pub has-requires : goal.has-requires
has-requires c = (c.args.self.now.sorted c.in-Some.targets c.in-Some.is).0

pub returns-in-Some : goal.returns-in-Some
returns-in-Some c =
    c.has.ensures ∙ by_row (sight_view c.args.self.now) c.args.name c.args.from c.args.sought.now c.requires _ (c.args.self.now.sorted c.in-Some.targets c.in-Some.is).1

pub returns-in-None : goal.returns-in-None
returns-in-None c = c.is_sought_among.ensures ∙ by_group (sight_view c.args.self.now) c.args.name c.args.from c.args.sought.now c.requires c.group.result.now c.group.ensures
