use Rattle.std.proofs.Common.{◌∙◌, sym}
use Rattle.wesl_link_split.specs.Grouped.{ids}
use Rattle.wesl_link_split.specs.SightView.{sight_view}
use Rattle.wesl_link_split.specs.Split.{seen}
use Rattle.wesl_link_split.proofs.Leads.{lead_several, lead_one}
use Rattle.wesl_link_split.proofs.sight.Sight.lead_by.Goals as goal

pub returns-then-is_sought_seen : goal.returns-then-is_sought_seen
returns-then-is_sought_seen c =
    lead_several c.args.is_import (seen ids (sight_view c.args.self.now) c.args.name c.args.from) c.args.first.now c.requires.first (sym c.is_sought_seen.ensures ∙ c.if-is_sought_seen.true)

pub returns : goal.returns
returns c =
    lead_one c.args.is_import (seen ids (sight_view c.args.self.now) c.args.name c.args.from) c.args.first.now c.requires.first (sym c.is_sought_seen.ensures ∙ c.if-is_sought_seen.false)
