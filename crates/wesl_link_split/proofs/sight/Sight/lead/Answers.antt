use Rattle.std.proofs.Common.{◌∙◌, sym}
use Rattle.std.specs.List.{filter}
use Rattle.wesl_link_split.specs.Grouped.{ids, may_lead}
use Rattle.wesl_link_split.specs.SightView.{sight_view}
use Rattle.wesl_link_split.specs.Split.{seen}
use Rattle.wesl_link_split.proofs.Leads.{lead_nothing}
use Rattle.wesl_link_split.proofs.sight.Sight.lead.Goals as goal

pub lead_by-requires-clause-first : goal.lead_by-requires-clause-first
lead_by-requires-clause-first c = sym c.in-Some.is ∙ c.first_seen.ensures

pub returns-in-None : goal.returns-in-None
returns-in-None c =
    lead_nothing (filter (may_lead c.args.is_import) (seen ids (sight_view c.args.self.now) c.args.name c.args.from)) (sym c.in-None.is ∙ c.first_seen.ensures)
