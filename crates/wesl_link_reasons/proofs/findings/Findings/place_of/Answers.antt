use Rattle.wesl_link_reasons.proofs.Adding.{place_none}
use Rattle.wesl_link_reasons.proofs.findings.Findings.place_of.Goals as goal

pub returns-clause-none : goal.returns-clause-none
returns-clause-none c = place_none _ _ c.args.node c.value_at.result c.requires c.value_at.ensures.none
