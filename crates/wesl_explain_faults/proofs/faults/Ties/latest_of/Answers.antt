use Rattle.wesl_link_symbols.proofs.Indexing.{last_of}
use Rattle.wesl_explain_faults.specs.Gathering.{wrong_in}
use Rattle.wesl_explain_faults.proofs.faults.Ties.latest_of.Goals as goal

pub returns : goal.returns
returns c = last_of wrong_in _ _ _ _ c.args.wrong c.value_at.result c.requires c.value_at.ensures.found c.value_at.ensures.none
