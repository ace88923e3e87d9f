use Rattle.wesl_link_symbols.proofs.Indexing.{earlier_at}
use Rattle.wesl_explain_faults.specs.Gathering.{wrong_in}
use Rattle.wesl_explain_faults.proofs.faults.Ties.earlier_of.Goals as goal

pub returns : goal.returns
returns c = earlier_at wrong_in _ _ _ c.args.wrong c.args.index c.index.result.now c.requires.ties c.requires.has c.index.ensures
