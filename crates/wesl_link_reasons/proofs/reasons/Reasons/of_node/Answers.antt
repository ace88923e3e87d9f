use Rattle.wesl_link_reasons.proofs.Ending.{told_by}
use Rattle.wesl_link_reasons.proofs.reasons.Reasons.of_node.Goals as goal

pub returns-in_ok-chain_to-in-Some-clause-told : goal.returns-in_ok-chain_to-in-Some-clause-told
returns-in_ok-chain_to-in-Some-clause-told c =
    told_by _ _ _ c.args.node _ _ c.deref.ensures.value c.self.view_is c.in-Some.ensures.found c.in_ok-chain_to-in-Some.ensures.told
