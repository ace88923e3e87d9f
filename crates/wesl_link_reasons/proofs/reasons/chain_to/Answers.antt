use Rattle.wesl_link_reasons.proofs.reasons.chain_to.Goals as goal

pub returns-clause-told : goal.returns-clause-told
returns-clause-told c = λ f at. rw c.reverse.ensures.items (c.in_ok-add_askers.ensures.told f at)

pub returns-clause-once : goal.returns-clause-once
returns-clause-once c = rw c.reverse.ensures.items c.in_ok-add_askers.ensures.once
