use Rattle.wesl_link_reach.proofs.follow.answer_at.Goals as goal

pub unreachable-requires : goal.unreachable-requires
unreachable-requires c = let (t, at) = c.requires.there in c.in-None.ensures.none t at
