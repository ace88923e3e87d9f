use Rattle.wesl_link_reach.proofs.run.unclear_in_symbol.Goals as goal

pub unreachable-requires : goal.unreachable-requires
unreachable-requires c = let (t, at) = c.requires.there in c.in-None.ensures.none t at
