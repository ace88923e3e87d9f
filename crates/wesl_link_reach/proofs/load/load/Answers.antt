use Rattle.std.proofs.Common.{inl, inr}
use Rattle.wesl_link_reach.proofs.load.load.Goals as goal

pub fetch-requires-clause-ready_path : goal.fetch-requires-clause-ready_path
fetch-requires-clause-ready_path g c = elim c.requires.can [ inl can ↦ can | inr there ↦ (let (t, at) = there in absurd (c.in-None.ensures.none t at)) ]
