use Rattle.wesl_link_symbols.proofs.Lists.{contains_nil}
use Rattle.wesl_link_reasons.proofs.Taking.{ok_map, asks_at}
use Rattle.wesl_link_reasons.proofs.map.Map.asked_at.Goals as goal

pub returns-in-Some : goal.returns-in-Some
returns-in-Some c = ok_map c.asked_from.result _ _ (λ v same. asks_at c.args.self.now c.requires c.args.path c.args.name c.in-Some.table.now _ c.in-Some.ensures.found same) c.asked_from.ensures

pub returns-in-None : goal.returns-in-None
returns-in-None c = λ l. (λ h. absurd (contains_nil l (rw c.new.ensures.items at h)), λ (t, at, asks). absurd (c.in-None.ensures.none t at))
