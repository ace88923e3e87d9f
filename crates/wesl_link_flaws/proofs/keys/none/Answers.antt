use Rattle.wesl_link_flaws.proofs.Keeping.{same_none, distinct_none}
use Rattle.wesl_link_flaws.proofs.keys.none.Goals as goal

pub returns-clause-keys : goal.returns-clause-keys
returns-clause-keys g c = record { same = same_none _ _ c.new.ensures.items c.new-2.ensures.empty; once = distinct_none _ c.new.ensures.items }
