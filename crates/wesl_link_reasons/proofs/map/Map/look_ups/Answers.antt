use Rattle.wesl_link_reasons.proofs.map.Map.look_ups.Goals as goal

pub returns-in-Module : goal.returns-in-Module
returns-in-Module c = rw c.in-Module.is c.asked_at.ensures

pub returns-in-Item : goal.returns-in-Item
returns-in-Item c = rw c.in-Item.is c.asked_at-in-Item.ensures
