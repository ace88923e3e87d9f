use Rattle.wesl_resolve_base.proofs.boxes.RefMutResolver.display_name.Goals as goal

pub display_name-requires-clause-asked : goal.display_name-requires-clause-asked
display_name-requires-clause-asked g c = c.requires.asked

pub display_name-requires-clause-rooted : goal.display_name-requires-clause-rooted
display_name-requires-clause-rooted g c = c.requires.rooted

pub returns-clause-named : goal.returns-clause-named
returns-clause-named g c = c.display_name.ensures.named

pub returns-clause-refused : goal.returns-clause-refused
returns-clause-refused g c = c.display_name.ensures.refused
