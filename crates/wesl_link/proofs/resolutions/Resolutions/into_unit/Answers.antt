use Rattle.wesl_link.proofs.resolutions.Resolutions.into_unit.Goals as goal

pub returns-clause-assembled : goal.returns-clause-assembled
returns-clause-assembled c = c.into_unit.ensures.assembled

pub returns-clause-refused : goal.returns-clause-refused
returns-clause-refused c = c.into_unit.ensures.refused
