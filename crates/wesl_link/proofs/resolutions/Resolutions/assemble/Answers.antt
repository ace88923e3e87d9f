use Rattle.wesl_link.proofs.resolutions.Resolutions.assemble.Goals as goal

pub returns-clause-assembled : goal.returns-clause-assembled
returns-clause-assembled c = c.assemble.ensures.assembled

pub returns-clause-refused : goal.returns-clause-refused
returns-clause-refused c = c.assemble.ensures.refused
