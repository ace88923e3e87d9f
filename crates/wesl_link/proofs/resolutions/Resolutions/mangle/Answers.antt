use Rattle.wesl_link.proofs.resolutions.Resolutions.mangle.Goals as goal

pub returns-clause-mangled : goal.returns-clause-mangled
returns-clause-mangled g c = c.mangle.ensures.mangled

pub returns-clause-recorded : goal.returns-clause-recorded
returns-clause-recorded g c = c.mangle.ensures.recorded

pub returns-clause-same : goal.returns-clause-same
returns-clause-same g c = c.mangle.ensures.same

pub returns-clause-same_variants : goal.returns-clause-same_variants
returns-clause-same_variants g c = c.mangle.ensures.same_variants

pub returns-clause-refused : goal.returns-clause-refused
returns-clause-refused g c = c.mangle.ensures.refused
