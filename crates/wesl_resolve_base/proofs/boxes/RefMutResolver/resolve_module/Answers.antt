use Rattle.wesl_resolve_base.proofs.boxes.RefMutResolver.resolve_module.Goals as goal

pub resolve_module-requires-clause-asked : goal.resolve_module-requires-clause-asked
resolve_module-requires-clause-asked g c = c.requires.asked

pub resolve_module-requires-clause-rooted : goal.resolve_module-requires-clause-rooted
resolve_module-requires-clause-rooted g c = c.requires.rooted

pub returns-clause-handed : goal.returns-clause-handed
returns-clause-handed g c = c.resolve_module.ensures.handed

pub returns-clause-refused : goal.returns-clause-refused
returns-clause-refused g c = c.resolve_module.ensures.refused

pub returns-clause-same : goal.returns-clause-same
returns-clause-same g c = record { units = c.resolve_module.ensures.same.units; faults = c.resolve_module.ensures.same.faults; sources = c.resolve_module.ensures.same.sources; missing = c.resolve_module.ensures.same.missing; names = c.resolve_module.ensures.same.names }

pub returns-clause-stays_ready : goal.returns-clause-stays_ready
returns-clause-stays_ready g c = c.resolve_module.ensures.stays_ready
