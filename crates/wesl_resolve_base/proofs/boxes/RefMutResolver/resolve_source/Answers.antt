use Rattle.wesl_resolve_base.proofs.boxes.RefMutResolver.resolve_source.Goals as goal

pub resolve_source-requires-clause-asked : goal.resolve_source-requires-clause-asked
resolve_source-requires-clause-asked g c = c.requires.asked

pub resolve_source-requires-clause-rooted : goal.resolve_source-requires-clause-rooted
resolve_source-requires-clause-rooted g c = c.requires.rooted

pub returns-clause-given : goal.returns-clause-given
returns-clause-given g c = c.resolve_source.ensures.given

pub returns-clause-refused : goal.returns-clause-refused
returns-clause-refused g c = c.resolve_source.ensures.refused

pub returns-clause-same : goal.returns-clause-same
returns-clause-same g c = record { units = c.resolve_source.ensures.same.units; faults = c.resolve_source.ensures.same.faults; sources = c.resolve_source.ensures.same.sources; missing = c.resolve_source.ensures.same.missing; names = c.resolve_source.ensures.same.names }

pub returns-clause-stays_ready : goal.returns-clause-stays_ready
returns-clause-stays_ready g c = c.resolve_source.ensures.stays_ready
