use Rattle.wesl_source_map_entries.proofs.entries.Entries.try_clone.Goals as goal

pub returns-in-Ok-clause-equal : goal.returns-in-Ok-clause-equal
returns-in-Ok-clause-equal c = c.in-Ok.ensures.equal
