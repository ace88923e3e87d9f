use Rattle.std.proofs.Common.{rules}
use Rattle.wesl_source_map_entries.proofs.entries.Entries.put_source.Goals as goal

pub returns-clause-written : goal.returns-clause-written
returns-clause-written c = search rules
