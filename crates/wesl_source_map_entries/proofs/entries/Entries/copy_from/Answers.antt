use Rattle.std.proofs.Common.{rules}
use Rattle.wesl_source_map_entries.proofs.entries.Entries.copy_from.Goals as goal

pub returns-clause-equal : goal.returns-clause-equal
returns-clause-equal c = search rules
