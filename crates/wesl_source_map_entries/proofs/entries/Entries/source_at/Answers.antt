use Rattle.wesl_source_map_entries.proofs.Sources.{sources_in-lent}
use Rattle.wesl_source_map_entries.proofs.entries.Entries.source_at.Goals as goal

pub returns : goal.returns
returns c = sources_in-lent c.args.path.now c.args.self.now.sources.entries c.get.result c.get.ensures.value
