use Rattle.wesl_source_map_entries.proofs.Sources.{sources_in-updates}
use Rattle.wesl_source_map_entries.proofs.source_table.put_source.Goals as goal

pub returns-clause-written : goal.returns-clause-written
returns-clause-written c =
    let updates = c.in_ok-insert.ensures.updates in
    sources_in-updates c.args.path (c.args.display, c.args.text) c.args.sources.now.entries c.insert.new.self.entries updates.1 updates.3
