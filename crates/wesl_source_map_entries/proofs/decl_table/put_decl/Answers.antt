use Rattle.std.proofs.Common.{string_bytes}
use Rattle.wesl_source_map_entries.proofs.Items.{items_in-updates}
use Rattle.wesl_source_map_entries.proofs.decl_table.put_decl.Goals as goal

pub returns-clause-written : goal.returns-clause-written
returns-clause-written c =
    items_in-updates (string_bytes c.args.name) c.args.decls.now c.insert.new.self (c.args.path, c.args.item) c.in_ok-insert.ensures.updates
