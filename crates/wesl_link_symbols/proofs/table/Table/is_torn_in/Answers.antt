use Rattle.wesl_link_symbols.proofs.Seeking.{torn_by}
use Rattle.wesl_link_symbols.proofs.table.Table.is_torn_in.Goals as goal

pub returns-in-Some : goal.returns-in-Some
returns-in-Some c =
    torn_by c.args.self.now c.args.look_up c.in-Some.first c.find_import-in-Some.result c.is_some.result c.is_some.ensures c.in-Some.ensures.found c.find_import-in-Some.ensures.found
