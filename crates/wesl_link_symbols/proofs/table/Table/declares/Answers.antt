use Rattle.wesl_link_symbols.proofs.Indexing.{declares_is}
use Rattle.wesl_link_symbols.proofs.table.Table.declares.Goals as goal

pub returns : goal.returns
returns c = declares_is c.args.self.now c.args.name c.latest_of.result c.is_some.result c.latest_of.ensures c.is_some.ensures
