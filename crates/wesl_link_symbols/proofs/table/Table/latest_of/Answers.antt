use Rattle.wesl_link_symbols.specs.Index.{name_of}
use Rattle.wesl_link_symbols.proofs.Indexing.{last_of}
use Rattle.wesl_link_symbols.proofs.table.Table.latest_of.Goals as goal

pub returns : goal.returns
returns c = rw (← c.self.view_is) (last_of name_of _ _ _ _ c.args.name c.value_at.result c.self.invariant.indexed.named c.value_at.ensures.found c.value_at.ensures.none)
