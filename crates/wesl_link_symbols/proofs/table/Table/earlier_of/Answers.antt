use Rattle.wesl_link_symbols.specs.Index.{name_of}
use Rattle.wesl_link_symbols.proofs.Indexing.{earlier_at}
use Rattle.wesl_link_symbols.proofs.table.Table.earlier_of.Goals as goal

pub returns : goal.returns
returns c = rw (← c.self.view_is) (earlier_at name_of _ _ _ c.args.name c.args.index c.index.result.now c.self.invariant.indexed.named (rw (← c.self.view_is) at c.requires) c.index.ensures)
