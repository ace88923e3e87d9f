use Rattle.wesl_link_symbols.specs.Index.{bound_of}
use Rattle.wesl_link_symbols.proofs.Indexing.{earlier_at}
use Rattle.wesl_link_symbols.proofs.table.Table.earlier_import_of.Goals as goal

pub returns : goal.returns
returns c = rw (← c.self.view_is) (earlier_at bound_of _ _ _ c.args.name c.args.index c.index.result.now c.self.invariant.indexed.bound (rw (← c.self.view_is) at c.requires) c.index.ensures)
