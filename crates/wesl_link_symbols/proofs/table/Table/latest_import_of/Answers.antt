use Rattle.wesl_link_symbols.specs.Index.{bound_of}
use Rattle.wesl_link_symbols.proofs.Indexing.{last_of}
use Rattle.wesl_link_symbols.proofs.table.Table.latest_import_of.Goals as goal

pub returns : goal.returns
returns c = rw (← c.self.view_is) (last_of bound_of _ _ _ _ c.args.name c.value_at.result c.self.invariant.indexed.bound c.value_at.ensures.found c.value_at.ensures.none)
