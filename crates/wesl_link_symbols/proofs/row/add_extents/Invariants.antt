use Rattle.wesl_link_symbols.specs.Row.{AreExtents}
use Rattle.wesl_link_symbols.proofs.row.add_extents.Given as goal

abbrev pub invariant-loop-index : goal.invariant-loop-index
invariant-loop-index l = AreExtents l.imports l.index l.extents.entries
