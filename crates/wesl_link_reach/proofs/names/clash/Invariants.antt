use Rattle.std.proofs.Common.{take, Contains}
use Rattle.wesl_link_symbols.specs.declared.ids.PathId.{PathId}
use Rattle.wesl_tree_base.specs.declared.ids.NameId.{NameId}
use Rattle.wesl_link_symbols.specs.declared.symbols.Import.{Import}
use Rattle.wesl_link_reach.specs.Clashing.{IsAlone}
use Rattle.wesl_link_reach.proofs.names.clash.Given as goal

abbrev pub invariant-loop-import : goal.invariant-loop-import
invariant-loop-import l = (i : Import PathId NameId) → Contains (take l.import-index l.import-items) i → IsAlone l.table i
