use Rattle.std.proofs.Common.{◌≡◌, take}
use Rattle.wesl_link_tables.specs.Parts.{settled_in}
use Rattle.wesl_link_tables.proofs.table.add_settled.Given as goal

abbrev pub invariant-loop-import : goal.invariant-loop-import
invariant-loop-import l = l.found.items ≡ settled_in l.scope (take l.import-index l.imports)
