use Rattle.std.proofs.Common.{◌≡◌, ◌++◌, take, map}
use Rattle.wesl_link_split.specs.Split.{binder_of}
use Rattle.wesl_link_tables.proofs.table.add_imported.Given as goal

abbrev pub invariant-loop-import : goal.invariant-loop-import
invariant-loop-import l = l.binders.items ≡ l.initial.binders.items ++ map binder_of (take l.import-index l.imports)
