use Rattle.std.proofs.Common.{◌≡◌, take, flat_map}
use Rattle.wesl_link_symbols.specs.RowView.{own_imports}
use Rattle.wesl_link_symbols.proofs.table.add_declared.Given as goal

abbrev pub invariant-loop-declaration : goal.invariant-loop-declaration
invariant-loop-declaration l = l.found.items ≡ flat_map (own_imports l.path) (take l.declaration-index l.declarations)
