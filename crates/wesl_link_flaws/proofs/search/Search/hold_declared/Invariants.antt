use Rattle.std.proofs.Common.{◌≡◌, take, Some, Contains}
use Rattle.wesl_link_symbols.specs.declared.ids.PathId.{PathId}
use Rattle.wesl_tree_base.specs.declared.ids.NameId.{NameId}
use Rattle.wesl_link_symbols.specs.Tables.{Declaration}
use Rattle.wesl_link_flaws.specs.Searching.{Grows, HasReached, IsSound}
use Rattle.wesl_link_flaws.proofs.search.Search.hold_declared.Given as goal

abbrev pub invariant-loop-declaration : goal.invariant-loop-declaration
invariant-loop-declaration l = record {
  sound : IsSound l.given l.self;
  grows : Grows l.fn.self l.self;
  held : (d : Declaration PathId NameId) → Contains (take l.declaration-index l.declaration-items) d → (n : NameId) → d.name ≡ Some n → HasReached l.self (record { path = l.table.path; name = n });
}
