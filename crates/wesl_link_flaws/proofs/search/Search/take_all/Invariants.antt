use Rattle.std.proofs.Common.{◌≤◌, ◌-◌, ◌^◌, length}
use Rattle.wesl_link_flaws.specs.Searching.{Grows, IsSound, ModulesDone, SymbolsDone}
use Rattle.wesl_link_flaws.proofs.search.Search.take_all.Given as goal

abbrev pub invariant-turns : goal.invariant-turns
invariant-turns l = record {
  sound : IsSound l.given l.self;
  grows : Grows l.fn.self l.self;
  within : l.place ≤ length l.self.entered.list.items;
  modules : ModulesDone l.given l.self l.place;
  turned : l.turn ≤ length l.self.symbols.list.items;
  symbols : SymbolsDone l.given l.self l.turn;
}

abbrev pub decreases-turns : goal.decreases-turns
decreases-turns l = 2 ^ 64 - l.turn
