use Rattle.std.proofs.Common.{◌≤◌, ◌-◌, ◌^◌, length}
use Rattle.wesl_link_flaws.specs.Searching.{Grows, IsSound, ModulesDone}
use Rattle.wesl_link_flaws.proofs.search.Search.take_modules.Given as goal

abbrev pub invariant-modules : goal.invariant-modules
invariant-modules l = record {
  sound : IsSound l.given l.self;
  grows : Grows l.fn.self l.self;
  within : l.place ≤ length l.self.entered.list.items;
  done : ModulesDone l.given l.self l.place;
}

abbrev pub decreases-modules : goal.decreases-modules
decreases-modules l = 2 ^ 64 - l.place
