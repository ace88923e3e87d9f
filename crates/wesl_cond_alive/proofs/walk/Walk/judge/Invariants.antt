use Rattle.std.proofs.Common.{◌≡◌, ◌++◌, drop, false, map, true}
use Rattle.wesl_cond_alive.proofs.Outlines.{adding}
use Rattle.wesl_cond_alive.specs.Walk.{branches_of, places_of, set_count}
use Rattle.wesl_cond_alive.specs.Views.{here_view, outline_view, state_of}
use Rattle.wesl_cond_alive.proofs.walk.Walk.judge.Given as goal

abbrev pub invariant-loop-i : goal.invariant-loop-i
invariant-loop-i l = record {
  noted : l.self.is_refused ≡ false → l.initial.self.is_refused ≡ false;
  found : l.self.is_refused ≡ false → adding (branches_of l.holder l.is_whole (map outline_view (drop l.i l.nodes))) (state_of l.self) ≡ adding (branches_of l.holder true (map outline_view l.nodes)) (state_of l.initial.self);
  told : l.self.is_refused ≡ false
      → map here_view l.places.items ++ places_of l.holder (set_count (state_of l.self)) l.is_whole (map outline_view (drop l.i l.nodes)) ≡ places_of l.holder (set_count (state_of l.initial.self)) true (map outline_view l.nodes);
}
