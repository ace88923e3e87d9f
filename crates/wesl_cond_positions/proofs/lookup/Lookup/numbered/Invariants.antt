use Rattle.std.proofs.Common.{◌≡◌, ℕ, ◌+◌, ◌<◌, ◌^◌, drop, length, map, true}
use Rattle.wesl_cond_choices.specs.Choices.{has}
use Rattle.wesl_cond_alive.specs.Views.{outline_view}
use Rattle.wesl_cond_alive.proofs.Turns.{verdicts}
use Rattle.wesl_cond_positions.specs.Found.{choice_in}
use Rattle.wesl_cond_positions.proofs.Numbers.{stays_at}
use Rattle.wesl_cond_positions.proofs.lookup.Lookup.numbered.Given as goal

abbrev pub invariant-loop-i : goal.invariant-loop-i
invariant-loop-i l = record {
  over : l.free.flags ≡ length l.self.flags.now;
  kept : (k : ℕ) → k < 2 ^ length l.self.flags.now → (m : ℕ) → l.i + m ≡ l.number
      → stays_at (verdicts (choice_in l.self k) true true (map outline_view l.nodes)) l.number ≡ stays_at (verdicts (choice_in l.self k) l.is_whole (has l.free k) (map outline_view (drop l.i l.nodes))) m;
}
