use Rattle.std.proofs.Common.{◌≤◌, ◌-◌, ◌^◌, option_copied}
use Rattle.wesl_cond_covers.specs.LevelView.{LevelsPass}
use Rattle.wesl_cond_covers.proofs.covers.next.Given as goal

abbrev pub invariant-loop-at : goal.invariant-loop-at
invariant-loop-at l = record {
  begun : l.index ≤ l.at;
  ahead : l.at ≤ l.end;
  passed : LevelsPass l.levels (option_copied l.set) l.index l.at;
  more : LevelsPass l.levels (option_copied l.set) l.at l.end;
}

abbrev pub decreases-loop-at : goal.decreases-loop-at
decreases-loop-at l = 2 ^ 64 - l.at
