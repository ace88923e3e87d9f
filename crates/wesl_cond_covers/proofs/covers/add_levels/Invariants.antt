use Rattle.std.proofs.Common.{◌<◌, ◌-◌, ◌^◌}
use Rattle.wesl_cond_covers.specs.LevelView.{AreLevelsOf}
use Rattle.wesl_cond_covers.proofs.covers.add_levels.Given as goal

abbrev pub invariant-loop-span : goal.invariant-loop-span
invariant-loop-span l = record {
  some : 0 < l.span;
  levels : AreLevelsOf l.alive l.places l.levels.items;
}

abbrev pub decreases-loop-span : goal.decreases-loop-span
decreases-loop-span l = 2 ^ 64 - l.span
