use Rattle.std.proofs.Common.{◌≤◌, length}
use Rattle.wesl_tree.specs.Translation.{unit_view}
use Rattle.wesl_validate_builtins.specs.Builtins.{builtins_view}
use Rattle.wesl_validate_calls.specs.Verdicts.{AreMisfitsAmong, calls_below}
use Rattle.wesl_validate_calls.proofs.whole.misfits_of.Given as goal

abbrev pub invariant-loop-j : goal.invariant-loop-j
invariant-loop-j l = record {
  inside : l.j ≤ length l.declarations.items;
  misfits : AreMisfitsAmong (unit_view l.unit) (builtins_view l.callables.builtins.now) (calls_below (unit_view l.unit) l.j) l.misfits.items;
}
