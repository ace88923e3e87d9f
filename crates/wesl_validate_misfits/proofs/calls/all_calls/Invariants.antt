use Rattle.std.proofs.Common.{◌≡◌, ◌≤◌, length}
use Rattle.wesl_tree.specs.Translation.{unit_view}
use Rattle.wesl_validate_calls.specs.Verdicts.{calls_below}
use Rattle.wesl_validate_misfits.specs.Placed.{calls_view}
use Rattle.wesl_validate_misfits.proofs.calls.all_calls.Given as goal

abbrev pub invariant-loop-j : goal.invariant-loop-j
invariant-loop-j l = record {
  inside : l.j ≤ length l.declarations.items;
  calls : calls_view l.calls.items ≡ calls_below (unit_view l.unit) l.j;
}
