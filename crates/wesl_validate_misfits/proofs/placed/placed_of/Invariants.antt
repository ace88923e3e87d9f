use Rattle.std.proofs.Common.{take}
use Rattle.wesl_tree.specs.Translation.{unit_view}
use Rattle.wesl_validate_builtins.specs.Builtins.{builtins_view}
use Rattle.wesl_validate_misfits.specs.Placed.{ArePlacedAmong, calls_view}
use Rattle.wesl_validate_misfits.proofs.placed.placed_of.Given as goal

abbrev pub invariant-loop-entry : goal.invariant-loop-entry
invariant-loop-entry l = ArePlacedAmong (unit_view l.unit) (builtins_view l.callables.builtins.now) l.numbers.items (calls_view (take l.entry-index l.calls.items)) l.misfits.items
