use Rattle.std.proofs.Common.{map, take}
use Rattle.std.specs.List.{All}
use Rattle.wesl_tree.specs.Translation.{unit_view}
use Rattle.wesl_validate_builtins.specs.Builtins.{builtins_view}
use Rattle.wesl_validate_calls.specs.Made.{call_told}
use Rattle.wesl_validate_calls.specs.Misfits.{Passes}
use Rattle.wesl_validate_calls.proofs.fitting.misfit_among.Given as goal

abbrev pub invariant-loop-place : goal.invariant-loop-place
invariant-loop-place l = All (Passes (unit_view l.unit) (builtins_view l.callables.builtins.now)) (map call_told (take l.place l.calls.items))
