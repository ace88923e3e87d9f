use Rattle.std.proofs.Common.{◌≡◌, ◌++◌, map, take}
use Rattle.wesl_validate_calls.specs.Made.{call_told}
use Rattle.wesl_validate_calls.specs.Verdicts.{numbered}
use Rattle.wesl_validate_misfits.specs.Placed.{calls_view}
use Rattle.wesl_validate_misfits.proofs.calls.add_calls.Given as goal

abbrev pub invariant-loop-call : goal.invariant-loop-call
invariant-loop-call l = calls_view l.calls.items ≡ calls_view l.initial.calls.items ++ numbered l.declaration (map call_told (take l.call-index l.found.items))
