use Rattle.std.proofs.Common.{map, take}
use Rattle.wesl_tree.specs.Translation.{unit_view}
use Rattle.wesl_validate_builtins.specs.Builtins.{builtins_view}
use Rattle.wesl_validate_calls.specs.Made.{call_told}
use Rattle.wesl_validate_calls.specs.Verdicts.{AddsMisfits, numbered}
use Rattle.wesl_validate_calls.proofs.whole.add_misfits.Given as goal

abbrev pub invariant-loop-place : goal.invariant-loop-place
invariant-loop-place l = AddsMisfits (unit_view l.unit) (builtins_view l.callables.builtins.now) (numbered l.declaration (map call_told (take l.place l.calls.items))) l.initial.misfits.items l.misfits.items
