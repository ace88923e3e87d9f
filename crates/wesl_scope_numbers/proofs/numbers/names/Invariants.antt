use Rattle.std.proofs.Common.{◌≡◌, map, take}
use Rattle.wesl_scope_meanings.specs.Keys.{flat, key_name}
use Rattle.wesl_scope_numbers.proofs.numbers.names.Given as goal

abbrev pub invariant-loop-key : goal.invariant-loop-key
invariant-loop-key l = l.names ≡ map key_name (map flat (take l.key-index l.keys))
