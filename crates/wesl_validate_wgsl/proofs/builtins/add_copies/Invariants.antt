use Rattle.std.proofs.Common.{◌≡◌, ◌++◌, map, string_bytes, take}
use Rattle.wesl_tree_base.specs.Borrowed.{texts}
use Rattle.wesl_validate_wgsl.proofs.builtins.add_copies.Given as goal

abbrev pub invariant-loop-i : goal.invariant-loop-i
invariant-loop-i l = map string_bytes l.copies.items ≡ map string_bytes l.initial.copies.items ++ texts (take l.i l.names)
