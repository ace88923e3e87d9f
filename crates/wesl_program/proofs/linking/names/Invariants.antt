use Rattle.std.proofs.Common.{◌≡◌, map, take, string_bytes}
use Rattle.wesl_tree_base.specs.Borrowed.{texts}
use Rattle.wesl_program.proofs.linking.names.Given as goal

abbrev pub invariant-loop-name : goal.invariant-loop-name
invariant-loop-name l = texts l.names.items ≡ map string_bytes (take l.name-index l.keep)
