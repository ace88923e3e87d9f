use Rattle.std.proofs.Common.{◌≡◌, drop}
use Rattle.wesl_tree_base.specs.Borrowed.{texts}
use Rattle.wesl_validate_builtins.specs.Builtins.{is_among}
use Rattle.wesl_validate_wgsl.proofs.builtins.is_one_of.Given as goal

abbrev pub invariant-loop-i : goal.invariant-loop-i
invariant-loop-i l = is_among l.name (texts l.names) ≡ is_among l.name (texts (drop l.i l.names))
