use Rattle.std.proofs.Common.{◌++◌, List, map, string_bytes, take}
use Rattle.wesl_tree_names.specs.Path.{Text}
use Rattle.wesl_validate_builtins.specs.Builtins.{AreKept}
use Rattle.wesl_validate_builtins.proofs.builtins.keep_all.Given as goal

abbrev pub invariant-loop-name : goal.invariant-loop-name
invariant-loop-name l = (before : List Text) → AreKept before l.initial.kept → AreKept (before ++ map string_bytes (take l.name-index l.names.items)) l.kept
