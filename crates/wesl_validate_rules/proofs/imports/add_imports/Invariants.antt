use Rattle.std.proofs.Common.{◌≡◌, ◌++◌, take}
use Rattle.std.specs.Prelude.{flat_map}
use Rattle.wesl_validate_rules.proofs.Gathering.{imported_by}
use Rattle.wesl_validate_rules.proofs.imports.add_imports.Given as goal

abbrev pub invariant-loop-import : goal.invariant-loop-import
invariant-loop-import l = l.numbers.items ≡ l.initial.numbers.items ++ flat_map imported_by (take l.import-index l.import-items)
