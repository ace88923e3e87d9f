use Rattle.std.proofs.Common.{◌≡◌, ◌++◌, take}
use Rattle.std.specs.Prelude.{flat_map}
use Rattle.wesl_validate_rules.proofs.Gathering.{declared_by}
use Rattle.wesl_validate_rules.proofs.plain.add_declarations.Given as goal

abbrev pub invariant-loop-declaration : goal.invariant-loop-declaration
invariant-loop-declaration l = l.numbers.items ≡ l.initial.numbers.items ++ flat_map declared_by (take l.declaration-index l.declaration-items)
