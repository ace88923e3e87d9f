-- Laws of the definitions, as functions of the crate cite them.
use Rattle.std.specs.Prelude.{◌≡◌, ◌↔◌, []}
use Rattle.wesl_tree_syntax.specs.Unit.{UnitView}
use Rattle.wesl_scope_numbers.specs.Faithful.{IsFaithful}
use Rattle.wesl_scope_clashes.specs.Clashes.{clashes}

-- nothing clashes exactly where the names mean what the numbers say
abbrev pub NoneIsFaithful : Type 0
NoneIsFaithful = (u : UnitView) → (clashes u ≡ []) ↔ IsFaithful u
