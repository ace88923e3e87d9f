use Rattle.std.proofs.Common.{◌≡◌, drop}
use Rattle.std.specs.Prelude.{not}
use Rattle.std.specs.List.{filter}
use Rattle.wesl_link_split.proofs.binders.first_import.Given as goal

abbrev pub invariant-loop-binder : goal.invariant-loop-binder
invariant-loop-binder l = filter (λ b. not b.declares) l.binders ≡ filter (λ b. not b.declares) (drop l.binder-index l.binders)
