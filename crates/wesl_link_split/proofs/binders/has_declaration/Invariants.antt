use Rattle.std.proofs.Common.{◌≡◌, drop}
use Rattle.std.specs.List.{list_any}
use Rattle.wesl_link_split.proofs.binders.has_declaration.Given as goal

abbrev pub invariant-loop-binder : goal.invariant-loop-binder
invariant-loop-binder l = list_any (λ b. b.declares) l.binders ≡ list_any (λ b. b.declares) (drop l.binder-index l.binders)
