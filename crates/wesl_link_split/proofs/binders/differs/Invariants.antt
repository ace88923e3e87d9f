use Rattle.std.proofs.Common.{◌≡◌, drop}
use Rattle.std.specs.Prelude.{not}
use Rattle.std.specs.List.{list_any}
use Rattle.wesl_link_split.specs.Grouped.{ids}
use Rattle.wesl_link_split.specs.Split.{same_target}
use Rattle.wesl_link_split.proofs.binders.differs.Given as goal

abbrev pub invariant-loop-binder : goal.invariant-loop-binder
invariant-loop-binder l = list_any (λ b. not (same_target ids l.first b)) l.binders ≡ list_any (λ b. not (same_target ids l.first b)) (drop l.binder-index l.binders)
