use Rattle.std.proofs.Common.{◌≡◌, take}
use Rattle.std.specs.Prelude.{flat_map}
use Rattle.wesl_link_split.specs.Grouped.{ids, kind_of, one_if}
use Rattle.wesl_link_split.specs.SightView.{sight_view}
use Rattle.wesl_link_split.specs.Split.{is_split}
use Rattle.wesl_link_split.proofs.sight.Sight.add_kinds.Given as goal

abbrev pub invariant-loop-binder : goal.invariant-loop-binder
invariant-loop-binder l = l.kinds.items ≡ flat_map (λ b. one_if (is_split ids (sight_view l.self).binders b.bound) (kind_of b)) (take l.binder-index l.binders)
