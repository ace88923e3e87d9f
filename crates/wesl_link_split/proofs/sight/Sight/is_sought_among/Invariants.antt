use Rattle.std.proofs.Common.{◌≡◌, drop}
use Rattle.std.specs.Prelude.{◌&&◌}
use Rattle.std.specs.List.{list_any}
use Rattle.wesl_link_split.specs.Grouped.{ids, kind_of}
use Rattle.wesl_link_split.specs.SightView.{sight_view}
use Rattle.wesl_link_split.specs.Split.{sees}
use Rattle.wesl_link_targets.specs.Sought.{is_sought}
use Rattle.wesl_link_split.proofs.sight.Sight.is_sought_among.Given as goal

abbrev pub invariant-loop-binder : goal.invariant-loop-binder
invariant-loop-binder l =
    list_any (λ b. sees ids (sight_view l.self) l.from b.stands && is_sought l.sought (kind_of b)) l.group
    ≡ list_any (λ b. sees ids (sight_view l.self) l.from b.stands && is_sought l.sought (kind_of b)) (drop l.binder-index l.group)
