use Rattle.std.proofs.Common.{◌≡◌, ◌-◌, length, take}
use Rattle.std.specs.Prelude.{flat_map, if◌then◌else◌}
use Rattle.wesl_cond_choices.specs.declared.place.Place.TheVariants.{Always}
use Rattle.wesl_link_split.specs.Grouped.{ids, one_if}
use Rattle.wesl_link_split.specs.SightView.{sight_view}
use Rattle.wesl_link_split.specs.Split.{sees}
use Rattle.wesl_link_split.proofs.sight.Sight.add_seen.Given as goal

abbrev pub invariant-binders : goal.invariant-binders
invariant-binders l = l.found.items ≡ flat_map (λ b. one_if (sees ids (sight_view l.self) l.from (if l.is_split then b.stands else Always)) b) (take l.i l.group)

abbrev pub decreases-binders : goal.decreases-binders
decreases-binders l = length l.group - l.i
