use Rattle.std.proofs.Common.{◌≡◌, ◌-◌, ◌<◌, ℕ, false, length}
use Rattle.std.specs.Prelude.{◌&&◌, if◌then◌else◌, slice_get, Some}
use Rattle.wesl_cond_choices.specs.declared.place.Place.TheVariants.{Always}
use Rattle.wesl_tree_base.specs.declared.ids.NameId.{NameId}
use Rattle.wesl_link_symbols.specs.declared.ids.PathId.{PathId}
use Rattle.wesl_link_split.specs.Grouped.{ids, may_lead}
use Rattle.wesl_link_split.specs.SightView.{sight_view}
use Rattle.wesl_link_split.specs.Split.{Binder, sees}
use Rattle.wesl_link_split.proofs.sight.Sight.first_seen.Given as goal

abbrev pub invariant-binders : goal.invariant-binders
invariant-binders l =
    (k : ℕ) (b : Binder PathId NameId) → k < l.i → slice_get l.group k ≡ Some b
    → (may_lead l.is_import b && sees ids (sight_view l.self) l.from (if l.is_split then b.stands else Always)) ≡ false

abbrev pub decreases-binders : goal.decreases-binders
decreases-binders l = length l.group - l.i
