use Rattle.std.proofs.Common.{◌≡◌, ◌∙◌, ◌++◌, ap, ap₂, sym, false, ℕ, List, Some, get_or}
use Rattle.std.specs.Prelude.{flat_map, slice_get}
use Rattle.wesl_cond_choices.specs.declared.place.Place.TheVariants.{Always}
use Rattle.wesl_tree_base.specs.declared.ids.NameId.{NameId}
use Rattle.wesl_link_symbols.specs.declared.ids.PathId.{PathId}
use Rattle.wesl_link_symbols.specs.declared.symbols.Import.{Import}
use Rattle.wesl_link_split.specs.Grouped.{ids, kind_of, one_if}
use Rattle.wesl_link_split.specs.SightView.{sight_view}
use Rattle.wesl_link_split.specs.Split.{Binder, is_split}
use Rattle.wesl_link_split.proofs.Grouping.{held_at}
use Rattle.wesl_link_split.proofs.Lists.{taken_all}
use Rattle.wesl_link_split.proofs.Orders.{itself, kept_flat}
use Rattle.wesl_link_split.proofs.Passing.{flat_next}
use Rattle.wesl_link_split.proofs.sight.Sight.add_kinds.Goals as goal

-- what stands where a list has nothing
abbrev any_binder : Binder PathId NameId
any_binder = record { bound = record { 0 = 0 }; path = record { 0 = 0 }; item = record { 0 = 0 }; declares = false; stands = Always }

pub loop-binder-preserved : goal.loop-binder-preserved
loop-binder-preserved c =
    let bs : List (Binder PathId NameId) = c.args.binders.now in
    let all : List (Binder PathId NameId) = (sight_view c.args.self.now).binders in
    let i : ℕ = c.loop-binder.binder-index in
    let b : Binder PathId NameId = get_or bs i any_binder in
    let at : slice_get bs i ≡ Some b = held_at bs i b c.loop-binder-test.true (itself bs i any_binder c.loop-binder-test.true) in
    let is : c.is_split.result ≡ is_split ids all b.bound = c.is_split.ensures in
    c.in_ok-keep_kind.ensures
    ∙ (ap₂ (λ (l : List (Import PathId NameId)) y. l ++ one_if y (kind_of b)) c.loop-binder.invariant is
    ∙ sym (flat_next (λ d. one_if (is_split ids all d.bound) (kind_of d)) bs i b at))

pub returns : goal.returns
returns c =
    let bs : List (Binder PathId NameId) = c.args.binders.now in
    let all : List (Binder PathId NameId) = (sight_view c.args.self.now).binders in
    c.loop-binder.invariant
    ∙ (ap (flat_map (λ b. one_if (is_split ids all b.bound) (kind_of b))) (taken_all bs c.loop-binder.binder-index c.loop-binder-test.false)
    ∙ kept_flat (λ b. is_split ids all b.bound) kind_of bs)
