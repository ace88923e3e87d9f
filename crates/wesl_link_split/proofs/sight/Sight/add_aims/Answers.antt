use Rattle.std.proofs.Common.{◌≡◌, ◌++◌, ◌∷◌, ◌+◌, [], false, get_or, sym, subst, Some, ℕ, List, take}
use Rattle.std.specs.Prelude.{slice_get}
use Rattle.wesl_cond_choices.specs.declared.place.Place.TheVariants.{Always}
use Rattle.wesl_tree_base.specs.declared.ids.NameId.{NameId}
use Rattle.wesl_link_symbols.specs.declared.ids.PathId.{PathId}
use Rattle.wesl_link_split.specs.Noted.{AreAskers}
use Rattle.wesl_link_split.specs.SightView.{sight_view}
use Rattle.wesl_link_split.specs.Split.{Binder}
use Rattle.wesl_link_split.proofs.Grouping.{get_contained, held_at}
use Rattle.wesl_link_split.proofs.Lists.{take_one}
use Rattle.wesl_link_split.proofs.Noting.{has_asker}
use Rattle.wesl_link_split.proofs.Orders.{itself}
use Rattle.wesl_link_split.proofs.sight.Sight.add_aims.Goals as goal

-- what stands where a list has nothing
abbrev any_binder : Binder PathId NameId
any_binder = record { bound = record { 0 = 0 }; path = record { 0 = 0 }; item = record { 0 = 0 }; declares = false; stands = Always }

pub loop-binder-preserved : goal.loop-binder-preserved
loop-binder-preserved c =
    let s = sight_view c.args.self.now in
    let g : List (Binder PathId NameId) = c.args.group.now in
    let i : ℕ = c.loop-binder.binder-index in
    let b : Binder PathId NameId = get_or g i any_binder in
    let is : b ≡ get_or g i b = itself g i any_binder c.loop-binder-test.true in
    let at : slice_get g i ≡ Some b = held_at g i b c.loop-binder-test.true is in
    let more : take (i + 1) g ≡ take i g ++ b ∷ [] = take_one g i any_binder c.loop-binder-test.true in
    record {
      noted = subst (λ (l : List (Binder PathId NameId)). AreAskers s l c.add_aim.new.askers) (sym more) (c.in_ok-add_aim.ensures.noted (take i g) c.loop-binder.invariant.noted);
      aims = c.in_ok-add_aim.ensures.aims (take i g) c.loop-binder.invariant.noted (has_asker s g i b (c.requires.group b (get_contained g i b at)) at) c.loop-binder.invariant.aims;
    }
