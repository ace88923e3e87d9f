use Rattle.std.proofs.Common.{◌≡◌, ◌++◌, ◌-◌, false, List, drop, length}
use Rattle.wesl_cond_choices.specs.declared.place.Place.{Place}
use Rattle.wesl_cond_covers.specs.Sight.{changes_from}
use Rattle.wesl_cond_covers.specs.SightsView.{AreSightsOf}
use Rattle.wesl_cond_covers.proofs.sights.Sights.add_changes.Given as goal

abbrev pub invariant-places : goal.invariant-places
invariant-places l =
    (places : List Place) → AreSightsOf l.alive places l.self
    → changes_from l.alive l.from false 0 places ≡ l.changes.items ++ changes_from l.alive l.from l.is_seeing l.i (drop l.i places)

abbrev pub decreases-places : goal.decreases-places
decreases-places l = length l.self.places.items - l.i
