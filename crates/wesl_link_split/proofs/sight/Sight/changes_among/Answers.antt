use Rattle.std.proofs.Common.{List, subst}
use Rattle.wesl_cond_choices.specs.declared.place.Place.{Place}
use Rattle.wesl_cond_covers.specs.SightsView.{AreSightsOf}
use Rattle.wesl_link_split.specs.Grouped.{places_of}
use Rattle.wesl_link_split.specs.SightView.{sight_view}
use Rattle.wesl_link_split.proofs.Anywhere.{if_ok}
use Rattle.wesl_link_split.proofs.sight.Sight.changes_among.Goals as goal

pub returns : goal.returns
returns c =
    let held = subst (λ (l : List Place). AreSightsOf (sight_view c.args.self.now).alive l c.in_ok-sights.sights) c.in_ok-add_places.ensures c.in_ok-sights.ensures in
    if_ok c.changes.result (λ v h. h (places_of c.args.group.now) held) c.changes.ensures
