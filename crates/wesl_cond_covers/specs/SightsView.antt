-- Places in a row, as the code holds them.
use Rattle.std.specs.Prelude.{◌≡◌, List}
use Rattle.wesl_cond_choices.specs.declared.place.Place.{Place}
use Rattle.wesl_cond_covers.specs.CoversView.{AreCoversOf}
use Rattle.wesl_cond_covers.specs.declared.sights.Sights.{Sights}

-- they are these places, with the unions of the choices that keep them
pub record AreSightsOf (alive : List (List Place)) (places : List Place) (s : Sights) : Type 0 where
  pub held : s.places.items ≡ places
  pub covered : AreCoversOf alive places s.covers
