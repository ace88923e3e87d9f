use Rattle.std.proofs.Common.{List, subst}
use Rattle.wesl_cond_choices.specs.declared.place.Place.{Place}
use Rattle.wesl_cond_covers.specs.SightsView.{AreSightsOf}
use Rattle.wesl_link_split.proofs.Anywhere.{if_ok}
use Rattle.wesl_link_split.proofs.sight.sights_of.Goals as goal

pub returns-then-not-has_two_targets : goal.returns-then-not-has_two_targets
returns-then-not-has_two_targets c two = absurd (let z : ⊥ = cc in z)

pub returns : goal.returns
returns c =
    if_ok c.of.result (λ x held two. subst (λ (l : List Place). AreSightsOf c.args.alive.now l x) c.in_ok-add_places.ensures held) c.of.ensures
