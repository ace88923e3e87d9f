use Rattle.std.proofs.Common.{◌++◌, ◌∷◌, [], List, ℕ, subst, sym}
use Rattle.wesl_cond_choices.specs.Choices.{Choices}
use Rattle.wesl_cond_sets.specs.SetNumbers.{AreKept}
use Rattle.wesl_cond_sets.proofs.KeptSets.{kept_more}
use Rattle.wesl_cond_sets.proofs.sets.SetNumbers.add.Goals as goal

pub returns : goal.returns
returns c sets h =
    let old = c.args.self.now in
    let new : List Choices = c.put.new.kept.keys in
    let more : List ℕ = c.push.new.self.items in
    subst (λ (ps : List ℕ). AreKept new ps (sets ++ c.args.set ∷ [])) (sym c.in_ok-push.ensures.items)
    (kept_more old.kept.keys new old.places.items sets c.in_ok-place.place c.args.set h c.in_ok-place.ensures.stored c.in_ok-place.ensures.kept)
