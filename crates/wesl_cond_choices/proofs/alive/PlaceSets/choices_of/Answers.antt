use Rattle.std.proofs.Common.{◌≡◌, ◌∙◌, Some, IfSome, List, ap, subst, sym}
use Rattle.std.specs.Prelude.{slice_get}
use Rattle.std.specs.Slice.{IsItemAt}
use Rattle.wesl_cond_choices.specs.Choices.{Choices}
use Rattle.wesl_cond_choices.specs.Alive.{PlaceSets, has_at, number_of, set_has}
use Rattle.wesl_cond_choices.proofs.Kept.{lent, lent_over}
use Rattle.wesl_cond_choices.proofs.alive.PlaceSets.choices_of.Goals as goal

pub returns-in-Some-clause-over : goal.returns-in-Some-clause-over
returns-in-Some-clause-over c =
    let item = subst (λ (l : List Choices). IsItemAt l c.in-Some.number c.get.result) c.deref.ensures.value c.get.ensures.lookup in
    let over = lent_over c.self.inside.flags c.self.inside.sets.items c.in-Some.number c.self.invariant c.get.result item in
    subst (λ (s : PlaceSets). IfSome c.get.result (λ x. x.now.flags ≡ s.flags)) c.self.view_is over

pub returns-in-Some-clause-kept : goal.returns-in-Some-clause-kept
returns-in-Some-clause-kept c k =
    let item = subst (λ (l : List Choices). IsItemAt l c.in-Some.number c.get.result) c.deref.ensures.value c.get.ensures.lookup in
    let sets : c.self.inside.sets.items ≡ c.args.self.now.sets = ap (λ (s : PlaceSets). s.sets) c.self.view_is in
    let number : Some c.in-Some.number ≡ number_of c.args.self.now c.args.place = sym c.in-Some.is ∙ c.number_of.ensures in
    ap (set_has k) (lent c.self.inside.sets.items c.in-Some.number c.get.result item)
    ∙ (ap (λ l. set_has k (slice_get l c.in-Some.number)) sets ∙ ap (has_at c.args.self.now.sets k) number)
