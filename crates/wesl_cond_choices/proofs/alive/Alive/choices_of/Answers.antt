use Rattle.std.proofs.Common.{◌≡◌, ◌∙◌, ◌^◌, List, length, IfSome, option_copied, ap, subst, sym}
use Rattle.wesl_cond_choices.specs.Alive.{AreChoicesOf, kept_lists, lists_of}
use Rattle.wesl_cond_choices.specs.declared.place.Place.{Place}
use Rattle.wesl_cond_choices.proofs.Kept.{long_of, choices_kept}
use Rattle.wesl_cond_choices.proofs.alive.Alive.choices_of.Goals as goal

pub returns-in-Some-clause-over : goal.returns-in-Some-clause-over
returns-in-Some-clause-over c =
    let e : kept_lists c.in-Some.sets ≡ c.args.self.now = ap lists_of (sym c.in-Some.is) ∙ c.self.view_is in
    subst (λ (l : List (List Place)). IfSome c.choices_of.result (λ x. length l ≡ 2 ^ x.now.flags)) e (long_of c.in-Some.sets c.choices_of.result c.choices_of.ensures.over)

pub returns-in-Some-clause-kept : goal.returns-in-Some-clause-kept
returns-in-Some-clause-kept c apart =
    let e : kept_lists c.in-Some.sets ≡ c.args.self.now = ap lists_of (sym c.in-Some.is) ∙ c.self.view_is in
    subst (λ (l : List (List Place)). AreChoicesOf l c.args.place (option_copied c.choices_of.result)) e
    (choices_kept c.in-Some.sets c.args.place apart (option_copied c.choices_of.result) c.choices_of.ensures.kept)
