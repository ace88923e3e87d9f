use Rattle.std.proofs.Common.{ap, ◌∙◌}
use Rattle.std.specs.Option.{option_or}
use Rattle.wesl_scope_occurrences.specs.Views.{occurrence_view}
use Rattle.wesl_scope_clashes.specs.Sightings.{groups_view, first_in}
use Rattle.wesl_scope_clashes.proofs.Steps.{seen_met, unseen_met}
use Rattle.wesl_scope_clashes.proofs.binders.Binders.meet.Goals as goal

pub returns-in_ok-add-in-Some : goal.returns-in_ok-add-in-Some
returns-in_ok-add-in-Some c = λ k p x.
    c.in_ok-add-in-Some.ensures k p x
    ∙ ap (option_or (first_in (groups_view c.args.self.now.of.items) k p x)) (seen_met (occurrence_view c.args.occurrence.now) c.sighting.result c.in-Some.from k p x c.args.meaning c.sighting.ensures.binder c.sighting.ensures.from (c.in-Some.ensures p))

pub returns-in-None : goal.returns-in-None
returns-in-None c = λ k p x. unseen_met (occurrence_view c.args.occurrence.now) (first_in (groups_view c.args.self.now.of.items) k p x) k p x c.args.meaning (c.in-None.ensures p)
