use Rattle.std.proofs.Common.{ap, sym, ◌∙◌}
use Rattle.std.specs.Option.{option_or}
use Rattle.wesl_scope_occurrences.specs.Views.{occurrence_view}
use Rattle.wesl_scope_clashes.specs.Sightings.{groups_view, first_in}
use Rattle.wesl_scope_clashes.proofs.Steps.{declared_met, undeclared_met}
use Rattle.wesl_scope_clashes.proofs.binders.Binders.meet_global.Goals as goal

pub returns-in_ok-add : goal.returns-in_ok-add
returns-in_ok-add c = λ k p x.
    c.in_ok-add.ensures k p x
    ∙ ap (option_or (first_in (groups_view c.args.self.now.of.items) k p x)) (declared_met (occurrence_view c.args.occurrence.now) c.sighting.result k p x c.args.meaning c.sighting.ensures.binder c.sighting.ensures.from (sym c.is_in_module.ensures ∙ c.if-is_in_module.true))

pub returns-else-is_in_module : goal.returns-else-is_in_module
returns-else-is_in_module c = λ k p x. undeclared_met (occurrence_view c.args.occurrence.now) (first_in (groups_view c.args.self.now.of.items) k p x) k p x c.args.meaning (sym c.is_in_module.ensures ∙ c.if-is_in_module.false)
