use Rattle.std.proofs.Common.{ap, refl, ◌∙◌}
use Rattle.std.specs.Prelude.{slice_get}
use Rattle.wesl_link_split.specs.ScopeView.{scope_view}
use Rattle.wesl_link_split.proofs.Anywhere.{answered}
use Rattle.wesl_link_split.proofs.split.Scope.answer.Goals as goal

pub returns : goal.returns
returns c = λ one.
    answered (scope_view c.args.self.now) c.args.name c.in_ok-is_unclear.is_unclear c.new-found.result.items c.add_each.new.found.items c.in_ok-is_unclear.ensures c.new-found.ensures.items one _ refl
    (c.first_of.ensures ∙ ap (λ l. slice_get l 0) c.deref.ensures.value)
