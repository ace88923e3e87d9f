use Rattle.std.proofs.Common.{Some, ap, sym, ◌∙◌, subst}
use Rattle.wesl_cond_chains.specs.Evaluation.{Judges}
use Rattle.wesl_cond_chains.specs.Nodes.{condition_view, replies}
use Rattle.wesl_cond_chains.specs.Places.{condition_places}
use Rattle.wesl_cond_chains.proofs.faults.check_attribute.Goals as goal

pub returns-in-Some-If : goal.returns-in-Some-If
returns-in-Some-If c =
    let names = c.args.names.now in
    let reply = replies names c.args.features.now in
    subst (λ k. Judges names (condition_places reply k) c.check_formula.result)
    (sym (ap condition_view (c.in-Some-If.is ∙ ap (λ x. Some x) c.in-Some-If.field-0-is)) ∙ c.condition_of.ensures) c.check_formula.ensures

pub returns-in-Some-Elif : goal.returns-in-Some-Elif
returns-in-Some-Elif c =
    let names = c.args.names.now in
    let reply = replies names c.args.features.now in
    subst (λ k. Judges names (condition_places reply k) c.check_formula-in-Some-Elif.result)
    (sym (ap condition_view (c.in-Some-Elif.is ∙ ap (λ x. Some x) c.in-Some-Elif.field-0-is)) ∙ c.condition_of.ensures) c.check_formula-in-Some-Elif.ensures
