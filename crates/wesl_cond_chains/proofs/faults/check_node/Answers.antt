use Rattle.std.proofs.Common.{ap, map, sym, subst, ◌∙◌}
use Rattle.std.specs.List.{flat_map}
use Rattle.wesl_cond_chains.specs.Faults.{conditions, opens, place_faults}
use Rattle.wesl_cond_chains.specs.Places.{condition_places, found_at, list_places, span_of}
use Rattle.wesl_cond_chains.specs.Nodes.{attributes_forest, replies}
use Rattle.wesl_cond_chains.specs.Evaluation.{Refuses}
use Rattle.wesl_cond_chains.proofs.Places.{node_begins, place_refused, formula_refused}
use Rattle.wesl_cond_chains.proofs.faults.check_node.Goals as goal

pub returns-in-Ok-check_formulas : goal.returns-in-Ok-check_formulas
returns-in-Ok-check_formulas g c = λ closes rest.
    let names = c.args.names.now in
    let reply = replies names c.args.features.now in
    let t = g.T.Conditional.tree c.args.node.now in
    let at = sym c.attributes-attributes.ensures in
    node_begins names reply c.args.opened closes t (sym c.is_void.ensures ∙ c.if-is_void.false)
    (ap (λ a. map (found_at (span_of t.label)) (place_faults c.args.opened (conditions a))) at ∙ ap (λ s. map (found_at s) (place_faults c.args.opened (conditions (attributes_forest c.attributes-attributes.result.now)))) (sym c.span.ensures) ∙ c.in-Ok.ensures names)
    (ap (λ a. flat_map (condition_places reply) (conditions a)) at ∙ c.in-Ok-check_formulas.ensures) rest
    ∙ ap (λ b. list_places reply b rest) (ap (λ a. opens (conditions a)) at ∙ sym c.opens.ensures)

pub returns-in-Err-check_formulas : goal.returns-in-Err-check_formulas
returns-in-Err-check_formulas g c = λ closes.
    let names = c.args.names.now in
    let reply = replies names c.args.features.now in
    let t = g.T.Conditional.tree c.args.node.now in
    let at = c.attributes-attributes.ensures in
    formula_refused names reply c.args.opened closes t c.in-Err-check_formulas.fault (sym c.is_void.ensures ∙ c.if-is_void.false)
    (ap (λ a. map (found_at (span_of t.label)) (place_faults c.args.opened (conditions a))) (sym at) ∙ ap (λ s. map (found_at s) (place_faults c.args.opened (conditions (attributes_forest c.attributes-attributes.result.now)))) (sym c.span.ensures) ∙ c.in-Ok.ensures names)
    (subst (λ a. Refuses names (flat_map (condition_places reply) (conditions a)) c.in-Err-check_formulas.fault) at c.in-Err-check_formulas.ensures)

pub returns-in-Err : goal.returns-in-Err
returns-in-Err g c = λ closes.
    let names = c.args.names.now in
    let reply = replies names c.args.features.now in
    let t = g.T.Conditional.tree c.args.node.now in
    let at = c.attributes-attributes.ensures in
    place_refused names reply c.args.opened closes t c.in-Err.fault (sym c.is_void.ensures ∙ c.if-is_void.false)
    (subst (λ a. Refuses names (map (found_at (span_of t.label)) (place_faults c.args.opened (conditions a))) c.in-Err.fault) at
    (subst (λ s. Refuses names (map (found_at s) (place_faults c.args.opened (conditions (attributes_forest c.attributes-attributes.result.now)))) c.in-Err.fault) c.span.ensures (c.in-Err.ensures names)))
