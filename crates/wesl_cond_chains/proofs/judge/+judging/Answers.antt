use Rattle.std.proofs.Common.{rules, ◌≡◌, [], ◌∷◌, ap, sym, ◌∙◌, subst}
use Rattle.wesl_cond_chains.specs.Evaluation.{Refuses}
use Rattle.wesl_cond_chains.specs.FormulaFaults.{invalid_expression}
use Rattle.wesl_cond_chains.specs.Nodes.{replies}
use Rattle.wesl_cond_chains.specs.Places.{formula_places, found_at}
use Rattle.wesl_cond_chains.specs.Step.{form_of}
use Rattle.wesl_cond_features.specs.Features.{answer_to, by_number}
use Rattle.wesl_cond_chains.specs.Formulas.{form}
use Rattle.wesl_tree_syntax.specs.View.{expression_view}
use Rattle.wesl_tree_syntax.specs.declared.expression.Expression.{the_lemmas}
use Rattle.wesl_cond_chains.proofs.Refused.{refuses_before}
use Rattle.wesl_cond_chains.proofs.Steps.{both_judged, joined_places, places_in}
use Rattle.wesl_cond_chains.proofs.judge.+judging.Goals as goal

pub returns-in-Err : goal.returns-in-Err
returns-in-Err t c =
    let names = c.args.names.now in
    let reply = by_number names (answer_to c.args.features.now) in
    let h = c.in-Binary in
    let fault = c.in-Err.fault in
    let span = c.args.formula.now.span in
    let told = refuses_before names fault (places_in reply h.left.value) (places_in reply h.right.value) (subst (λ n. Refuses names (places_in reply n) fault) c.deref-in-ShortCircuitAnd.ensures c.in-Err.ensures) in
    subst (λ ps. Refuses names ps fault) (sym (ap (λ e. formula_places reply span (form (expression_view e))) h.is ∙ joined_places reply span h.operator h.left h.right c.in-ShortCircuitAnd.is)) told

pub returns-in-Ok : goal.returns-in-Ok
returns-in-Ok t c =
    let names = c.args.names.now in
    let reply = by_number names (answer_to c.args.features.now) in
    let h = c.in-Binary in
    both_judged reply names c.args.formula.now.span c.args.formula.now.node h.operator h.left h.right c.deref-in-ShortCircuitAnd.result.now c.deref-in-Ok.result.now c.check_formula-in-Ok.result h.is c.in-ShortCircuitAnd.is
    c.deref-in-ShortCircuitAnd.ensures c.deref-in-Ok.ensures c.in-Ok.ensures c.check_formula-in-Ok.ensures

pub returns-in-Addition : goal.returns-in-Addition
returns-in-Addition t c =
    let names = c.args.names.now in
    let span = c.args.formula.now.span in
    let one : found_at span invalid_expression ∷ [] ≡ formula_places (replies names c.args.features.now) span (form_of c.args.formula.now.node) = search (rules, the_lemmas) in
    subst (λ ps. Refuses names ps c.invalid_expression.result) one (c.invalid_expression.ensures names)

pub returns-in-Literal-Text : goal.returns-in-Literal-Text
returns-in-Literal-Text t c =
    let names = c.args.names.now in
    let span = c.args.formula.now.span in
    let one : found_at span invalid_expression ∷ [] ≡ formula_places (replies names c.args.features.now) span (form_of c.args.formula.now.node) = search (rules, the_lemmas) in
    subst (λ ps. Refuses names ps c.invalid_expression-in-Literal-Text.result) one (c.invalid_expression-in-Literal-Text.ensures names)
