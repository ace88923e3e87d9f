use Rattle.std.proofs.Common.{◌≡◌, ◌⊎◌, Some, None, refl, ap, rules, sym, ◌∙◌}
use Rattle.wesl_cond_features.specs.Features.{answer_to, known, by_number}
use Rattle.wesl_cond_chains.specs.Formulas.{form}
use Rattle.wesl_cond_chains.specs.Step.{instead, step}
use Rattle.wesl_tree_syntax.specs.View.{expression_view}
use Rattle.wesl_tree_syntax.specs.declared.expression.BinaryOperator.TheVariants.{ShortCircuitAnd, ShortCircuitOr}
use Rattle.wesl_tree_syntax.specs.declared.expression.UnaryOperator.TheVariants.{LogicalNegation}
use Rattle.wesl_cond_chains.proofs.Steps.{step_by_step, within_operands, negation_operands, joined_operands}
use Rattle.wesl_cond_chains.proofs.formula.+simplifying.Goals as goal

pub leave-returns-in-Some : goal.leave-returns-in-Some
leave-returns-in-Some t c =
    let answers = known (by_number c.args.names.now (answer_to c.args.features.now)) in
    let e : c.instead_of.result ≡ Some c.in-Some.instead = cc in
    ap (λ r. instead r (form (expression_view c.instead_of.new.formula))) (sym e)
    ∙ c.instead_of.ensures ∙ ap (step answers) c.leave_operands.ensures ∙ step_by_step answers (form (expression_view c.args.formula.now))

pub leave-returns-in_default : goal.leave-returns-in_default
leave-returns-in_default t c =
    let answers = known (by_number c.args.names.now (answer_to c.args.features.now)) in
    let e : c.instead_of.result ≡ None = cc in
    ap (λ r. instead r (form (expression_view c.instead_of.new.formula))) (sym e)
    ∙ c.instead_of.ensures ∙ ap (step answers) c.leave_operands.ensures ∙ step_by_step answers (form (expression_view c.args.formula.now))

pub leave_operands-returns-in-Parenthesized : goal.leave_operands-returns-in-Parenthesized
leave_operands-returns-in-Parenthesized t c =
    let answers = known (by_number c.args.names.now (answer_to c.args.features.now)) in
    let b = c.in-Parenthesized in
    within_operands answers c.args.formula.now b.expression c.deref_mut.result.now _ b.is c.deref_mut.ensures.value (c.leave.ensures, refl)

pub leave_operands-returns-in-Unary-LogicalNegation-default : goal.leave_operands-returns-in-Unary-LogicalNegation-default
leave_operands-returns-in-Unary-LogicalNegation-default t c =
    let answers = known (by_number c.args.names.now (answer_to c.args.features.now)) in
    let b = c.in-Unary-LogicalNegation-default in
    let l = c.deref_mut-in-Unary-LogicalNegation-default in
    let o : b.operator ≡ LogicalNegation = cc in
    negation_operands answers c.args.formula.now b.operand l.result.now _ b.operator o b.is l.ensures.value (c.leave-in-Unary-LogicalNegation-default.ensures, refl)

pub leave_operands-returns-in-Binary-ShortCircuitAnd-default-default : goal.leave_operands-returns-in-Binary-ShortCircuitAnd-default-default
leave_operands-returns-in-Binary-ShortCircuitAnd-default-default t c =
    let answers = known (by_number c.args.names.now (answer_to c.args.features.now)) in
    let b = c.in-Binary-ShortCircuitAnd-default-default in
    let l = c.deref_mut-in-Binary-ShortCircuitAnd-default-default in
    let r = c.deref_mut-in-Binary-ShortCircuitAnd-default-default-2 in
    let o : (b.operator ≡ ShortCircuitAnd) ⊎ (b.operator ≡ ShortCircuitOr) = search rules in
    joined_operands answers c.args.formula.now b.left l.result.now _ b.right r.result.now _ b.operator o b.is l.ensures.value r.ensures.value
    (c.leave-in-Binary-ShortCircuitAnd-default-default.ensures, refl) (c.leave-in-Binary-ShortCircuitAnd-default-default-2.ensures, refl)
