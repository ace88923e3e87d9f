use Rattle.std.proofs.Common.{◌≡◌, ap, sym, ◌∙◌}
use Rattle.wesl_cond_features.specs.Features.{answer_to, known, by_number}
use Rattle.wesl_cond_chains.specs.Formulas.{form}
use Rattle.wesl_cond_chains.specs.Step.{instead}
use Rattle.wesl_tree_syntax.specs.View.{expression_view}
use Rattle.wesl_tree_syntax.specs.declared.expression.BinaryOperator.TheVariants.{ShortCircuitAnd, ShortCircuitOr}
use Rattle.wesl_tree_syntax.specs.declared.expression.UnaryOperator.TheVariants.{LogicalNegation}
use Rattle.wesl_tree_syntax.specs.declared.expression.Expression.TheViews as made
use Rattle.wesl_cond_chains.proofs.Steps.{within_step, negation_step, conjunction_step, disjunction_step}
use Rattle.wesl_cond_chains.proofs.formula.instead_of.Goals as goal

pub returns-in-Parenthesized : goal.returns-in-Parenthesized
returns-in-Parenthesized c =
    let answers = known (by_number c.args.names.now (answer_to c.args.features.now)) in
    let b = c.in-Parenthesized in
    within_step answers c.args.formula.now b.expression c.deref_mut.result.now c.unwrapped.new.inner c.unwrapped.result b.is c.deref_mut.ensures.value c.unwrapped.ensures

pub returns-in-Unary-LogicalNegation-default : goal.returns-in-Unary-LogicalNegation-default
returns-in-Unary-LogicalNegation-default c =
    let answers = known (by_number c.args.names.now (answer_to c.args.features.now)) in
    let b = c.in-Unary-LogicalNegation-default in
    let w : c.args.formula.now ≡ made.Unary LogicalNegation b.operand = cc in
    ap (λ e. instead c.negated.result (form (expression_view e))) (sym b.is) ∙ negation_step answers c.args.formula.now b.operand c.deref.result.now b.operand.value c.negated.result w c.deref.ensures c.negated.ensures

pub returns-in-Binary-ShortCircuitAnd-default-default : goal.returns-in-Binary-ShortCircuitAnd-default-default
returns-in-Binary-ShortCircuitAnd-default-default c =
    let answers = known (by_number c.args.names.now (answer_to c.args.features.now)) in
    let b = c.in-Binary-ShortCircuitAnd-default-default in
    let l = c.deref_mut-in-Binary-ShortCircuitAnd-default-default in
    let r = c.deref_mut-in-Binary-ShortCircuitAnd-default-default-2 in
    let o : b.operator ≡ ShortCircuitAnd = cc in
    conjunction_step answers c.args.formula.now b.left l.result.now c.both.new.left b.right r.result.now c.both.new.right c.both.result b.operator o b.is l.ensures.value r.ensures.value c.both.ensures

pub returns-in-Binary-ShortCircuitOr-default-default : goal.returns-in-Binary-ShortCircuitOr-default-default
returns-in-Binary-ShortCircuitOr-default-default c =
    let answers = known (by_number c.args.names.now (answer_to c.args.features.now)) in
    let b = c.in-Binary-ShortCircuitOr-default-default in
    let l = c.deref_mut-in-Binary-ShortCircuitOr-default-default in
    let r = c.deref_mut-in-Binary-ShortCircuitOr-default-default-2 in
    let o : b.operator ≡ ShortCircuitOr = cc in
    disjunction_step answers c.args.formula.now b.left l.result.now c.either.new.left b.right r.result.now c.either.new.right c.either.result b.operator o b.is l.ensures.value r.ensures.value c.either.ensures
