use Rattle.std.proofs.Common.{ap, sym, ◌∙◌}
use Rattle.wesl_cond_features.specs.Features.{answer_to, known, by_number}
use Rattle.wesl_cond_chains.specs.Formulas.{form}
use Rattle.wesl_cond_chains.specs.FormulaResidual.{decided}
use Rattle.wesl_tree_syntax.specs.View.{expression_view}
use Rattle.wesl_cond_chains.proofs.Steps.{decided_both, decided_either, decided_negation, decided_within}
use Rattle.wesl_cond_chains.proofs.formula.+decided.Goals as goal

pub returns-in-Parenthesized : goal.returns-in-Parenthesized
returns-in-Parenthesized t c =
    let answers = known (by_number c.args.names.now (answer_to c.args.features.now)) in
    c.decided.ensures
    ∙ ap (λ n. decided answers (form (expression_view n.node))) c.deref.ensures
    ∙ sym (decided_within answers c.in-Parenthesized.expression)
    ∙ ap (λ e. decided answers (form (expression_view e))) (sym c.in-Parenthesized.is)

pub returns-in-ShortCircuitAnd : goal.returns-in-ShortCircuitAnd
returns-in-ShortCircuitAnd t c =
    decided_both (known (by_number c.args.names.now (answer_to c.args.features.now))) c.args.formula.now c.in-Binary.operator c.in-Binary.left c.in-Binary.right _ _ _ _ _ c.in-Binary.is c.in-ShortCircuitAnd.is c.deref-in-ShortCircuitAnd.ensures c.deref-in-ShortCircuitAnd-2.ensures
    c.decided-left.ensures c.decided-in-ShortCircuitAnd.ensures c.and.ensures

pub returns-in-ShortCircuitOr : goal.returns-in-ShortCircuitOr
returns-in-ShortCircuitOr t c =
    decided_either (known (by_number c.args.names.now (answer_to c.args.features.now))) c.args.formula.now c.in-Binary.operator c.in-Binary.left c.in-Binary.right _ _ _ _ _ c.in-Binary.is c.in-ShortCircuitOr.is c.deref-in-ShortCircuitOr.ensures c.deref-in-ShortCircuitOr-2.ensures
    c.decided-left-in-ShortCircuitOr.ensures c.decided-in-ShortCircuitOr.ensures c.or.ensures

pub returns-in-LogicalNegation : goal.returns-in-LogicalNegation
returns-in-LogicalNegation t c =
    decided_negation (known (by_number c.args.names.now (answer_to c.args.features.now))) c.args.formula.now c.in-Unary.operator c.in-Unary.operand _ _ _ c.in-Unary.is c.in-LogicalNegation.is c.deref-in-LogicalNegation.ensures c.decided-in-LogicalNegation.ensures c.negated.ensures
