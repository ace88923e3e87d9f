-- One step of what is left of a formula.
use Rattle.std.specs.Prelude.{ℕ, [], ◌∷◌, Option, Some, None}
use Rattle.wesl_cond_features.specs.Answers.{Answers}
use Rattle.wesl_cond_chains.specs.Formulas.{Form, always, never, flag, templated, within, negation, conjunction, disjunction, other, form}
use Rattle.wesl_cond_chains.specs.FormulaResidual.{flag_as, parenthesized, negated, both_of, either_of, residual}
use Rattle.wesl_tree_base.specs.declared.span.Span.{Span}
use Rattle.wesl_tree_syntax.specs.Tree.{branch, type_or_identifier}
use Rattle.wesl_tree_syntax.specs.View.{expression_view, type_view}
use Rattle.wesl_tree_syntax.specs.declared.expression.TypeExpression.{TypeExpression}
use Rattle.wesl_tree_syntax.specs.declared.span.Spanned.{Spanned}
use Rattle.wesl_tree_syntax.specs.declared.expression.Expression.{Expression}

module _ {I : Type 0} where
  -- a formula with what is left of its operands
  abbrev pub operands_left : Answers I → Form I → Form I
  operands_left known always = always
  operands_left known never = never
  operands_left known (flag name c) = flag name c
  operands_left known (templated name c) = templated name c
  operands_left known (within p f) = within p (residual known f)
  operands_left known (negation p f) = negation p (residual known f)
  operands_left known (conjunction p f q g) = conjunction p (residual known f) q (residual known g)
  operands_left known (disjunction p f q g) = disjunction p (residual known f) q (residual known g)
  operands_left known (other l c) = other l c

  -- what is left of a formula of whose operands nothing more goes
  abbrev pub step : Answers I → Form I → Form I
  step known always = always
  step known never = never
  step known (flag name c) = flag_as (known name) name c
  step known (templated name c) = templated name c
  step known (within p f) = parenthesized p f
  step known (negation p f) = negated p f
  step known (conjunction p f q g) = both_of p f q g
  step known (disjunction p f q g) = either_of p f q g
  step known (other l c) = other l c

-- the formula that an expression of the code is
abbrev pub form_of : Expression → Form ℕ
form_of e = form (expression_view e)

-- the formula that a name is, with the template arguments that it may have
abbrev pub name_form : TypeExpression → Form ℕ
name_form ty = form (branch type_or_identifier (type_view ty ∷ []))

-- two operands of the code joined, where `join` is a conjunction, say
abbrev pub joined : (Span → Form ℕ → Span → Form ℕ → Form ℕ) → Spanned Expression → Spanned Expression → Form ℕ
joined join left right = join left.span (form_of left.node) right.span (form_of right.node)

-- what takes the place of a formula, or else the formula
abbrev pub instead : Option Expression → Form ℕ → Form ℕ
instead None f = f
instead (Some e) f = form_of e
