-- The expression that a formula of an expression is written as is that expression.
use Rattle.std.proofs.Common.{◌≡◌, ℕ, [], ◌∷◌, Bool, true, false, Option, Some, None, refl, ap, subst}
use Rattle.std.specs.Box.{box_value}
use Rattle.wesl_cond_chains.specs.Formulas.{named_as, spot, form, written}
use Rattle.wesl_tree_base.specs.declared.span.Span.{Span}
use Rattle.wesl_tree_syntax.specs.Tree.{Tree, Forest, branch, end, kind, unary, binary, literal as literal_kind, parenthesized, type_or_identifier}
use Rattle.wesl_tree_syntax.specs.View.{literal_tree, expression_view, call_view, argument_view, type_view, expression_step, call_step, argument_step, type_step}
use Rattle.wesl_tree_syntax.specs.declared.expression.BinaryOperator.{BinaryOperator}
use Rattle.wesl_tree_syntax.specs.declared.expression.BinaryOperator.TheVariants.{ShortCircuitAnd, ShortCircuitOr}
use Rattle.wesl_tree_syntax.specs.declared.expression.UnaryOperator.{UnaryOperator}
use Rattle.wesl_tree_syntax.specs.declared.expression.UnaryOperator.TheVariants.{LogicalNegation}
use Rattle.wesl_tree_syntax.specs.declared.expression.Literal.{Literal}
use Rattle.wesl_tree_syntax.specs.declared.expression.Literal.TheVariants as literals
use Rattle.wesl_tree_syntax.specs.declared.expression.Expression.{Expression, roll-Expression, map-Expression}
use Rattle.wesl_tree_syntax.specs.declared.expression.Expression.TheOpen.{Expression-F}
use Rattle.wesl_tree_syntax.specs.declared.expression.Expression.TheFolds.{fold-roll-Expression, ind-Expression}
use Rattle.wesl_tree_syntax.specs.declared.expression.FunctionCall.{FunctionCall}
use Rattle.wesl_tree_syntax.specs.declared.expression.TemplateArg.{TemplateArg}
use Rattle.wesl_tree_syntax.specs.declared.expression.TypeExpression.{TypeExpression}

abbrev Back : Tree → Type 0
Back t = written (form t) ≡ t

named_back : (o : Option ℕ) (b : Bool) (c : Forest) → written (named_as o b c) ≡ record { label = kind type_or_identifier; children = c }
named_back None b c = refl
named_back (Some i) true c = refl
named_back (Some i) false c = refl

literal_back : (l : Literal) → Back (branch literal_kind (literal_tree l ∷ []))
literal_back (literals.Bool true) = refl
literal_back (literals.Bool false) = refl
literal_back (literals.Text s) = refl

unary_back : (o : UnaryOperator) (p : Span) (t : Tree) → Back t → Back (record { label = unary o; children = spot p t end })
unary_back LogicalNegation p t h = ap (λ u. record { label = unary LogicalNegation; children = spot p u end }) h
unary_back o p t h = refl

binary_back : (o : BinaryOperator) (p : Span) (t : Tree) (q : Span) (u : Tree) → Back t → Back u → Back (record { label = binary o; children = spot p t (spot q u end) })
binary_back ShortCircuitAnd p t q u h k = rw (h, k) refl
binary_back ShortCircuitOr p t q u h k = rw (h, k) refl
binary_back o p t q u h k = refl

abbrev IsWritten : Expression → Type 0
IsWritten e = Back (expression_view e)

module _ {X Y Z W : Type 0} (f : X → Expression) (g : Y → FunctionCall) (i : Z → TemplateArg) (j : W → TypeExpression) (h : (x : X) → IsWritten (f x)) where
  abbrev at_level : Expression-F X Y Z W → Expression-F Expression FunctionCall TemplateArg TypeExpression
  at_level y = map-Expression X Y Z W Expression FunctionCall TemplateArg TypeExpression f g i j y

  abbrev seen : Expression-F X Y Z W → Tree
  seen y = expression_step (map-Expression Expression FunctionCall TemplateArg TypeExpression Tree Tree Tree Tree expression_view call_view argument_view type_view (at_level y))

  level : (y : Expression-F X Y Z W) → Back (seen y) → IsWritten (roll-Expression (at_level y))
  level y b = rw (fold-roll-Expression Tree Tree Tree Tree expression_step call_step argument_step type_step (at_level y)) b

  each : (y : Expression-F X Y Z W) → IsWritten (roll-Expression (at_level y))
  each (Expression-F.Literal l) = level (Expression-F.Literal l) (literal_back l)
  each (Expression-F.Parenthesized e) = level (Expression-F.Parenthesized e)
      (ap (λ u. record { label = kind parenthesized; children = spot (box_value e).span u end }) (h (box_value e).node))
  each (Expression-F.NamedComponent b n) = level (Expression-F.NamedComponent b n) refl
  each (Expression-F.Indexing b n) = level (Expression-F.Indexing b n) refl
  each (Expression-F.Unary o e) = level (Expression-F.Unary o e)
      (unary_back o (box_value e).span (expression_view (f (box_value e).node)) (h (box_value e).node))
  each (Expression-F.Binary o l r) = level (Expression-F.Binary o l r)
      (binary_back o (box_value l).span (expression_view (f (box_value l).node)) (box_value r).span (expression_view (f (box_value r).node)) (h (box_value l).node) (h (box_value r).node))
  each (Expression-F.FunctionCall c) = level (Expression-F.FunctionCall c) refl
  each (Expression-F.TypeOrIdentifier t) = level (Expression-F.TypeOrIdentifier t) (named_back _ _ _)

pub written_back : (e : Expression) → IsWritten e
written_back = ind-Expression IsWritten (λ (c : FunctionCall). Unit {0}) (λ (a : TemplateArg). Unit {0}) (λ (t : TypeExpression). Unit {0})
    (λ x y is. subst (λ z. IsWritten (roll-Expression z)) is (each (λ e. e.0) (λ e. e.0) (λ e. e.0) (λ e. e.0) (λ e. e.1) y))
    (λ x y is. tt) (λ x y is. tt) (λ x y is. tt)
