-- Nodes of several kinds that hold the same parts.
use Rattle.std.proofs.Common.{◌≡◌, [], ◌∷◌, ◌++◌, ◌∙◌, ap}
use Rattle.std.specs.Global.{Vec}
use mathlib.Core.Logic.{◌⊎◌, inl, inr}
use Rattle.wesl_tree_base.specs.declared.span.Span.{Span}
use Rattle.wesl_tree_syntax.specs.Tree.{before, end, forest_of}
use Rattle.wesl_tree_syntax.specs.View.{attribute_view, attributes_tree, expression_tree, statement_view}
use Rattle.wesl_tree_syntax.specs.declared.attribute.Attribute.{Attribute}
use Rattle.wesl_tree_syntax.specs.declared.attribute.Attribute.TheVariants as attr
use Rattle.wesl_tree_syntax.specs.declared.expression.Expression.{Expression}
use Rattle.wesl_tree_syntax.specs.declared.span.Spanned.{Spanned}
use Rattle.wesl_tree_syntax.specs.declared.statement.Statement.{Statement}
use Rattle.wesl_tree_syntax.specs.declared.statement.Statement as made
use Rattle.wesl_scope_spans.specs.Spans.{located_in}
use Rattle.wesl_tree_syntax.proofs.Views.{view_break, view_continue, view_decrement, view_discard, view_increment}

-- `++` and `--`
pub stepped : (s : Span) (t : Statement) (a : Vec (Spanned Attribute)) (e : Spanned Expression) → (t ≡ made.Increment a e) ⊎ (t ≡ made.Decrement a e)
    → located_in s (before (statement_view t) end) ≡ located_in s (forest_of (attributes_tree a ∷ expression_tree e ∷ [])) ++ []
stepped s t a e (inl is) = ap (λ x. located_in s (before x end)) (ap statement_view is ∙ view_increment a e)
stepped s t a e (inr is) = ap (λ x. located_in s (before x end)) (ap statement_view is ∙ view_decrement a e)

-- `break`, `continue` and `discard`
pub left : (s : Span) (t : Statement) (a : Vec (Spanned Attribute)) → (t ≡ made.Break a) ⊎ ((t ≡ made.Continue a) ⊎ (t ≡ made.Discard a))
    → located_in s (before (statement_view t) end) ≡ located_in s (forest_of (attributes_tree a ∷ [])) ++ []
left s t a (inl is) = ap (λ x. located_in s (before x end)) (ap statement_view is ∙ view_break a)
left s t a (inr (inl is)) = ap (λ x. located_in s (before x end)) (ap statement_view is ∙ view_continue a)
left s t a (inr (inr is)) = ap (λ x. located_in s (before x end)) (ap statement_view is ∙ view_discard a)

-- attributes with one operand
pub operand : (s : Span) (t : Attribute) (e : Spanned Expression)
    → (t ≡ attr.Align e) ⊎ ((t ≡ attr.Binding e) ⊎ ((t ≡ attr.BlendSrc e) ⊎ ((t ≡ attr.Group e) ⊎ ((t ≡ attr.Id e) ⊎ ((t ≡ attr.Location e) ⊎ ((t ≡ attr.Size e) ⊎ ((t ≡ attr.If e) ⊎ (t ≡ attr.Elif e))))))))
    → located_in s (before (attribute_view t) end) ≡ located_in s (before (expression_tree e) end) ++ []
operand s t e (inl is) = ap (λ x. located_in s (before (attribute_view x) end)) is
operand s t e (inr (inl is)) = ap (λ x. located_in s (before (attribute_view x) end)) is
operand s t e (inr (inr (inl is))) = ap (λ x. located_in s (before (attribute_view x) end)) is
operand s t e (inr (inr (inr (inl is)))) = ap (λ x. located_in s (before (attribute_view x) end)) is
operand s t e (inr (inr (inr (inr (inl is))))) = ap (λ x. located_in s (before (attribute_view x) end)) is
operand s t e (inr (inr (inr (inr (inr (inl is)))))) = ap (λ x. located_in s (before (attribute_view x) end)) is
operand s t e (inr (inr (inr (inr (inr (inr (inl is))))))) = ap (λ x. located_in s (before (attribute_view x) end)) is
operand s t e (inr (inr (inr (inr (inr (inr (inr (inl is)))))))) = ap (λ x. located_in s (before (attribute_view x) end)) is
operand s t e (inr (inr (inr (inr (inr (inr (inr (inr is)))))))) = ap (λ x. located_in s (before (attribute_view x) end)) is
