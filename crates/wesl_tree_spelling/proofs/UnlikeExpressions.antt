-- An expression of another variant has another tree.
use Rattle.std.proofs.Common.{◌≡◌, ℕ, Bool, false, refl, sym, ap, ◌∙◌, rules, String}
use Rattle.std.specs.Global.{Box}
use Rattle.std.specs.declared.alloc.Global.{Global}
use Rattle.wesl_tree_names.specs.Path.{Text}
use Rattle.wesl_tree_syntax.specs.Tree.{Tree, Label, kind, unary, binary, literal, parenthesized, named_component, indexing, call_expression, type_or_identifier}
use Rattle.wesl_tree_syntax.specs.View.{expression_view}
use Rattle.wesl_tree_syntax.specs.declared.span.Spanned.{Spanned}
use Rattle.wesl_tree_syntax.specs.declared.expression.UnaryOperator.{UnaryOperator}
use Rattle.wesl_tree_syntax.specs.declared.expression.BinaryOperator.{BinaryOperator}
use Rattle.wesl_tree_syntax.specs.declared.expression.Literal.{Literal as LiteralValue}
use Rattle.wesl_tree_syntax.specs.declared.expression.FunctionCall.{FunctionCall as Call}
use Rattle.wesl_tree_syntax.specs.declared.expression.TemplateArg.{TemplateArg}
use Rattle.wesl_tree_syntax.specs.declared.expression.TypeExpression.{TypeExpression}
use Rattle.wesl_tree_syntax.specs.declared.expression.Expression.{Expression, Literal, Parenthesized, NamedComponent, Indexing, Unary, Binary, FunctionCall, TypeOrIdentifier, roll-Expression, out-Expression, the_lemmas}
use Rattle.wesl_tree_syntax.specs.declared.expression.Expression.TheOpen.{Expression-F}
use Rattle.wesl_tree_syntax.specs.declared.expression.Expression.TheViews.{roll-out-Expression, rolls-Literal, rolls-Parenthesized, rolls-NamedComponent, rolls-Indexing, rolls-Unary, rolls-Binary, rolls-FunctionCall, rolls-TypeOrIdentifier}
use Rattle.wesl_tree_spelling.specs.Same.{same_tree, same_label}

-- one level
abbrev Layer : Type 0
Layer = Expression-F Expression Call TemplateArg TypeExpression

abbrev label_at : Layer → Label
label_at (Expression-F.Literal l) = kind literal
label_at (Expression-F.Parenthesized node) = kind parenthesized
label_at (Expression-F.NamedComponent b n) = kind named_component
label_at (Expression-F.Indexing b i) = kind indexing
label_at (Expression-F.Unary o node) = unary o
label_at (Expression-F.Binary o l r) = binary o
label_at (Expression-F.FunctionCall c) = kind call_expression
label_at (Expression-F.TypeOrIdentifier t) = kind type_or_identifier

label_of_roll : (layer : Layer) → (expression_view (roll-Expression layer)).label ≡ label_at layer
label_of_roll (Expression-F.Literal l) = ap (λ x. (expression_view x).label) (rolls-Literal l) ∙ search (rules, the_lemmas)
label_of_roll (Expression-F.Parenthesized node) = ap (λ x. (expression_view x).label) (rolls-Parenthesized node) ∙ search (rules, the_lemmas)
label_of_roll (Expression-F.NamedComponent b n) = ap (λ x. (expression_view x).label) (rolls-NamedComponent b n) ∙ search (rules, the_lemmas)
label_of_roll (Expression-F.Indexing b i) = ap (λ x. (expression_view x).label) (rolls-Indexing b i) ∙ search (rules, the_lemmas)
label_of_roll (Expression-F.Unary o node) = ap (λ x. (expression_view x).label) (rolls-Unary o node) ∙ search (rules, the_lemmas)
label_of_roll (Expression-F.Binary o l r) = ap (λ x. (expression_view x).label) (rolls-Binary o l r) ∙ search (rules, the_lemmas)
label_of_roll (Expression-F.FunctionCall c) = ap (λ x. (expression_view x).label) (rolls-FunctionCall c) ∙ search (rules, the_lemmas)
label_of_roll (Expression-F.TypeOrIdentifier t) = ap (λ x. (expression_view x).label) (rolls-TypeOrIdentifier t) ∙ search (rules, the_lemmas)

label_of : (x : Expression) → (expression_view x).label ≡ label_at (out-Expression x)
label_of x = ap (λ y. (expression_view y).label) (sym (roll-out-Expression x)) ∙ label_of_roll (out-Expression x)

-- trees with unlike labels
pub by_labels : (places : Bool) (f g : ℕ → Text) (s t : Tree) (l m : Label) → s.label ≡ l → t.label ≡ m → same_label places f g l m ≡ false → false ≡ same_tree places f g s t
by_labels places f g s t l m d e h = rw (d, e, h) refl

module _ (places : Bool) (f g : ℕ → Text) where
  differs_Literal : (l : LiteralValue) (layer : Layer) → ((l' : LiteralValue) → layer ≡ Expression-F.Literal l' → ⊥) → same_label places f g (kind literal) (label_at layer) ≡ false
  differs_Literal l (Expression-F.Literal l') h = absurd (h l' refl)
  differs_Literal l _ h = refl

  pub unlike_Literal : (x y : Expression) (l : LiteralValue) → x ≡ Literal l → ((l' : LiteralValue) → y ≡ Literal l' → ⊥) → false ≡ same_tree places f g (expression_view x) (expression_view y)
  unlike_Literal x y l is h =
      by_labels places f g (expression_view x) (expression_view y) (kind literal) (label_at (out-Expression y)) (rw is (search (rules, the_lemmas))) (label_of y)
      (differs_Literal l (out-Expression y) (λ l' e. h l' (sym (roll-out-Expression y) ∙ ap roll-Expression e ∙ rolls-Literal l')))

  differs_Parenthesized : (node : Box (Spanned Expression)) (layer : Layer) → ((node' : Box (Spanned Expression)) → layer ≡ Expression-F.Parenthesized node' → ⊥) → same_label places f g (kind parenthesized) (label_at layer) ≡ false
  differs_Parenthesized node (Expression-F.Parenthesized node') h = absurd (h node' refl)
  differs_Parenthesized node _ h = refl

  pub unlike_Parenthesized : (x y : Expression) (node : Box (Spanned Expression)) → x ≡ Parenthesized node → ((node' : Box (Spanned Expression)) → y ≡ Parenthesized node' → ⊥) → false ≡ same_tree places f g (expression_view x) (expression_view y)
  unlike_Parenthesized x y node is h =
      by_labels places f g (expression_view x) (expression_view y) (kind parenthesized) (label_at (out-Expression y)) (rw is (search (rules, the_lemmas))) (label_of y)
      (differs_Parenthesized node (out-Expression y) (λ node' e. h node' (sym (roll-out-Expression y) ∙ ap roll-Expression e ∙ rolls-Parenthesized node')))

  differs_NamedComponent : (b : Box (Spanned Expression)) (n : String Global) (layer : Layer) → ((b' : Box (Spanned Expression)) (n' : String Global) → layer ≡ Expression-F.NamedComponent b' n' → ⊥) → same_label places f g (kind named_component) (label_at layer) ≡ false
  differs_NamedComponent b n (Expression-F.NamedComponent b' n') h = absurd (h b' n' refl)
  differs_NamedComponent b n _ h = refl

  pub unlike_NamedComponent : (x y : Expression) (b : Box (Spanned Expression)) (n : String Global) → x ≡ NamedComponent b n → ((b' : Box (Spanned Expression)) (n' : String Global) → y ≡ NamedComponent b' n' → ⊥) → false ≡ same_tree places f g (expression_view x) (expression_view y)
  unlike_NamedComponent x y b n is h =
      by_labels places f g (expression_view x) (expression_view y) (kind named_component) (label_at (out-Expression y)) (rw is (search (rules, the_lemmas))) (label_of y)
      (differs_NamedComponent b n (out-Expression y) (λ b' n' e. h b' n' (sym (roll-out-Expression y) ∙ ap roll-Expression e ∙ rolls-NamedComponent b' n')))

  differs_Indexing : (b : Box (Spanned Expression)) (i : Box (Spanned Expression)) (layer : Layer) → ((b' : Box (Spanned Expression)) (i' : Box (Spanned Expression)) → layer ≡ Expression-F.Indexing b' i' → ⊥) → same_label places f g (kind indexing) (label_at layer) ≡ false
  differs_Indexing b i (Expression-F.Indexing b' i') h = absurd (h b' i' refl)
  differs_Indexing b i _ h = refl

  pub unlike_Indexing : (x y : Expression) (b : Box (Spanned Expression)) (i : Box (Spanned Expression)) → x ≡ Indexing b i → ((b' : Box (Spanned Expression)) (i' : Box (Spanned Expression)) → y ≡ Indexing b' i' → ⊥) → false ≡ same_tree places f g (expression_view x) (expression_view y)
  unlike_Indexing x y b i is h =
      by_labels places f g (expression_view x) (expression_view y) (kind indexing) (label_at (out-Expression y)) (rw is (search (rules, the_lemmas))) (label_of y)
      (differs_Indexing b i (out-Expression y) (λ b' i' e. h b' i' (sym (roll-out-Expression y) ∙ ap roll-Expression e ∙ rolls-Indexing b' i')))

  differs_Unary : (o : UnaryOperator) (node : Box (Spanned Expression)) (layer : Layer) → ((o' : UnaryOperator) (node' : Box (Spanned Expression)) → layer ≡ Expression-F.Unary o' node' → ⊥) → same_label places f g (unary o) (label_at layer) ≡ false
  differs_Unary o node (Expression-F.Unary o' node') h = absurd (h o' node' refl)
  differs_Unary o node _ h = refl

  pub unlike_Unary : (x y : Expression) (o : UnaryOperator) (node : Box (Spanned Expression)) → x ≡ Unary o node → ((o' : UnaryOperator) (node' : Box (Spanned Expression)) → y ≡ Unary o' node' → ⊥) → false ≡ same_tree places f g (expression_view x) (expression_view y)
  unlike_Unary x y o node is h =
      by_labels places f g (expression_view x) (expression_view y) (unary o) (label_at (out-Expression y)) (rw is (search (rules, the_lemmas))) (label_of y)
      (differs_Unary o node (out-Expression y) (λ o' node' e. h o' node' (sym (roll-out-Expression y) ∙ ap roll-Expression e ∙ rolls-Unary o' node')))

  differs_Binary : (o : BinaryOperator) (l : Box (Spanned Expression)) (r : Box (Spanned Expression)) (layer : Layer) → ((o' : BinaryOperator) (l' : Box (Spanned Expression)) (r' : Box (Spanned Expression)) → layer ≡ Expression-F.Binary o' l' r' → ⊥) → same_label places f g (binary o) (label_at layer) ≡ false
  differs_Binary o l r (Expression-F.Binary o' l' r') h = absurd (h o' l' r' refl)
  differs_Binary o l r _ h = refl

  pub unlike_Binary : (x y : Expression) (o : BinaryOperator) (l : Box (Spanned Expression)) (r : Box (Spanned Expression)) → x ≡ Binary o l r → ((o' : BinaryOperator) (l' : Box (Spanned Expression)) (r' : Box (Spanned Expression)) → y ≡ Binary o' l' r' → ⊥) → false ≡ same_tree places f g (expression_view x) (expression_view y)
  unlike_Binary x y o l r is h =
      by_labels places f g (expression_view x) (expression_view y) (binary o) (label_at (out-Expression y)) (rw is (search (rules, the_lemmas))) (label_of y)
      (differs_Binary o l r (out-Expression y) (λ o' l' r' e. h o' l' r' (sym (roll-out-Expression y) ∙ ap roll-Expression e ∙ rolls-Binary o' l' r')))

  differs_FunctionCall : (c : Call) (layer : Layer) → ((c' : Call) → layer ≡ Expression-F.FunctionCall c' → ⊥) → same_label places f g (kind call_expression) (label_at layer) ≡ false
  differs_FunctionCall c (Expression-F.FunctionCall c') h = absurd (h c' refl)
  differs_FunctionCall c _ h = refl

  pub unlike_FunctionCall : (x y : Expression) (c : Call) → x ≡ FunctionCall c → ((c' : Call) → y ≡ FunctionCall c' → ⊥) → false ≡ same_tree places f g (expression_view x) (expression_view y)
  unlike_FunctionCall x y c is h =
      by_labels places f g (expression_view x) (expression_view y) (kind call_expression) (label_at (out-Expression y)) (rw is (search (rules, the_lemmas))) (label_of y)
      (differs_FunctionCall c (out-Expression y) (λ c' e. h c' (sym (roll-out-Expression y) ∙ ap roll-Expression e ∙ rolls-FunctionCall c')))

  differs_TypeOrIdentifier : (t : TypeExpression) (layer : Layer) → ((t' : TypeExpression) → layer ≡ Expression-F.TypeOrIdentifier t' → ⊥) → same_label places f g (kind type_or_identifier) (label_at layer) ≡ false
  differs_TypeOrIdentifier t (Expression-F.TypeOrIdentifier t') h = absurd (h t' refl)
  differs_TypeOrIdentifier t _ h = refl

  pub unlike_TypeOrIdentifier : (x y : Expression) (t : TypeExpression) → x ≡ TypeOrIdentifier t → ((t' : TypeExpression) → y ≡ TypeOrIdentifier t' → ⊥) → false ≡ same_tree places f g (expression_view x) (expression_view y)
  unlike_TypeOrIdentifier x y t is h =
      by_labels places f g (expression_view x) (expression_view y) (kind type_or_identifier) (label_at (out-Expression y)) (rw is (search (rules, the_lemmas))) (label_of y)
      (differs_TypeOrIdentifier t (out-Expression y) (λ t' e. h t' (sym (roll-out-Expression y) ∙ ap roll-Expression e ∙ rolls-TypeOrIdentifier t')))

pub ruleset unlike = (unlike_Literal, unlike_Parenthesized, unlike_NamedComponent, unlike_Indexing, unlike_Unary, unlike_Binary, unlike_FunctionCall, unlike_TypeOrIdentifier)
