-- The tree of each expression by its parts.
use Rattle.std.proofs.Common.{◌≡◌, [], ◌∷◌, Option, Some, None, String, Vec, Global, refl, rules}
use mathlib.Core.List.{map-map}
use Rattle.std.specs.Box.{box_value}
use Rattle.std.specs.Global.{Box}
use Rattle.wesl_tree_names.specs.declared.names.Ident.{Ident}
use Rattle.wesl_tree_names.specs.declared.path.ModulePath.{ModulePath}
use Rattle.wesl_tree_syntax.specs.Tree.{Tree, binary, unary, forest_of, branch, reference, literal, parenthesized, named_component, indexing, call_expression, type_or_identifier, type_expression, list}
use Rattle.wesl_tree_syntax.specs.View.{expression_tree, expression_view, call_view, type_view, argument_view, listed, optional, boxed_path, ident_tree, text_tree, literal_tree, type_step}
use Rattle.wesl_tree_syntax.specs.declared.span.Spanned.{Spanned}
use Rattle.wesl_tree_syntax.specs.declared.expression.UnaryOperator.{UnaryOperator}
use Rattle.wesl_tree_syntax.specs.declared.expression.BinaryOperator.{BinaryOperator}
use Rattle.wesl_tree_syntax.specs.declared.expression.Literal.{Literal as Literal_}
use Rattle.wesl_tree_syntax.specs.declared.expression.Expression.{Expression, the_lemmas, Literal, Parenthesized, NamedComponent, Indexing, Unary, Binary, FunctionCall as Call, TypeOrIdentifier}
use Rattle.wesl_tree_syntax.specs.declared.expression.FunctionCall.{FunctionCall}
use Rattle.wesl_tree_syntax.specs.declared.expression.TypeExpression.{TypeExpression, map-TypeExpression}
use Rattle.wesl_tree_syntax.specs.declared.expression.TemplateArg.{TemplateArg}

pub view-literal : (x : Expression) (l : Literal_) → x ≡ Literal l → expression_view x ≡ branch literal (literal_tree l ∷ [])
view-literal x l is = search (rules, the_lemmas)

pub view-parenthesized : (x : Expression) (e : Box (Spanned Expression)) → x ≡ Parenthesized e → expression_view x ≡ branch parenthesized (expression_tree (box_value e) ∷ [])
view-parenthesized x e is = search (rules, the_lemmas)

pub view-component : (x : Expression) (e : Box (Spanned Expression)) (s : String Global) → x ≡ NamedComponent e s → expression_view x ≡ branch named_component (expression_tree (box_value e) ∷ text_tree s ∷ [])
view-component x e s is = search (rules, the_lemmas)

pub view-indexing : (x : Expression) (b i : Box (Spanned Expression)) → x ≡ Indexing b i → expression_view x ≡ branch indexing (expression_tree (box_value b) ∷ expression_tree (box_value i) ∷ [])
view-indexing x b i is = search (rules, the_lemmas)

pub view-unary : (x : Expression) (o : UnaryOperator) (e : Box (Spanned Expression)) → x ≡ Unary o e → expression_view x ≡ record { label = unary o; children = forest_of (expression_tree (box_value e) ∷ []) }
view-unary x o e is = search (rules, the_lemmas)

pub view-binary : (x : Expression) (o : BinaryOperator) (l r : Box (Spanned Expression)) → x ≡ Binary o l r → expression_view x ≡ record { label = binary o; children = forest_of (expression_tree (box_value l) ∷ expression_tree (box_value r) ∷ []) }
view-binary x o l r is = search (rules, the_lemmas)

pub view-call : (x : Expression) (c : FunctionCall) → x ≡ Call c → expression_view x ≡ branch call_expression (call_view c ∷ [])
view-call x c is = search (rules, the_lemmas)

pub view-type : (x : Expression) (t : TypeExpression) → x ≡ TypeOrIdentifier t → expression_view x ≡ branch type_or_identifier (type_view t ∷ [])
view-type x t is = search (rules, the_lemmas)

mapped-type : (p : Option (Box ModulePath)) (i : Ident) (o : Option (Vec TemplateArg Global)) → type_step (map-TypeExpression Expression FunctionCall TemplateArg TypeExpression Tree Tree Tree Tree expression_view call_view argument_view type_view (record { path = p; ident = i; template_args = o })) ≡ branch type_expression (optional boxed_path p ∷ ident_tree reference i ∷ optional (listed argument_view list) o ∷ [])
mapped-type p i None = refl
mapped-type p i (Some v) = simp map-map
