-- The trees of the nodes that are made.
use Rattle.std.proofs.Common.{◌≡◌, ℕ, [], ◌∷◌, Bool, Option, Some, None, String, Vec, Global, string_bytes, sym, ap, ◌∙◌, rules}
use mathlib.Core.List.{map-map}
use Rattle.std.specs.Box.{box_value}
use Rattle.std.specs.Global.{Box}
use Rattle.wesl_tree_names.specs.Path.{Text}
use Rattle.wesl_tree_names.specs.declared.names.Ident.{Ident}
use Rattle.wesl_tree_names.specs.declared.path.ModulePath.{ModulePath}
use Rattle.wesl_tree_syntax.specs.Tree.{unary, binary, truth, text, leaf, forest_of, branch, ident, reference, respell, literal, parenthesized, named_component, indexing, call_expression, call, type_expression, list}
use Rattle.wesl_tree_syntax.specs.View.{expression_tree, expression_view, call_view, type_view, argument_view, listed, optional, boxed_path}
use Rattle.wesl_tree_syntax.specs.declared.span.Spanned.{Spanned}
use Rattle.wesl_tree_syntax.specs.declared.expression.UnaryOperator.{UnaryOperator}
use Rattle.wesl_tree_syntax.specs.declared.expression.BinaryOperator.{BinaryOperator}
use Rattle.wesl_tree_syntax.specs.declared.expression.Literal.TheVariants as literals
use Rattle.wesl_tree_syntax.specs.declared.expression.Expression.{Expression, the_lemmas, Parenthesized, NamedComponent, Indexing, Unary, Binary, Literal, FunctionCall as Call}
use Rattle.wesl_tree_syntax.specs.declared.expression.FunctionCall.{FunctionCall, roll-FunctionCall}
use Rattle.wesl_tree_syntax.specs.declared.expression.TypeExpression.{TypeExpression, roll-TypeExpression}
use Rattle.wesl_tree_syntax.specs.declared.expression.TemplateArg.{TemplateArg}
use Rattle.wesl_text_reading.specs.Reading.{expression}
use Rattle.wesl_tree_syntax.proofs.Views.{view_call_of}

pub made_type : (p : Option (Box ModulePath)) (i : Ident) (args : Option (Vec TemplateArg Global)) → type_view (roll-TypeExpression (record { path = p; ident = i; template_args = args })) ≡ branch type_expression (optional boxed_path p ∷ leaf (ident reference i.0) ∷ optional (listed argument_view list) args ∷ [])
made_type p i None = search (rules, the_lemmas)
made_type p i (Some v) = search (rules, the_lemmas, map-map)

-- ---- expressions

pub view-truth : (b : Bool) → expression_view (Literal (literals.Bool b)) ≡ branch literal (leaf (truth b) ∷ [])
view-truth b = search (rules, the_lemmas)

pub view-literal : (s : String Global) → expression_view (Literal (literals.Text s)) ≡ branch literal (leaf (text (string_bytes s)) ∷ [])
view-literal s = search (rules, the_lemmas)

call-view : (c : FunctionCall) → expression_view (Call c) ≡ branch call_expression (call_view c ∷ [])
call-view c = search (rules, the_lemmas)

pub view-call : (t : TypeExpression) (v : Vec (Spanned Expression) Global) → expression_view (Call (roll-FunctionCall (record { ty = t; arguments = v }))) ≡ branch call_expression (branch call (type_view t ∷ listed expression_tree list v ∷ []) ∷ [])
view-call t v = call-view (roll-FunctionCall (record { ty = t; arguments = v })) ∙ ap (λ u. branch call_expression (u ∷ [])) (view_call_of t v)

-- an expression with its span, spelled
pub placed-tree : (f : ℕ → Text) (node : Expression) (made : Spanned Expression) → made.node ≡ node → expression (respell f (expression_view node)) ≡ respell f (expression_tree made)
placed-tree f node made h = ap (λ z. expression (respell f (expression_view z))) (sym h)
