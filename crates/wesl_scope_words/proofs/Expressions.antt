-- Expressions and types declare no name.
use Rattle.std.proofs.Common.{◌≡◌, true, List, [], ◌∷◌, map, refl, sym, subst, Vec, Global, Option, None, Some}
use Rattle.std.specs.Global.{Box}
use Rattle.wesl_tree_names.specs.declared.path.ModulePath.{ModulePath}
use Rattle.wesl_tree_names.specs.declared.Ident.{Ident}
use Rattle.wesl_tree_syntax.specs.Tree.{Tree, forest_of, expression_node}
use Rattle.wesl_tree_syntax.specs.View.{expression_view, call_view, argument_view, type_view, expression_step, call_step, argument_step, type_step, placed, literal_tree}
use Rattle.wesl_tree_syntax.specs.declared.span.Spanned.{Spanned}
use Rattle.wesl_tree_syntax.specs.declared.expression.Literal.{Literal as LiteralValue}
use Rattle.wesl_tree_syntax.specs.declared.expression.Literal.TheVariants as literals
use Rattle.wesl_tree_syntax.specs.declared.expression.Expression.{Expression, map-Expression}
use Rattle.wesl_tree_syntax.specs.declared.expression.FunctionCall.{FunctionCall, map-FunctionCall}
use Rattle.wesl_tree_syntax.specs.declared.expression.TemplateArg.{TemplateArg, map-TemplateArg}
use Rattle.wesl_tree_syntax.specs.declared.expression.TypeExpression.{TypeExpression, map-TypeExpression}
use Rattle.wesl_tree_syntax.specs.declared.expression.Expression.TheOpen.{Expression-F, FunctionCall-F, TemplateArg-F}
use Rattle.wesl_tree_syntax.specs.declared.expression.Expression.TheFolds.{ind-Expression, ind-TypeExpression, ind-FunctionCall, fold-roll-Expression, fold-roll-FunctionCall, fold-roll-TemplateArg, fold-roll-TypeExpression}
use Rattle.wesl_scope_words.proofs.Quiet.{is_quiet, IsQuiet}
use Rattle.wesl_tree_syntax.proofs.Seen.{type_seen, argument_seen, call_seen, expression_seen}

abbrev Quiet_expression : Type 0
Quiet_expression = (e : Expression) × IsQuiet (expression_view e)

abbrev Quiet_call : Type 0
Quiet_call = (c : FunctionCall) × IsQuiet (call_view c)

abbrev Quiet_argument : Type 0
Quiet_argument = (a : TemplateArg) × IsQuiet (argument_view a)

abbrev Quiet_type : Type 0
Quiet_type = (t : TypeExpression) × IsQuiet (type_view t)

literal_quiet : (l : LiteralValue) → IsQuiet (literal_tree l)
literal_quiet (literals.Bool b) = refl
literal_quiet (literals.Text s) = refl

-- one level of each type, where what is in it is plain
expression_each : (y : Expression-F Quiet_expression Quiet_call Quiet_argument Quiet_type)
    → IsQuiet (expression_seen (map-Expression Quiet_expression Quiet_call Quiet_argument Quiet_type Expression FunctionCall TemplateArg TypeExpression (λ e. e.0) (λ e. e.0) (λ e. e.0) (λ e. e.0) y))
expression_each (Expression-F.Literal l) = rw (literal_quiet l) refl
expression_each (Expression-F.Parenthesized e) = rw e.value.node.1 refl
expression_each (Expression-F.NamedComponent b n) = rw b.value.node.1 refl
expression_each (Expression-F.Indexing b i) = rw (b.value.node.1, i.value.node.1) refl
expression_each (Expression-F.Unary o e) = rw e.value.node.1 refl
expression_each (Expression-F.Binary o l r) = rw (l.value.node.1, r.value.node.1) refl
expression_each (Expression-F.FunctionCall c) = rw c.1 refl
expression_each (Expression-F.TypeOrIdentifier t) = rw t.1 refl

nodes_each : (xs : List (Spanned Quiet_expression))
    → is_quiet (forest_of (map (placed (λ t. t) expression_node) (map (λ (s : Spanned Expression). record { node = expression_view s.node; span = s.span }) (map (λ (s : Spanned Quiet_expression). record { node = s.node.0; span = s.span }) xs)))) ≡ true
nodes_each [] = refl
nodes_each (x ∷ xs) = rw (x.node.1, nodes_each xs) refl

call_each : (y : FunctionCall-F Quiet_expression Quiet_call Quiet_argument Quiet_type)
    → IsQuiet (call_seen (map-FunctionCall Quiet_expression Quiet_call Quiet_argument Quiet_type Expression FunctionCall TemplateArg TypeExpression (λ e. e.0) (λ e. e.0) (λ e. e.0) (λ e. e.0) y))
call_each y = rw (y.ty.1, nodes_each y.arguments.items) refl

argument_each : (y : TemplateArg-F Quiet_expression Quiet_call Quiet_argument Quiet_type)
    → IsQuiet (argument_seen (map-TemplateArg Quiet_expression Quiet_call Quiet_argument Quiet_type Expression FunctionCall TemplateArg TypeExpression (λ e. e.0) (λ e. e.0) (λ e. e.0) (λ e. e.0) y))
argument_each y = rw y.expression.node.1 refl

arguments_each : (xs : List Quiet_argument) → is_quiet (forest_of (map (λ t. t) (map argument_view (map (λ a. a.0) xs)))) ≡ true
arguments_each [] = refl
arguments_each (x ∷ xs) = rw (x.1, arguments_each xs) refl

type_each : (p : Option (Box ModulePath)) (i : Ident) (o : Option (Vec Quiet_argument Global))
    → IsQuiet (type_seen (map-TypeExpression Quiet_expression Quiet_call Quiet_argument Quiet_type Expression FunctionCall TemplateArg TypeExpression (λ e. e.0) (λ e. e.0) (λ e. e.0) (λ e. e.0) (record { path = p; ident = i; template_args = o })))
type_each None i None = refl
type_each (Some p) i None = refl
type_each None i (Some v) = rw (arguments_each v.items) refl
type_each (Some p) i (Some v) = rw (arguments_each v.items) refl

pub expression_quiet : (e : Expression) → IsQuiet (expression_view e)
expression_quiet = ind-Expression (λ e. IsQuiet (expression_view e)) (λ c. IsQuiet (call_view c)) (λ a. IsQuiet (argument_view a)) (λ t. IsQuiet (type_view t))
    (λ x y is. subst IsQuiet (sym (fold-roll-Expression Tree Tree Tree Tree expression_step call_step argument_step type_step x)) (subst (λ z. IsQuiet (expression_seen z)) is (expression_each y)))
    (λ x y is. subst IsQuiet (sym (fold-roll-FunctionCall Tree Tree Tree Tree expression_step call_step argument_step type_step x)) (subst (λ z. IsQuiet (call_seen z)) is (call_each y)))
    (λ x y is. subst IsQuiet (sym (fold-roll-TemplateArg Tree Tree Tree Tree expression_step call_step argument_step type_step x)) (subst (λ z. IsQuiet (argument_seen z)) is (argument_each y)))
    (λ x y is. subst IsQuiet (sym (fold-roll-TypeExpression Tree Tree Tree Tree expression_step call_step argument_step type_step x)) (subst (λ z. IsQuiet (type_seen z)) is (type_each y.path y.ident y.template_args)))

pub type_quiet : (t : TypeExpression) → IsQuiet (type_view t)
type_quiet = ind-TypeExpression (λ e. IsQuiet (expression_view e)) (λ c. IsQuiet (call_view c)) (λ a. IsQuiet (argument_view a)) (λ t. IsQuiet (type_view t))
    (λ x y is. subst IsQuiet (sym (fold-roll-Expression Tree Tree Tree Tree expression_step call_step argument_step type_step x)) (subst (λ z. IsQuiet (expression_seen z)) is (expression_each y)))
    (λ x y is. subst IsQuiet (sym (fold-roll-FunctionCall Tree Tree Tree Tree expression_step call_step argument_step type_step x)) (subst (λ z. IsQuiet (call_seen z)) is (call_each y)))
    (λ x y is. subst IsQuiet (sym (fold-roll-TemplateArg Tree Tree Tree Tree expression_step call_step argument_step type_step x)) (subst (λ z. IsQuiet (argument_seen z)) is (argument_each y)))
    (λ x y is. subst IsQuiet (sym (fold-roll-TypeExpression Tree Tree Tree Tree expression_step call_step argument_step type_step x)) (subst (λ z. IsQuiet (type_seen z)) is (type_each y.path y.ident y.template_args)))

pub call_quiet : (c : FunctionCall) → IsQuiet (call_view c)
call_quiet = ind-FunctionCall (λ e. IsQuiet (expression_view e)) (λ c. IsQuiet (call_view c)) (λ a. IsQuiet (argument_view a)) (λ t. IsQuiet (type_view t))
    (λ x y is. subst IsQuiet (sym (fold-roll-Expression Tree Tree Tree Tree expression_step call_step argument_step type_step x)) (subst (λ z. IsQuiet (expression_seen z)) is (expression_each y)))
    (λ x y is. subst IsQuiet (sym (fold-roll-FunctionCall Tree Tree Tree Tree expression_step call_step argument_step type_step x)) (subst (λ z. IsQuiet (call_seen z)) is (call_each y)))
    (λ x y is. subst IsQuiet (sym (fold-roll-TemplateArg Tree Tree Tree Tree expression_step call_step argument_step type_step x)) (subst (λ z. IsQuiet (argument_seen z)) is (argument_each y)))
    (λ x y is. subst IsQuiet (sym (fold-roll-TypeExpression Tree Tree Tree Tree expression_step call_step argument_step type_step x)) (subst (λ z. IsQuiet (type_seen z)) is (type_each y.path y.ident y.template_args)))
