-- Variants are of no kind themselves.
use Rattle.std.proofs.Common.{◌≡◌, false, refl, sym, ap, ◌∙◌, rules}
use Rattle.wesl_tree_syntax.specs.Tree.{kind, type_expression, Tree}
use Rattle.wesl_tree_syntax.specs.View.{attribute_view, type_view, expression_view, expression_step, call_step, argument_step, type_step, statement_view, statement_step, compound_step, continuing_step, else_step, else_if_step, if_step, clause_step, global_view}
use Rattle.wesl_tree_syntax.specs.declared.attribute.Attribute.{Attribute}
use Rattle.wesl_tree_syntax.specs.declared.attribute.Attribute.TheVariants as attr
use Rattle.wesl_tree_syntax.specs.declared.declaration.GlobalDeclaration.{GlobalDeclaration}
use Rattle.wesl_tree_syntax.specs.declared.declaration.GlobalDeclaration.TheVariants as globals
use Rattle.wesl_tree_syntax.specs.declared.expression.Expression.{Expression, out-Expression, the_lemmas as type_lemmas}
use Rattle.wesl_tree_syntax.specs.declared.expression.Expression.TheFolds.{fold-roll-Expression}
use Rattle.wesl_tree_syntax.specs.declared.expression.Expression.TheOpen.{Expression-F}
use Rattle.wesl_tree_syntax.specs.declared.expression.Expression.TheViews as expressions
use Rattle.wesl_tree_syntax.specs.declared.expression.TypeExpression.{TypeExpression}
use Rattle.wesl_tree_syntax.specs.declared.statement.Statement.{Statement, out-Statement}
use Rattle.wesl_tree_syntax.specs.declared.statement.Statement.TheFolds.{fold-roll-Statement}
use Rattle.wesl_tree_syntax.specs.declared.statement.Statement.TheOpen.{Statement-F}
use Rattle.wesl_tree_syntax.specs.declared.statement.Statement.TheViews as statement_views
use Rattle.wesl_visit_collect.specs.Sought.{Sought}
use Rattle.wesl_visit_collect.specs.Picks.{picks}

pub type_label : (t : TypeExpression) → (type_view t).label ≡ kind type_expression
type_label t = search (rules, type_lemmas)

-- variants are of no kind themselves
expression_layer : (k : Sought) (x : Expression-F Tree Tree Tree Tree) → picks k (expression_step x).label ≡ false
expression_layer k (Expression-F.Literal l) = refl
expression_layer k (Expression-F.Parenthesized e) = refl
expression_layer k (Expression-F.NamedComponent b n) = refl
expression_layer k (Expression-F.Indexing b i) = refl
expression_layer k (Expression-F.Unary o e) = refl
expression_layer k (Expression-F.Binary o l r) = refl
expression_layer k (Expression-F.FunctionCall c) = refl
expression_layer k (Expression-F.TypeOrIdentifier t) = refl

pub expression_unpicked : (k : Sought) (e : Expression) → picks k (expression_view e).label ≡ false
expression_unpicked k e =
    ap (λ x. picks k (expression_view x).label) (sym (expressions.roll-out-Expression e))
    ∙ ap (λ t. picks k t.label) (fold-roll-Expression Tree Tree Tree Tree expression_step call_step argument_step type_step (out-Expression e)) ∙ expression_layer k _

statement_layer : (k : Sought) (x : Statement-F Tree Tree Tree Tree Tree Tree Tree) → picks k (statement_step x).label ≡ false
statement_layer k Statement-F.Void = refl
statement_layer k (Statement-F.Compound b) = refl
statement_layer k (Statement-F.Assignment a o l r) = refl
statement_layer k (Statement-F.Increment a e) = refl
statement_layer k (Statement-F.Decrement a e) = refl
statement_layer k (Statement-F.If a i es e) = refl
statement_layer k (Statement-F.Switch a e b cs) = refl
statement_layer k (Statement-F.Loop a b c) = refl
statement_layer k (Statement-F.For a i c u b) = refl
statement_layer k (Statement-F.While a e b) = refl
statement_layer k (Statement-F.Break a) = refl
statement_layer k (Statement-F.Continue a) = refl
statement_layer k (Statement-F.Return a e) = refl
statement_layer k (Statement-F.Discard a) = refl
statement_layer k (Statement-F.FunctionCall a c) = refl
statement_layer k (Statement-F.ConstAssert c) = refl
statement_layer k (Statement-F.Declaration d) = refl

pub statement_unpicked : (k : Sought) (s : Statement) → picks k (statement_view s).label ≡ false
statement_unpicked k s =
    ap (λ x. picks k (statement_view x).label) (sym (statement_views.roll-out-Statement s))
    ∙ ap (λ t. picks k t.label) (fold-roll-Statement Tree Tree Tree Tree Tree Tree Tree statement_step compound_step continuing_step else_step else_if_step if_step clause_step (out-Statement s)) ∙ statement_layer k _

pub attribute_unpicked : (k : Sought) (a : Attribute) → picks k (attribute_view a).label ≡ false
attribute_unpicked k (attr.Align e) = refl
attribute_unpicked k (attr.Binding e) = refl
attribute_unpicked k (attr.BlendSrc e) = refl
attribute_unpicked k (attr.Builtin n) = refl
attribute_unpicked k attr.Const = refl
attribute_unpicked k (attr.Diagnostic s r) = refl
attribute_unpicked k (attr.Group e) = refl
attribute_unpicked k (attr.Id e) = refl
attribute_unpicked k (attr.Interpolate ns) = refl
attribute_unpicked k attr.Invariant = refl
attribute_unpicked k (attr.Location e) = refl
attribute_unpicked k attr.MustUse = refl
attribute_unpicked k (attr.Size e) = refl
attribute_unpicked k (attr.WorkgroupSize x y z) = refl
attribute_unpicked k attr.Vertex = refl
attribute_unpicked k attr.Fragment = refl
attribute_unpicked k attr.Compute = refl
attribute_unpicked k attr.Publish = refl
attribute_unpicked k (attr.If e) = refl
attribute_unpicked k (attr.Elif e) = refl
attribute_unpicked k attr.Else = refl
attribute_unpicked k (attr.Custom n es) = refl

pub global_unpicked : (k : Sought) (d : GlobalDeclaration) → picks k (global_view d).label ≡ false
global_unpicked k globals.Void = refl
global_unpicked k (globals.Declaration d) = refl
global_unpicked k (globals.TypeAlias a) = refl
global_unpicked k (globals.Struct s) = refl
global_unpicked k (globals.Function f) = refl
global_unpicked k (globals.ConstAssert c) = refl
