-- The tree of a node, level by level.
use Rattle.std.proofs.Common.{◌≡◌, ℕ, ◌∙◌, ap, ◌&&◌, Option}
use Rattle.wesl_tree_syntax.specs.Tree.{list, Tree, tree_below, clauses}
use Rattle.wesl_tree_syntax.specs.View.{argument_view, entry_view, content_view, content_step, entry_step, expression_tree, listed, attributes_tree, expression_step, call_step, argument_step, type_step, statement_view, if_view, else_if_view, else_view, clause_view, optional}
use Rattle.std.specs.Global.{Vec}
use Rattle.wesl_tree_syntax.specs.declared.attribute.Attribute.{Attribute}
use Rattle.wesl_tree_syntax.specs.declared.statement.ElseClause.{ElseClause}
use Rattle.wesl_tree_syntax.specs.declared.statement.ElseIfClause.{ElseIfClause}
use Rattle.wesl_tree_syntax.specs.declared.statement.IfClause.{IfClause}
use Rattle.wesl_tree_syntax.specs.declared.statement.SwitchClause.{SwitchClause}
use Rattle.wesl_tree_syntax.specs.declared.statement.Statement.{Statement}
use Rattle.wesl_tree_syntax.specs.declared.statement.Statement as made
use Rattle.wesl_tree_syntax.specs.declared.span.Spanned.{Spanned}
use Rattle.wesl_tree_syntax.specs.declared.expression.Expression.{Expression}
use Rattle.wesl_tree_syntax.specs.declared.expression.TemplateArg.{TemplateArg, out-TemplateArg}
use Rattle.wesl_tree_syntax.specs.declared.expression.Expression.TheFolds.{fold_out-TemplateArg}
use Rattle.wesl_tree_syntax.specs.declared.import.Import.{Import, out-Import}
use Rattle.wesl_tree_syntax.specs.declared.import.ImportContent.TheFolds.{fold_out-Import}
use Rattle.wesl_tree_bounds.proofs.Below.{four}
use Rattle.wesl_tree_syntax.proofs.Views.{view_if, view_switch}
use mathlib.Core.Bool.{and-true}

-- an argument lies below where its expression does
pub argument_below : (n : ℕ) (a : TemplateArg) → tree_below n (argument_view a) ≡ tree_below n (expression_tree (out-TemplateArg a).expression)
argument_below n a = ap (tree_below n) (fold_out-TemplateArg Tree Tree Tree Tree expression_step call_step argument_step type_step a) ∙ and-true _

-- an entry lies below where its content does
pub entry_below : (n : ℕ) (i : Import) → tree_below n (entry_view i) ≡ tree_below n (content_view (out-Import i).content)
entry_below n i = ap (tree_below n) (fold_out-Import Tree Tree content_step entry_step i) ∙ and-true _

-- the tests of a statement with `if`, and of one with `switch`
pub if_below : (n : ℕ) (s : Statement) (a : Vec (Spanned Attribute)) (i : IfClause) (es : Vec ElseIfClause) (e : Option ElseClause) → s ≡ made.If a i es e
    → tree_below n (statement_view s) ≡ (((tree_below n (attributes_tree a) && tree_below n (if_view i)) && tree_below n (listed else_if_view list es)) && tree_below n (optional else_view e))
if_below n s a i es e is =
    ap (λ t. tree_below n (statement_view t)) is
    ∙ (ap (tree_below n) (view_if a i es e) ∙ four (tree_below n (attributes_tree a)) (tree_below n (if_view i)) (tree_below n (listed else_if_view list es)) (tree_below n (optional else_view e)))

pub switch_below : (n : ℕ) (s : Statement) (a : Vec (Spanned Attribute)) (e : Spanned Expression) (b : Vec (Spanned Attribute)) (cs : Vec SwitchClause) → s ≡ made.Switch a e b cs
    → tree_below n (statement_view s) ≡ (((tree_below n (attributes_tree a) && tree_below n (expression_tree e)) && tree_below n (attributes_tree b)) && tree_below n (listed clause_view clauses cs))
switch_below n s a e b cs is =
    ap (λ t. tree_below n (statement_view t)) is
    ∙ (ap (tree_below n) (view_switch a e b cs) ∙ four (tree_below n (attributes_tree a)) (tree_below n (expression_tree e)) (tree_below n (attributes_tree b)) (tree_below n (listed clause_view clauses cs)))
