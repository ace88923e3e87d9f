-- A statement of another variant is not void.
use Rattle.std.proofs.Common.{◌≡◌, false, refl, sym, ap, ◌∙◌}
use Rattle.wesl_tree_syntax.specs.Tree.{Tree, end, before}
use Rattle.wesl_tree_syntax.specs.Unit.{begins_void}
use Rattle.wesl_tree_syntax.specs.View.{clause_step, clause_view, compound_step, compound_view, continuing_step, continuing_view, else_if_step, else_if_view, else_step, else_view, if_step, if_view, statement_step, statement_view}
use Rattle.wesl_tree_syntax.specs.declared.statement.CompoundStatement.{CompoundStatement}
use Rattle.wesl_tree_syntax.specs.declared.statement.ContinuingStatement.{ContinuingStatement}
use Rattle.wesl_tree_syntax.specs.declared.statement.ElseClause.{ElseClause}
use Rattle.wesl_tree_syntax.specs.declared.statement.ElseIfClause.{ElseIfClause}
use Rattle.wesl_tree_syntax.specs.declared.statement.IfClause.{IfClause}
use Rattle.wesl_tree_syntax.specs.declared.statement.SwitchClause.{SwitchClause}
use Rattle.wesl_tree_syntax.specs.declared.statement.Statement.{Statement, map-Statement, out-Statement, roll-Statement}
use Rattle.wesl_tree_syntax.specs.declared.statement.Statement as made
use Rattle.wesl_tree_syntax.specs.declared.statement.Statement.TheFolds.{fold-roll-Statement}
use Rattle.wesl_tree_syntax.specs.declared.statement.Statement.TheOpen.{Statement-F}
use Rattle.wesl_tree_syntax.specs.declared.statement.Statement.TheViews.{roll-out-Statement, rolls-Void}

-- one level
abbrev Layer : Type 0
Layer = Statement-F Statement CompoundStatement ContinuingStatement ElseClause ElseIfClause IfClause SwitchClause

-- and its tree
abbrev layer_tree : Layer → Tree
layer_tree layer = statement_step (map-Statement Statement CompoundStatement ContinuingStatement ElseClause ElseIfClause IfClause SwitchClause Tree Tree Tree Tree Tree Tree Tree statement_view compound_view continuing_view else_view else_if_view if_view clause_view layer)

not_void_at : (layer : Layer) → (layer ≡ Statement-F.Void → ⊥) → begins_void (before (layer_tree layer) end) ≡ false
not_void_at Statement-F.Void h = absurd (h refl)
not_void_at _ h = refl

pub not_void : (x : Statement) → (x ≡ made.Void → ⊥) → begins_void (before (statement_view x) end) ≡ false
not_void x h =
    ap (λ y. begins_void (before (statement_view y) end)) (sym (roll-out-Statement x))
    ∙ ap (λ t. begins_void (before t end)) (fold-roll-Statement Tree Tree Tree Tree Tree Tree Tree statement_step compound_step continuing_step else_step else_if_step if_step clause_step (out-Statement x))
    ∙ not_void_at (out-Statement x) (λ same. h (sym (roll-out-Statement x) ∙ ap roll-Statement same ∙ rolls-Void))
