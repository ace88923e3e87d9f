-- A statement in which no list lies.
use Rattle.std.proofs.Common.{◌≡◌, ℕ, cond, false, refl, sym, ap, ◌∙◌, Box, Global, Option, Vec}
use Rattle.wesl_cond_chains.specs.Chains.{residual_list}
use Rattle.wesl_cond_chains.specs.Lists.{element, holds_body, is_entered, judged, through}
use Rattle.wesl_cond_chains.specs.Residual.{residual_tree}
use Rattle.wesl_cond_features.specs.Answers.{Answers}
use Rattle.wesl_tree_syntax.specs.Tree.{Tree}
use Rattle.wesl_tree_syntax.specs.View.{clause_step, clause_view, compound_step, compound_view, continuing_step, continuing_view, else_if_step, else_if_view, else_step, else_view, if_step, if_view, statement_step, statement_view}
use Rattle.wesl_tree_syntax.specs.declared.attribute.Attribute.{Attribute}
use Rattle.wesl_tree_syntax.specs.declared.expression.Expression.{Expression}
use Rattle.wesl_tree_syntax.specs.declared.span.Spanned.{Spanned}
use Rattle.wesl_tree_syntax.specs.declared.statement.CompoundStatement.{CompoundStatement}
use Rattle.wesl_tree_syntax.specs.declared.statement.ContinuingStatement.{ContinuingStatement}
use Rattle.wesl_tree_syntax.specs.declared.statement.ElseClause.{ElseClause}
use Rattle.wesl_tree_syntax.specs.declared.statement.ElseIfClause.{ElseIfClause}
use Rattle.wesl_tree_syntax.specs.declared.statement.IfClause.{IfClause}
use Rattle.wesl_tree_syntax.specs.declared.statement.SwitchClause.{SwitchClause}
use Rattle.wesl_tree_syntax.specs.declared.statement.Statement.{Statement, map-Statement, out-Statement, roll-Statement}
use Rattle.wesl_tree_syntax.specs.declared.statement.Statement as made
use Rattle.wesl_tree_syntax.specs.declared.statement.Statement.TheFolds.{fold-roll-Statement}
use Rattle.wesl_tree_syntax.specs.declared.statement.Statement.TheOpen.{Statement-F}
use Rattle.wesl_tree_syntax.specs.declared.statement.Statement.TheViews.{roll-out-Statement, rolls-Compound, rolls-For, rolls-If, rolls-Loop, rolls-Switch, rolls-While}

-- one level
abbrev Layer : Type 0
Layer = Statement-F Statement CompoundStatement ContinuingStatement ElseClause ElseIfClause IfClause SwitchClause

-- and its tree
abbrev layer_tree : Layer → Tree
layer_tree layer = statement_step (map-Statement Statement CompoundStatement ContinuingStatement ElseClause ElseIfClause IfClause SwitchClause Tree Tree Tree Tree Tree Tree Tree statement_view compound_view continuing_view else_view else_if_view if_view clause_view layer)

leaf_at : (layer : Layer)
    → ((b : CompoundStatement) → layer ≡ Statement-F.Compound b → ⊥)
    → ((a : Vec (Spanned Attribute) Global) (i : IfClause) (es : Vec ElseIfClause Global) (e : Option ElseClause) → layer ≡ Statement-F.If a i es e → ⊥)
    → ((a : Vec (Spanned Attribute) Global) (e : Spanned Expression) (b : Vec (Spanned Attribute) Global) (cs : Vec SwitchClause Global) → layer ≡ Statement-F.Switch a e b cs → ⊥)
    → ((a : Vec (Spanned Attribute) Global) (b : CompoundStatement) (o : Option ContinuingStatement) → layer ≡ Statement-F.Loop a b o → ⊥)
    → ((a : Vec (Spanned Attribute) Global) (i : Option (Box (Spanned Statement) Global)) (c : Option (Spanned Expression)) (u : Option (Box (Spanned Statement) Global)) (b : CompoundStatement) → layer ≡ Statement-F.For a i c u b → ⊥)
    → ((a : Vec (Spanned Attribute) Global) (e : Spanned Expression) (b : CompoundStatement) → layer ≡ Statement-F.While a e b → ⊥)
    → is_entered (layer_tree layer).label ≡ false
leaf_at (Statement-F.Compound b) n0 n1 n2 n3 n4 n5 = absurd (n0 b refl)
leaf_at (Statement-F.If a i es e) n0 n1 n2 n3 n4 n5 = absurd (n1 a i es e refl)
leaf_at (Statement-F.Switch a e b cs) n0 n1 n2 n3 n4 n5 = absurd (n2 a e b cs refl)
leaf_at (Statement-F.Loop a b o) n0 n1 n2 n3 n4 n5 = absurd (n3 a b o refl)
leaf_at (Statement-F.For a i c u b) n0 n1 n2 n3 n4 n5 = absurd (n4 a i c u b refl)
leaf_at (Statement-F.While a e b) n0 n1 n2 n3 n4 n5 = absurd (n5 a e b refl)
leaf_at _ n0 n1 n2 n3 n4 n5 = refl

pub no_list : (x : Statement)
    → ((b : CompoundStatement) → x ≡ made.Compound b → ⊥)
    → ((a : Vec (Spanned Attribute) Global) (i : IfClause) (es : Vec ElseIfClause Global) (e : Option ElseClause) → x ≡ made.If a i es e → ⊥)
    → ((a : Vec (Spanned Attribute) Global) (e : Spanned Expression) (b : Vec (Spanned Attribute) Global) (cs : Vec SwitchClause Global) → x ≡ made.Switch a e b cs → ⊥)
    → ((a : Vec (Spanned Attribute) Global) (b : CompoundStatement) (o : Option ContinuingStatement) → x ≡ made.Loop a b o → ⊥)
    → ((a : Vec (Spanned Attribute) Global) (i : Option (Box (Spanned Statement) Global)) (c : Option (Spanned Expression)) (u : Option (Box (Spanned Statement) Global)) (b : CompoundStatement) → x ≡ made.For a i c u b → ⊥)
    → ((a : Vec (Spanned Attribute) Global) (e : Spanned Expression) (b : CompoundStatement) → x ≡ made.While a e b → ⊥)
    → is_entered (statement_view x).label ≡ false
no_list x n0 n1 n2 n3 n4 n5 =
    ap (λ y. is_entered (statement_view y).label) (sym (roll-out-Statement x))
    ∙ ap (λ t. is_entered t.label) (fold-roll-Statement Tree Tree Tree Tree Tree Tree Tree statement_step compound_step continuing_step else_step else_if_step if_step clause_step (out-Statement x))
    ∙ leaf_at (out-Statement x)
    (λ b same. n0 b (sym (roll-out-Statement x) ∙ ap roll-Statement same ∙ rolls-Compound b))
    (λ a i es e same. n1 a i es e (sym (roll-out-Statement x) ∙ ap roll-Statement same ∙ rolls-If a i es e))
    (λ a e b cs same. n2 a e b cs (sym (roll-out-Statement x) ∙ ap roll-Statement same ∙ rolls-Switch a e b cs))
    (λ a b o same. n3 a b o (sym (roll-out-Statement x) ∙ ap roll-Statement same ∙ rolls-Loop a b o))
    (λ a i c u b same. n4 a i c u b (sym (roll-out-Statement x) ∙ ap roll-Statement same ∙ rolls-For a i c u b))
    (λ a e b same. n5 a e b (sym (roll-out-Statement x) ∙ ap roll-Statement same ∙ rolls-While a e b))

-- a tree that is not entered is left as it is
pub leaf_left : (known : Answers ℕ) (t : Tree) → is_entered t.label ≡ false → t ≡ residual_tree known t
leaf_left known t e =
    let judge = residual_list element known in
    ap (λ b. record { label = t.label; children = cond b (judged judge false t.label (through judge (holds_body false t.label) t.children)) t.children }) (sym e)
