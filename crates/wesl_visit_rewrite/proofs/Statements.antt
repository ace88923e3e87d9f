-- The trees of statements and of the clauses in them, by the trees of their parts.
use Rattle.std.proofs.Common.{◌≡◌, [], ◌∷◌, sym, ap, ◌∙◌, Global, Option, Vec}
use mathlib.Core.List.{map-map}
use Rattle.wesl_tree_syntax.specs.Tree.{branch, compound, continuing, else_clause, else_if_clause, if_clause, list, statements, switch_clause, Tree}
use Rattle.wesl_tree_syntax.specs.View.{attributes_tree, break_if_view, clause_step, clause_view, compound_step, compound_view, continuing_step, continuing_view, else_if_step, else_if_view, else_step, else_view, expression_tree, if_step, if_view, listed, optional, selector_view, statement_step, statement_tree}
use Rattle.wesl_tree_syntax.specs.declared.attribute.Attribute.{Attribute}
use Rattle.wesl_tree_syntax.specs.declared.expression.Expression.{Expression}
use Rattle.wesl_tree_syntax.specs.declared.span.Spanned.{Spanned}
use Rattle.wesl_tree_syntax.specs.declared.statement.BreakIfStatement.{BreakIfStatement}
use Rattle.wesl_tree_syntax.specs.declared.statement.CaseSelector.{CaseSelector}
use Rattle.wesl_tree_syntax.specs.declared.statement.CompoundStatement.{CompoundStatement, out-CompoundStatement, roll-CompoundStatement}
use Rattle.wesl_tree_syntax.specs.declared.statement.ContinuingStatement.{ContinuingStatement, out-ContinuingStatement, roll-ContinuingStatement}
use Rattle.wesl_tree_syntax.specs.declared.statement.ElseClause.{ElseClause, out-ElseClause, roll-ElseClause}
use Rattle.wesl_tree_syntax.specs.declared.statement.ElseIfClause.{ElseIfClause, out-ElseIfClause, roll-ElseIfClause}
use Rattle.wesl_tree_syntax.specs.declared.statement.IfClause.{IfClause, out-IfClause, roll-IfClause}
use Rattle.wesl_tree_syntax.specs.declared.statement.SwitchClause.{SwitchClause, out-SwitchClause, roll-SwitchClause}
use Rattle.wesl_tree_syntax.specs.declared.statement.Statement.{Statement}
use Rattle.wesl_tree_syntax.specs.declared.statement.Statement.TheFolds.{fold-roll-CompoundStatement, fold-roll-ContinuingStatement, fold-roll-ElseClause, fold-roll-ElseIfClause, fold-roll-IfClause, fold-roll-SwitchClause}
use Rattle.wesl_tree_syntax.specs.declared.statement.Statement.TheViews.{roll-out-CompoundStatement, roll-out-ContinuingStatement, roll-out-ElseClause, roll-out-ElseIfClause, roll-out-IfClause, roll-out-SwitchClause}

pub CompoundStatement_of : (a : Vec (Spanned Attribute) Global) (v : Vec (Spanned Statement) Global) → compound_view (roll-CompoundStatement (record { attributes = a; statements = v })) ≡ branch compound (attributes_tree a ∷ listed statement_tree statements v ∷ [])
CompoundStatement_of a v = fold-roll-CompoundStatement Tree Tree Tree Tree Tree Tree Tree statement_step compound_step continuing_step else_step else_if_step if_step clause_step (record { attributes = a; statements = v }) ∙ simp map-map

pub CompoundStatement_is : (s : CompoundStatement) → compound_view s ≡ branch compound (attributes_tree (out-CompoundStatement s).attributes ∷ listed statement_tree statements (out-CompoundStatement s).statements ∷ [])
CompoundStatement_is s = ap compound_view (sym (roll-out-CompoundStatement s)) ∙ CompoundStatement_of (out-CompoundStatement s).attributes (out-CompoundStatement s).statements

pub ElseClause_of : (a : Vec (Spanned Attribute) Global) (b : CompoundStatement) → else_view (roll-ElseClause (record { attributes = a; body = b })) ≡ branch else_clause (attributes_tree a ∷ compound_view b ∷ [])
ElseClause_of a b = fold-roll-ElseClause Tree Tree Tree Tree Tree Tree Tree statement_step compound_step continuing_step else_step else_if_step if_step clause_step (record { attributes = a; body = b })

pub ElseClause_is : (s : ElseClause) → else_view s ≡ branch else_clause (attributes_tree (out-ElseClause s).attributes ∷ compound_view (out-ElseClause s).body ∷ [])
ElseClause_is s = ap else_view (sym (roll-out-ElseClause s)) ∙ ElseClause_of (out-ElseClause s).attributes (out-ElseClause s).body

pub ElseIfClause_of : (a : Vec (Spanned Attribute) Global) (e : Spanned Expression) (b : CompoundStatement) → else_if_view (roll-ElseIfClause (record { attributes = a; expression = e; body = b })) ≡ branch else_if_clause (attributes_tree a ∷ expression_tree e ∷ compound_view b ∷ [])
ElseIfClause_of a e b = fold-roll-ElseIfClause Tree Tree Tree Tree Tree Tree Tree statement_step compound_step continuing_step else_step else_if_step if_step clause_step (record { attributes = a; expression = e; body = b })

pub ElseIfClause_is : (s : ElseIfClause) → else_if_view s ≡ branch else_if_clause (attributes_tree (out-ElseIfClause s).attributes ∷ expression_tree (out-ElseIfClause s).expression ∷ compound_view (out-ElseIfClause s).body ∷ [])
ElseIfClause_is s = ap else_if_view (sym (roll-out-ElseIfClause s)) ∙ ElseIfClause_of (out-ElseIfClause s).attributes (out-ElseIfClause s).expression (out-ElseIfClause s).body

pub IfClause_of : (e : Spanned Expression) (b : CompoundStatement) → if_view (roll-IfClause (record { expression = e; body = b })) ≡ branch if_clause (expression_tree e ∷ compound_view b ∷ [])
IfClause_of e b = fold-roll-IfClause Tree Tree Tree Tree Tree Tree Tree statement_step compound_step continuing_step else_step else_if_step if_step clause_step (record { expression = e; body = b })

pub IfClause_is : (s : IfClause) → if_view s ≡ branch if_clause (expression_tree (out-IfClause s).expression ∷ compound_view (out-IfClause s).body ∷ [])
IfClause_is s = ap if_view (sym (roll-out-IfClause s)) ∙ IfClause_of (out-IfClause s).expression (out-IfClause s).body

pub SwitchClause_of : (a : Vec (Spanned Attribute) Global) (cs : Vec CaseSelector Global) (b : CompoundStatement) → clause_view (roll-SwitchClause (record { attributes = a; case_selectors = cs; body = b })) ≡ branch switch_clause (attributes_tree a ∷ listed selector_view list cs ∷ compound_view b ∷ [])
SwitchClause_of a cs b = fold-roll-SwitchClause Tree Tree Tree Tree Tree Tree Tree statement_step compound_step continuing_step else_step else_if_step if_step clause_step (record { attributes = a; case_selectors = cs; body = b })

pub SwitchClause_is : (s : SwitchClause) → clause_view s ≡ branch switch_clause (attributes_tree (out-SwitchClause s).attributes ∷ listed selector_view list (out-SwitchClause s).case_selectors ∷ compound_view (out-SwitchClause s).body ∷ [])
SwitchClause_is s = ap clause_view (sym (roll-out-SwitchClause s)) ∙ SwitchClause_of (out-SwitchClause s).attributes (out-SwitchClause s).case_selectors (out-SwitchClause s).body

pub ContinuingStatement_of : (a : Vec (Spanned Attribute) Global) (b : CompoundStatement) (o : Option BreakIfStatement) → continuing_view (roll-ContinuingStatement (record { attributes = a; body = b; break_if = o })) ≡ branch continuing (attributes_tree a ∷ compound_view b ∷ optional break_if_view o ∷ [])
ContinuingStatement_of a b o = fold-roll-ContinuingStatement Tree Tree Tree Tree Tree Tree Tree statement_step compound_step continuing_step else_step else_if_step if_step clause_step (record { attributes = a; body = b; break_if = o })

pub ContinuingStatement_is : (s : ContinuingStatement) → continuing_view s ≡ branch continuing (attributes_tree (out-ContinuingStatement s).attributes ∷ compound_view (out-ContinuingStatement s).body ∷ optional break_if_view (out-ContinuingStatement s).break_if ∷ [])
ContinuingStatement_is s = ap continuing_view (sym (roll-out-ContinuingStatement s)) ∙ ContinuingStatement_of (out-ContinuingStatement s).attributes (out-ContinuingStatement s).body (out-ContinuingStatement s).break_if
