-- The tree of each kind of node, by the trees of its parts.
use Rattle.std.proofs.Common.{None, Option, Some, [], ap, refl, rules, sym, ◌∙◌, ◌∷◌, ◌≡◌, String, Global}
use Rattle.std.specs.Box.{box_value}
use Rattle.std.specs.Global.{Box, Vec}
use Rattle.wesl_tree_names.specs.declared.names.Ident.{Ident}
use Rattle.wesl_tree_names.specs.declared.path.ModulePath.{ModulePath}
use Rattle.wesl_tree_syntax.specs.Tree.{Tree, assignment, binary, branch, break, call, call_expression, call_statement, clauses, compound, compound_statement, continue, continuing, decrement, discard, else_clause, else_if_clause, for_loop, forest_of, if_clause, if_statement, import_collection, import_entry, increment, indexing, list, literal, loop, named_component, parenthesized, reference, return, statements, switch, switch_clause, template_argument, type_expression, type_or_identifier, unary, void, while_loop}
use Rattle.wesl_tree_syntax.specs.View.{argument_step, argument_view, assert_view, attributes_tree, boxed_path, break_if_view, call_step, call_view, clause_step, clause_view, compound_step, compound_view, content_step, content_view, continuing_step, continuing_view, declaration_view, else_if_step, else_if_view, else_step, else_view, entry_step, entry_view, expression_step, expression_tree, expression_view, ident_tree, if_step, if_view, item_view, listed, literal_tree, names_tree, optional, selector_view, statement_step, statement_tree, statement_view, text_tree, type_step, type_view}
use Rattle.wesl_tree_syntax.specs.declared.attribute.Attribute.{Attribute}
use Rattle.wesl_tree_syntax.specs.declared.declaration.ConstAssert.{ConstAssert}
use Rattle.wesl_tree_syntax.specs.declared.declaration.Declaration.{Declaration}
use Rattle.wesl_tree_syntax.specs.declared.expression.BinaryOperator.{BinaryOperator}
use Rattle.wesl_tree_syntax.specs.declared.expression.Expression.{Expression}
use Rattle.wesl_tree_syntax.specs.declared.expression.Expression as expressions
use Rattle.wesl_tree_syntax.specs.declared.expression.Expression.TheFolds.{fold-roll-FunctionCall, fold-roll-TemplateArg, fold-roll-TypeExpression, fold_out-FunctionCall, fold_out-TemplateArg, fold_out-TypeExpression}
use Rattle.wesl_tree_syntax.specs.declared.expression.Expression.TheViews.{roll-out-TypeExpression}
use Rattle.wesl_tree_syntax.specs.declared.expression.FunctionCall.{FunctionCall, out-FunctionCall, roll-FunctionCall}
use Rattle.wesl_tree_syntax.specs.declared.expression.Literal.{Literal}
use Rattle.wesl_tree_syntax.specs.declared.expression.TemplateArg.{TemplateArg, out-TemplateArg, roll-TemplateArg}
use Rattle.wesl_tree_syntax.specs.declared.expression.TypeExpression.{TypeExpression, out-TypeExpression, roll-TypeExpression}
use Rattle.wesl_tree_syntax.specs.declared.expression.UnaryOperator.{UnaryOperator}
use Rattle.wesl_tree_syntax.specs.declared.import.Import.{Import, out-Import, roll-Import}
use Rattle.wesl_tree_syntax.specs.declared.import.ImportContent.{ImportContent}
use Rattle.wesl_tree_syntax.specs.declared.import.ImportContent as contents
use Rattle.wesl_tree_syntax.specs.declared.import.ImportContent.TheFolds.{fold-roll-Import, fold_out-Import}
use Rattle.wesl_tree_syntax.specs.declared.import.ImportItem.{ImportItem}
use Rattle.wesl_tree_syntax.specs.declared.span.Spanned.{Spanned}
use Rattle.wesl_tree_syntax.specs.declared.statement.AssignmentOperator.{AssignmentOperator}
use Rattle.wesl_tree_syntax.specs.declared.statement.BreakIfStatement.{BreakIfStatement}
use Rattle.wesl_tree_syntax.specs.declared.statement.CaseSelector.{CaseSelector}
use Rattle.wesl_tree_syntax.specs.declared.statement.CompoundStatement.{CompoundStatement, out-CompoundStatement, roll-CompoundStatement}
use Rattle.wesl_tree_syntax.specs.declared.statement.ContinuingStatement.{ContinuingStatement, out-ContinuingStatement, roll-ContinuingStatement}
use Rattle.wesl_tree_syntax.specs.declared.statement.ElseClause.{ElseClause, out-ElseClause, roll-ElseClause}
use Rattle.wesl_tree_syntax.specs.declared.statement.ElseIfClause.{ElseIfClause, out-ElseIfClause, roll-ElseIfClause}
use Rattle.wesl_tree_syntax.specs.declared.statement.IfClause.{IfClause, out-IfClause, roll-IfClause}
use Rattle.wesl_tree_syntax.specs.declared.statement.Statement.{Statement, the_lemmas}
use Rattle.wesl_tree_syntax.specs.declared.statement.Statement as made
use Rattle.wesl_tree_syntax.specs.declared.statement.Statement.TheFolds.{fold-roll-CompoundStatement, fold-roll-ContinuingStatement, fold-roll-ElseClause, fold-roll-ElseIfClause, fold-roll-IfClause, fold-roll-SwitchClause, fold_out-CompoundStatement, fold_out-ContinuingStatement, fold_out-ElseClause, fold_out-ElseIfClause, fold_out-IfClause, fold_out-SwitchClause}
use Rattle.wesl_tree_syntax.specs.declared.statement.SwitchClause.{SwitchClause, out-SwitchClause, roll-SwitchClause}
use mathlib.Core.List.{map-map}

-- expressions, types and calls

pub view_call : (c : FunctionCall) → call_view c ≡ branch call (type_view (out-FunctionCall c).ty ∷ listed expression_tree list (out-FunctionCall c).arguments ∷ [])
view_call c = fold_out-FunctionCall Tree Tree Tree Tree expression_step call_step argument_step type_step c ∙ simp map-map

pub view_call_of : (t : TypeExpression) (v : Vec (Spanned Expression)) → call_view (roll-FunctionCall (record { ty = t; arguments = v })) ≡ branch call (type_view t ∷ listed expression_tree list v ∷ [])
view_call_of t v = fold-roll-FunctionCall Tree Tree Tree Tree expression_step call_step argument_step type_step (record { ty = t; arguments = v }) ∙ simp map-map

pub view_type_of : (p : Option (Box ModulePath)) (i : Ident) (o : Option (Vec TemplateArg)) → type_view (roll-TypeExpression (record { path = p; ident = i; template_args = o }))
    ≡ branch type_expression (optional boxed_path p ∷ ident_tree reference i ∷ optional (listed argument_view list) o ∷ [])
view_type_of p i None = fold-roll-TypeExpression Tree Tree Tree Tree expression_step call_step argument_step type_step (record { path = p; ident = i; template_args = None })
view_type_of p i (Some v) = fold-roll-TypeExpression Tree Tree Tree Tree expression_step call_step argument_step type_step (record { path = p; ident = i; template_args = Some v }) ∙ simp map-map

pub view_type : (t : TypeExpression) → type_view t ≡ branch type_expression (optional boxed_path (out-TypeExpression t).path ∷ ident_tree reference (out-TypeExpression t).ident ∷ optional (listed argument_view list) (out-TypeExpression t).template_args ∷ [])
view_type t = ap type_view (sym (roll-out-TypeExpression t)) ∙ view_type_of (out-TypeExpression t).path (out-TypeExpression t).ident (out-TypeExpression t).template_args

pub type_of : (t : TypeExpression) (o : Option (Vec TemplateArg)) → (out-TypeExpression t).template_args ≡ o
    → type_view t ≡ branch type_expression (optional boxed_path (out-TypeExpression t).path ∷ ident_tree reference (out-TypeExpression t).ident ∷ optional (listed argument_view list) o ∷ [])
type_of t None is = fold_out-TypeExpression Tree Tree Tree Tree expression_step call_step argument_step type_step t ∙ rw is refl
type_of t (Some v) is = fold_out-TypeExpression Tree Tree Tree Tree expression_step call_step argument_step type_step t ∙ rw is (simp map-map)

pub view_argument : (a : TemplateArg) → argument_view a ≡ branch template_argument (expression_tree (out-TemplateArg a).expression ∷ [])
view_argument a = fold_out-TemplateArg Tree Tree Tree Tree expression_step call_step argument_step type_step a

pub view_argument_of : (e : Spanned Expression) → argument_view (roll-TemplateArg (record { expression = e })) ≡ branch template_argument (expression_tree e ∷ [])
view_argument_of e = fold-roll-TemplateArg Tree Tree Tree Tree expression_step call_step argument_step type_step (record { expression = e })

pub view_literal : (l : Literal) → expression_view (expressions.Literal l) ≡ branch literal (literal_tree l ∷ [])
view_literal l = search (rules, expressions.the_lemmas)

pub view_parenthesized : (e : Box (Spanned Expression)) → expression_view (expressions.Parenthesized e) ≡ branch parenthesized (expression_tree (box_value e) ∷ [])
view_parenthesized e = search (rules, expressions.the_lemmas)

pub view_named : (b : Box (Spanned Expression)) (n : String Global) → expression_view (expressions.NamedComponent b n) ≡ branch named_component (expression_tree (box_value b) ∷ text_tree n ∷ [])
view_named b n = search (rules, expressions.the_lemmas)

pub view_indexing : (b i : Box (Spanned Expression)) → expression_view (expressions.Indexing b i) ≡ branch indexing (expression_tree (box_value b) ∷ expression_tree (box_value i) ∷ [])
view_indexing b i = search (rules, expressions.the_lemmas)

pub view_binary : (o : BinaryOperator) (l r : Box (Spanned Expression)) → expression_view (expressions.Binary o l r) ≡ record { label = binary o; children = forest_of (expression_tree (box_value l) ∷ expression_tree (box_value r) ∷ []) }
view_binary o l r = search (rules, expressions.the_lemmas)

pub view_call_expression : (c : FunctionCall) → expression_view (expressions.FunctionCall c) ≡ branch call_expression (call_view c ∷ [])
view_call_expression c = search (rules, expressions.the_lemmas)

pub view_name : (t : TypeExpression) → expression_view (expressions.TypeOrIdentifier t) ≡ branch type_or_identifier (type_view t ∷ [])
view_name t = search (rules, expressions.the_lemmas)

pub view_unary : (o : UnaryOperator) (e : Box (Spanned Expression)) → expression_view (expressions.Unary o e) ≡ record { label = unary o; children = forest_of (expression_tree (box_value e) ∷ []) }
view_unary o e = search (rules, expressions.the_lemmas)

-- bodies and clauses

pub view_compound : (b : CompoundStatement) → compound_view b ≡ branch compound (attributes_tree (out-CompoundStatement b).attributes ∷ listed statement_tree statements (out-CompoundStatement b).statements ∷ [])
view_compound b = fold_out-CompoundStatement Tree Tree Tree Tree Tree Tree Tree statement_step compound_step continuing_step else_step else_if_step if_step clause_step b ∙ simp map-map

pub view_compound_of : (a : Vec (Spanned Attribute)) (b : Vec (Spanned Statement)) → compound_view (roll-CompoundStatement (record { attributes = a; statements = b })) ≡ branch compound (attributes_tree a ∷ listed statement_tree statements b ∷ [])
view_compound_of a b = fold-roll-CompoundStatement Tree Tree Tree Tree Tree Tree Tree statement_step compound_step continuing_step else_step else_if_step if_step clause_step (record { attributes = a; statements = b }) ∙ simp map-map

pub view_if_clause : (c : IfClause) → if_view c ≡ branch if_clause (expression_tree (out-IfClause c).expression ∷ compound_view (out-IfClause c).body ∷ [])
view_if_clause c = fold_out-IfClause Tree Tree Tree Tree Tree Tree Tree statement_step compound_step continuing_step else_step else_if_step if_step clause_step c

pub view_if_clause_of : (a : Spanned Expression) (b : CompoundStatement) → if_view (roll-IfClause (record { expression = a; body = b })) ≡ branch if_clause (expression_tree a ∷ compound_view b ∷ [])
view_if_clause_of a b = fold-roll-IfClause Tree Tree Tree Tree Tree Tree Tree statement_step compound_step continuing_step else_step else_if_step if_step clause_step (record { expression = a; body = b })

pub view_else_if : (c : ElseIfClause) → else_if_view c ≡ branch else_if_clause (attributes_tree (out-ElseIfClause c).attributes ∷ expression_tree (out-ElseIfClause c).expression ∷ compound_view (out-ElseIfClause c).body ∷ [])
view_else_if c = fold_out-ElseIfClause Tree Tree Tree Tree Tree Tree Tree statement_step compound_step continuing_step else_step else_if_step if_step clause_step c

pub view_else_if_of : (a : Vec (Spanned Attribute)) (b : Spanned Expression) (c : CompoundStatement) → else_if_view (roll-ElseIfClause (record { attributes = a; expression = b; body = c })) ≡ branch else_if_clause (attributes_tree a ∷ expression_tree b ∷ compound_view c ∷ [])
view_else_if_of a b c = fold-roll-ElseIfClause Tree Tree Tree Tree Tree Tree Tree statement_step compound_step continuing_step else_step else_if_step if_step clause_step (record { attributes = a; expression = b; body = c })

pub view_else : (c : ElseClause) → else_view c ≡ branch else_clause (attributes_tree (out-ElseClause c).attributes ∷ compound_view (out-ElseClause c).body ∷ [])
view_else c = fold_out-ElseClause Tree Tree Tree Tree Tree Tree Tree statement_step compound_step continuing_step else_step else_if_step if_step clause_step c

pub view_else_of : (a : Vec (Spanned Attribute)) (b : CompoundStatement) → else_view (roll-ElseClause (record { attributes = a; body = b })) ≡ branch else_clause (attributes_tree a ∷ compound_view b ∷ [])
view_else_of a b = fold-roll-ElseClause Tree Tree Tree Tree Tree Tree Tree statement_step compound_step continuing_step else_step else_if_step if_step clause_step (record { attributes = a; body = b })

pub view_clause : (c : SwitchClause) → clause_view c ≡ branch switch_clause (attributes_tree (out-SwitchClause c).attributes ∷ listed selector_view list (out-SwitchClause c).case_selectors ∷ compound_view (out-SwitchClause c).body ∷ [])
view_clause c = fold_out-SwitchClause Tree Tree Tree Tree Tree Tree Tree statement_step compound_step continuing_step else_step else_if_step if_step clause_step c

pub view_clause_of : (a : Vec (Spanned Attribute)) (b : Vec CaseSelector) (c : CompoundStatement) → clause_view (roll-SwitchClause (record { attributes = a; case_selectors = b; body = c })) ≡ branch switch_clause (attributes_tree a ∷ listed selector_view list b ∷ compound_view c ∷ [])
view_clause_of a b c = fold-roll-SwitchClause Tree Tree Tree Tree Tree Tree Tree statement_step compound_step continuing_step else_step else_if_step if_step clause_step (record { attributes = a; case_selectors = b; body = c })

pub view_continuing : (c : ContinuingStatement) → continuing_view c ≡ branch continuing (attributes_tree (out-ContinuingStatement c).attributes ∷ compound_view (out-ContinuingStatement c).body ∷ optional break_if_view (out-ContinuingStatement c).break_if ∷ [])
view_continuing c = fold_out-ContinuingStatement Tree Tree Tree Tree Tree Tree Tree statement_step compound_step continuing_step else_step else_if_step if_step clause_step c

pub view_continuing_of : (a : Vec (Spanned Attribute)) (b : CompoundStatement) (c : Option BreakIfStatement) → continuing_view (roll-ContinuingStatement (record { attributes = a; body = b; break_if = c })) ≡ branch continuing (attributes_tree a ∷ compound_view b ∷ optional break_if_view c ∷ [])
view_continuing_of a b c = fold-roll-ContinuingStatement Tree Tree Tree Tree Tree Tree Tree statement_step compound_step continuing_step else_step else_if_step if_step clause_step (record { attributes = a; body = b; break_if = c })

-- statements

pub view_if : (a : Vec (Spanned Attribute)) (i : IfClause) (es : Vec ElseIfClause) (e : Option ElseClause)
    → statement_view (made.If a i es e) ≡ branch if_statement (attributes_tree a ∷ if_view i ∷ listed else_if_view list es ∷ optional else_view e ∷ [])
view_if a i es e = search (rules, the_lemmas, map-map)

pub view_switch : (a : Vec (Spanned Attribute)) (e : Spanned Expression) (b : Vec (Spanned Attribute)) (cs : Vec SwitchClause)
    → statement_view (made.Switch a e b cs) ≡ branch switch (attributes_tree a ∷ expression_tree e ∷ attributes_tree b ∷ listed clause_view clauses cs ∷ [])
view_switch a e b cs = search (rules, the_lemmas, map-map)

pub view_for : (a : Vec (Spanned Attribute)) (i : Option (Box (Spanned Statement))) (c : Option (Spanned Expression)) (u : Option (Box (Spanned Statement))) (b : CompoundStatement)
    → statement_view (made.For a i c u b) ≡ branch for_loop (attributes_tree a ∷ optional (λ s. statement_tree (box_value s)) i ∷ optional expression_tree c ∷ optional (λ s. statement_tree (box_value s)) u ∷ compound_view b ∷ [])
view_for a i c u b = search (rules, the_lemmas)

pub view_block : (b : CompoundStatement) → statement_view (made.Compound b) ≡ branch compound_statement (compound_view b ∷ [])
view_block b = search (rules, the_lemmas)

pub view_loop : (a : Vec (Spanned Attribute)) (b : CompoundStatement) (c : Option ContinuingStatement) → statement_view (made.Loop a b c) ≡ branch loop (attributes_tree a ∷ compound_view b ∷ optional continuing_view c ∷ [])
view_loop a b c = search (rules, the_lemmas)

pub view_while : (a : Vec (Spanned Attribute)) (e : Spanned Expression) (b : CompoundStatement) → statement_view (made.While a e b) ≡ branch while_loop (attributes_tree a ∷ expression_tree e ∷ compound_view b ∷ [])
view_while a e b = search (rules, the_lemmas)

pub view_increment : (a : Vec (Spanned Attribute)) (e : Spanned Expression) → statement_view (made.Increment a e) ≡ branch increment (attributes_tree a ∷ expression_tree e ∷ [])
view_increment a e = search (rules, the_lemmas)

pub view_decrement : (a : Vec (Spanned Attribute)) (e : Spanned Expression) → statement_view (made.Decrement a e) ≡ branch decrement (attributes_tree a ∷ expression_tree e ∷ [])
view_decrement a e = search (rules, the_lemmas)

pub view_break : (a : Vec (Spanned Attribute)) → statement_view (made.Break a) ≡ branch break (attributes_tree a ∷ [])
view_break a = search (rules, the_lemmas)

pub view_continue : (a : Vec (Spanned Attribute)) → statement_view (made.Continue a) ≡ branch continue (attributes_tree a ∷ [])
view_continue a = search (rules, the_lemmas)

pub view_discard : (a : Vec (Spanned Attribute)) → statement_view (made.Discard a) ≡ branch discard (attributes_tree a ∷ [])
view_discard a = search (rules, the_lemmas)

pub view_return : (a : Vec (Spanned Attribute)) (e : Option (Spanned Expression)) → statement_view (made.Return a e) ≡ branch return (attributes_tree a ∷ optional expression_tree e ∷ [])
view_return a e = search (rules, the_lemmas)

pub view_call_statement : (a : Vec (Spanned Attribute)) (c : FunctionCall) → statement_view (made.FunctionCall a c) ≡ branch call_statement (attributes_tree a ∷ call_view c ∷ [])
view_call_statement a c = search (rules, the_lemmas)

pub view_const_assert : (c : ConstAssert) → statement_view (made.ConstAssert c) ≡ assert_view c
view_const_assert c = search (rules, the_lemmas)

pub view_local : (d : Declaration) → statement_view (made.Declaration d) ≡ declaration_view d
view_local d = search (rules, the_lemmas)

pub view_assignment : (a : Vec (Spanned Attribute)) (o : AssignmentOperator) (l r : Spanned Expression)
    → statement_view (made.Assignment a o l r) ≡ record { label = assignment o; children = forest_of (attributes_tree a ∷ expression_tree l ∷ expression_tree r ∷ []) }
view_assignment a o l r = search (rules, the_lemmas)

pub view_void : statement_view made.Void ≡ branch void []
view_void = search (rules, the_lemmas)

-- imports

pub view_entry : (e : Import) → entry_view e ≡ branch import_entry (names_tree (out-Import e).path ∷ content_view (out-Import e).content ∷ [])
view_entry e = fold_out-Import Tree Tree content_step entry_step e

pub view_entry_of : (p : Vec (String Global)) (c : ImportContent) → entry_view (roll-Import (record { path = p; content = c })) ≡ branch import_entry (names_tree p ∷ content_view c ∷ [])
view_entry_of p c = fold-roll-Import Tree Tree content_step entry_step (record { path = p; content = c })

pub view_item : (i : ImportItem) → content_view (contents.Item i) ≡ item_view i
view_item i = search (rules, contents.the_lemmas)

pub view_collection : (is : Vec Import) → content_view (contents.Collection is) ≡ branch import_collection (listed entry_view list is ∷ [])
view_collection is = search (rules, contents.the_lemmas, map-map)
