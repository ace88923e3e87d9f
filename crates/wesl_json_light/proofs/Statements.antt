-- Statements fit their form.
use Rattle.std.proofs.Common.{◌≡◌, ℕ, Bool, List, [], ◌∷◌, map, Some, None, codes, refl, sym, subst, Vec, Global}
use Rattle.wesl_tree_names.specs.Path.{Text}
use Rattle.wesl_tree_syntax.specs.Tree.{Tree, kind, assignment, present, list, end, tree, before, forest_of, statement_node, attributes, statements, clauses, compound_statement, compound, increment, decrement, if_statement, if_clause, else_if_clause, else_clause, switch, switch_clause, loop, continuing, break_if, for_loop, while_loop, break, continue, return, discard, call_statement}
use Rattle.wesl_tree_syntax.specs.Shown.{shown_forest}
use Rattle.wesl_tree_syntax.specs.View.{expression_tree, call_view, placed, selector_view, break_if_view, statement_step, compound_step, continuing_step, else_step, else_if_step, if_step, clause_step, statement_view, compound_view, continuing_view, else_view, else_if_view, if_view, clause_view}
use Rattle.wesl_tree_syntax.specs.declared.span.Spanned.{Spanned}
use Rattle.wesl_tree_syntax.specs.declared.attribute.Attribute.{Attribute}
use Rattle.wesl_tree_syntax.specs.declared.expression.Expression.{Expression}
use Rattle.wesl_tree_syntax.specs.declared.expression.FunctionCall.{FunctionCall}
use Rattle.wesl_tree_syntax.specs.declared.statement.CaseSelector.{CaseSelector}
use Rattle.wesl_tree_syntax.specs.declared.statement.CaseSelector.TheVariants as selectors
use Rattle.wesl_tree_syntax.specs.declared.statement.BreakIfStatement.{BreakIfStatement}
use Rattle.wesl_tree_syntax.specs.declared.statement.Statement.{Statement, map-Statement}
use Rattle.wesl_tree_syntax.specs.declared.statement.CompoundStatement.{CompoundStatement, map-CompoundStatement}
use Rattle.wesl_tree_syntax.specs.declared.statement.ContinuingStatement.{ContinuingStatement, map-ContinuingStatement}
use Rattle.wesl_tree_syntax.specs.declared.statement.ElseClause.{ElseClause, map-ElseClause}
use Rattle.wesl_tree_syntax.specs.declared.statement.ElseIfClause.{ElseIfClause, map-ElseIfClause}
use Rattle.wesl_tree_syntax.specs.declared.statement.IfClause.{IfClause, map-IfClause}
use Rattle.wesl_tree_syntax.specs.declared.statement.SwitchClause.{SwitchClause, map-SwitchClause}
use Rattle.wesl_tree_syntax.specs.declared.statement.Statement.TheOpen.{Statement-F, CompoundStatement-F, ContinuingStatement-F, ElseClause-F, ElseIfClause-F, IfClause-F, SwitchClause-F}
use Rattle.wesl_tree_syntax.specs.declared.statement.Statement.TheFolds.{ind-CompoundStatement, fold-roll-Statement, fold-roll-CompoundStatement, fold-roll-ContinuingStatement, fold-roll-ElseClause, fold-roll-ElseIfClause, fold-roll-IfClause, fold-roll-SwitchClause}
use Rattle.wesl_json_form.specs.Schema.{Spelled, SpelledLabel, a_statement, a_body, an_elif, an_else, a_clause, a_case, a_continuing, a_break_if, a_call, an_attribute, list_of, node, fixed, chosen, Row, nothing, needs, may, many, inner}
use Rattle.wesl_json_form.specs.Words.{assignment_words}
use Rattle.wesl_json_form.specs.Nodes.{statement_words, attrs, operand, expression, one_expression, body_row, condition_row, call_row}
use Rattle.wesl_json_light.proofs.Fitting.{Fits, label_shown, plain_node, worded_node, AreFits, no_more, one_more, FitsRow, all_there, needed, left_out, put_in, listed, within, tree_of}
use Rattle.wesl_json_light.proofs.Worded.{assignment_word}
use Rattle.wesl_json_light.proofs.Expressions.{worded_fits, chosen_by, case_words, type_or_identifier_case, spelled_as, node_fits, expression_fits, call_fits}
use Rattle.wesl_json_light.proofs.Attributes.{option_fits, with_attributes}
use Rattle.wesl_json_light.proofs.Declarations.{attributes_of, declaration_as_statement, assert_as_statement, void_as_statement}

-- the members of a body
pub record FitsBody (spans : Bool) (t : Spelled) : Type 0 where
  pub attached : Spelled
  pub inside : Spelled
  pub same : t ≡ tree_of (kind compound) (before attached (before inside end))
  pub fits : FitsRow spans (kind compound) body_row (before attached (before inside end))

-- the members of a condition with its body
pub record FitsIf (spans : Bool) (t : Spelled) : Type 0 where
  pub condition : Spelled
  pub body : Spelled
  pub same : t ≡ tree_of (kind if_clause) (before condition (before body end))
  pub fits : FitsRow spans (kind if_clause) condition_row (before condition (before body end))

pub as_body : {spans : Bool} (p : SpelledLabel) (t : Spelled) → FitsBody spans t → Fits spans p (node a_body) t
as_body {spans} p t b = subst (λ u. Fits spans p (node a_body) u) (sym b.same) (plain_node body_row (record { long = refl; fits = refl; apart = refl }) (record { same_row = refl; no_mark = λ ms. refl }) refl refl b.fits)

abbrev of_statement : Bool → ℕ × ℕ → Spelled → Spelled
of_statement spans place t = tree_of (label_shown spans statement_node place) (before t end)

block_fits : (spans : Bool) (place : ℕ × ℕ) (p : SpelledLabel) (t : Spelled) → FitsBody spans t → Fits spans p (node a_statement) (of_statement spans place (tree_of (kind compound_statement) (before t end)))
block_fits spans place p t b = subst (λ u. Fits spans p (node a_statement) (of_statement spans place (tree_of (kind compound_statement) (before u end)))) (sym b.same)
    (worded_fits spans a_statement statement_node place (codes "block") (fixed (kind compound_statement)) (inner (fixed (kind compound)) body_row nothing) (kind compound_statement) (tree (kind compound) (before b.attached (before b.inside end)) end)
    (record { long = refl; fits = refl; apart = refl }) (λ ms. chosen_by (statement_words spans) None (codes "block") _ ms refl) refl refl (within refl refl b.fits all_there) p)

abbrev if_row : Row
if_row = attrs (inner (fixed (kind if_clause)) condition_row (many (codes "elifs") (list_of list an_elif) (may (codes "else") (node an_else) nothing)))

abbrev if_tail : Row
if_tail = many (codes "elifs") (list_of list an_elif) (may (codes "else") (node an_else) nothing)

module _ (spans : Bool) (f : ℕ → Text) where
  abbrev node_of : Spanned Expression → Spelled
  node_of e = spelled_as spans f (expression_tree e)

  if_fits : (place : ℕ × ℕ) (p : SpelledLabel) (a : Vec (Spanned Attribute) Global) (t es e : Spelled) → FitsIf spans t → FitsRow spans (kind if_statement) if_tail (before es (before e end))
      → Fits spans p (node a_statement) (of_statement spans place (tree_of (kind if_statement) (before (attributes_of spans f a) (before t (before es (before e end))))))
  if_fits place p a t es e i rest = subst (λ u. Fits spans p (node a_statement) (of_statement spans place (tree_of (kind if_statement) (before (attributes_of spans f a) (before u (before es (before e end))))))) (sym i.same)
      (worded_fits spans a_statement statement_node place (codes "if") (fixed (kind if_statement)) if_row (kind if_statement) (before (attributes_of spans f a) (before (tree_of (kind if_clause) (before i.condition (before i.body end))) (before es (before e end))))
      (record { long = refl; fits = refl; apart = refl }) (λ ms. chosen_by (statement_words spans) None (codes "if") _ ms refl) refl refl (with_attributes spans f (kind if_statement) (codes "attrs") _ _ a (within refl refl i.fits rest)) p)

  call_as_node : (p : SpelledLabel) (c : FunctionCall) → Fits spans p (node a_call) (spelled_as spans f (call_view c))
  call_as_node p c = let h = call_fits spans f c in subst (λ u. Fits spans p (node a_call) u) (sym h.same) (plain_node call_row (record { long = refl; fits = refl; apart = refl }) (record { same_row = refl; no_mark = λ ms. refl }) refl refl h.fits)

  selector_fits : (p : SpelledLabel) (s : CaseSelector) → Fits spans p (node a_case) (spelled_as spans f (selector_view s))
  selector_fits p selectors.Default = worded_node (codes "default") nothing (record { long = refl; fits = refl; apart = refl }) (record { same_row = refl; no_mark = λ ms. refl }) (λ ms. chosen_by (case_words spans) (Some (type_or_identifier_case spans)) (codes "default") _ ms refl) refl all_there
  selector_fits p (selectors.Expression e) = (expression_fits spans f e.node).as_case (e.span.start, e.span.end) p

  selectors_fit : (p : SpelledLabel) (xs : List CaseSelector) → AreFits spans p a_case (shown_forest spans f (forest_of (map selector_view xs)))
  selectors_fit p [] = no_more
  selectors_fit p (x ∷ xs) = one_more (selector_fits p x) (selectors_fit p xs)

  break_if_fits : (p : SpelledLabel) (b : BreakIfStatement) → Fits spans p (node a_break_if) (spelled_as spans f (break_if_view b))
  break_if_fits p b = plain_node (attrs operand) (record { long = refl; fits = refl; apart = refl }) (record { same_row = refl; no_mark = λ ms. refl }) refl refl
      (with_attributes spans f (kind break_if) (codes "attrs") _ _ b.attributes (needed (node_fits spans f (kind break_if) b.expression) all_there))

  abbrev IsStatementTree : Tree → Type 0
  IsStatementTree z = (place : ℕ × ℕ) (p : SpelledLabel) → Fits spans p (node a_statement) (of_statement spans place (spelled_as spans f z))

  abbrev IsBodyTree : Tree → Type 0
  IsBodyTree z = FitsBody spans (spelled_as spans f z)

  abbrev IsContinuingTree : Tree → Type 0
  IsContinuingTree z = (p : SpelledLabel) → Fits spans p (node a_continuing) (spelled_as spans f z)

  abbrev IsElseTree : Tree → Type 0
  IsElseTree z = (p : SpelledLabel) → Fits spans p (node an_else) (spelled_as spans f z)

  abbrev IsElseIfTree : Tree → Type 0
  IsElseIfTree z = (p : SpelledLabel) → Fits spans p (node an_elif) (spelled_as spans f z)

  abbrev IsIfTree : Tree → Type 0
  IsIfTree z = FitsIf spans (spelled_as spans f z)

  abbrev IsClauseTree : Tree → Type 0
  IsClauseTree z = (p : SpelledLabel) → Fits spans p (node a_clause) (spelled_as spans f z)

  abbrev OfStatement : Type 0
  OfStatement = (x : Statement) × IsStatementTree (statement_view x)

  abbrev OfCompoundStatement : Type 0
  OfCompoundStatement = (x : CompoundStatement) × IsBodyTree (compound_view x)

  abbrev OfContinuingStatement : Type 0
  OfContinuingStatement = (x : ContinuingStatement) × IsContinuingTree (continuing_view x)

  abbrev OfElseClause : Type 0
  OfElseClause = (x : ElseClause) × IsElseTree (else_view x)

  abbrev OfElseIfClause : Type 0
  OfElseIfClause = (x : ElseIfClause) × IsElseIfTree (else_if_view x)

  abbrev OfIfClause : Type 0
  OfIfClause = (x : IfClause) × IsIfTree (if_view x)

  abbrev OfSwitchClause : Type 0
  OfSwitchClause = (x : SwitchClause) × IsClauseTree (clause_view x)

  abbrev statement_seen : Statement-F Statement CompoundStatement ContinuingStatement ElseClause ElseIfClause IfClause SwitchClause → Tree
  statement_seen x = statement_step (map-Statement Statement CompoundStatement ContinuingStatement ElseClause ElseIfClause IfClause SwitchClause Tree Tree Tree Tree Tree Tree Tree statement_view compound_view continuing_view else_view else_if_view if_view clause_view x)

  abbrev statement_open : Statement-F OfStatement OfCompoundStatement OfContinuingStatement OfElseClause OfElseIfClause OfIfClause OfSwitchClause → Statement-F Statement CompoundStatement ContinuingStatement ElseClause ElseIfClause IfClause SwitchClause
  statement_open y = map-Statement OfStatement OfCompoundStatement OfContinuingStatement OfElseClause OfElseIfClause OfIfClause OfSwitchClause Statement CompoundStatement ContinuingStatement ElseClause ElseIfClause IfClause SwitchClause (λ e. e.0) (λ e. e.0) (λ e. e.0) (λ e. e.0) (λ e. e.0) (λ e. e.0) (λ e. e.0) y

  abbrev compound_seen : CompoundStatement-F Statement CompoundStatement ContinuingStatement ElseClause ElseIfClause IfClause SwitchClause → Tree
  compound_seen x = compound_step (map-CompoundStatement Statement CompoundStatement ContinuingStatement ElseClause ElseIfClause IfClause SwitchClause Tree Tree Tree Tree Tree Tree Tree statement_view compound_view continuing_view else_view else_if_view if_view clause_view x)

  abbrev compound_open : CompoundStatement-F OfStatement OfCompoundStatement OfContinuingStatement OfElseClause OfElseIfClause OfIfClause OfSwitchClause → CompoundStatement-F Statement CompoundStatement ContinuingStatement ElseClause ElseIfClause IfClause SwitchClause
  compound_open y = map-CompoundStatement OfStatement OfCompoundStatement OfContinuingStatement OfElseClause OfElseIfClause OfIfClause OfSwitchClause Statement CompoundStatement ContinuingStatement ElseClause ElseIfClause IfClause SwitchClause (λ e. e.0) (λ e. e.0) (λ e. e.0) (λ e. e.0) (λ e. e.0) (λ e. e.0) (λ e. e.0) y

  abbrev continuing_seen : ContinuingStatement-F Statement CompoundStatement ContinuingStatement ElseClause ElseIfClause IfClause SwitchClause → Tree
  continuing_seen x = continuing_step (map-ContinuingStatement Statement CompoundStatement ContinuingStatement ElseClause ElseIfClause IfClause SwitchClause Tree Tree Tree Tree Tree Tree Tree statement_view compound_view continuing_view else_view else_if_view if_view clause_view x)

  abbrev continuing_open : ContinuingStatement-F OfStatement OfCompoundStatement OfContinuingStatement OfElseClause OfElseIfClause OfIfClause OfSwitchClause → ContinuingStatement-F Statement CompoundStatement ContinuingStatement ElseClause ElseIfClause IfClause SwitchClause
  continuing_open y = map-ContinuingStatement OfStatement OfCompoundStatement OfContinuingStatement OfElseClause OfElseIfClause OfIfClause OfSwitchClause Statement CompoundStatement ContinuingStatement ElseClause ElseIfClause IfClause SwitchClause (λ e. e.0) (λ e. e.0) (λ e. e.0) (λ e. e.0) (λ e. e.0) (λ e. e.0) (λ e. e.0) y

  abbrev else_seen : ElseClause-F Statement CompoundStatement ContinuingStatement ElseClause ElseIfClause IfClause SwitchClause → Tree
  else_seen x = else_step (map-ElseClause Statement CompoundStatement ContinuingStatement ElseClause ElseIfClause IfClause SwitchClause Tree Tree Tree Tree Tree Tree Tree statement_view compound_view continuing_view else_view else_if_view if_view clause_view x)

  abbrev else_open : ElseClause-F OfStatement OfCompoundStatement OfContinuingStatement OfElseClause OfElseIfClause OfIfClause OfSwitchClause → ElseClause-F Statement CompoundStatement ContinuingStatement ElseClause ElseIfClause IfClause SwitchClause
  else_open y = map-ElseClause OfStatement OfCompoundStatement OfContinuingStatement OfElseClause OfElseIfClause OfIfClause OfSwitchClause Statement CompoundStatement ContinuingStatement ElseClause ElseIfClause IfClause SwitchClause (λ e. e.0) (λ e. e.0) (λ e. e.0) (λ e. e.0) (λ e. e.0) (λ e. e.0) (λ e. e.0) y

  abbrev else_if_seen : ElseIfClause-F Statement CompoundStatement ContinuingStatement ElseClause ElseIfClause IfClause SwitchClause → Tree
  else_if_seen x = else_if_step (map-ElseIfClause Statement CompoundStatement ContinuingStatement ElseClause ElseIfClause IfClause SwitchClause Tree Tree Tree Tree Tree Tree Tree statement_view compound_view continuing_view else_view else_if_view if_view clause_view x)

  abbrev else_if_open : ElseIfClause-F OfStatement OfCompoundStatement OfContinuingStatement OfElseClause OfElseIfClause OfIfClause OfSwitchClause → ElseIfClause-F Statement CompoundStatement ContinuingStatement ElseClause ElseIfClause IfClause SwitchClause
  else_if_open y = map-ElseIfClause OfStatement OfCompoundStatement OfContinuingStatement OfElseClause OfElseIfClause OfIfClause OfSwitchClause Statement CompoundStatement ContinuingStatement ElseClause ElseIfClause IfClause SwitchClause (λ e. e.0) (λ e. e.0) (λ e. e.0) (λ e. e.0) (λ e. e.0) (λ e. e.0) (λ e. e.0) y

  abbrev if_seen : IfClause-F Statement CompoundStatement ContinuingStatement ElseClause ElseIfClause IfClause SwitchClause → Tree
  if_seen x = if_step (map-IfClause Statement CompoundStatement ContinuingStatement ElseClause ElseIfClause IfClause SwitchClause Tree Tree Tree Tree Tree Tree Tree statement_view compound_view continuing_view else_view else_if_view if_view clause_view x)

  abbrev if_open : IfClause-F OfStatement OfCompoundStatement OfContinuingStatement OfElseClause OfElseIfClause OfIfClause OfSwitchClause → IfClause-F Statement CompoundStatement ContinuingStatement ElseClause ElseIfClause IfClause SwitchClause
  if_open y = map-IfClause OfStatement OfCompoundStatement OfContinuingStatement OfElseClause OfElseIfClause OfIfClause OfSwitchClause Statement CompoundStatement ContinuingStatement ElseClause ElseIfClause IfClause SwitchClause (λ e. e.0) (λ e. e.0) (λ e. e.0) (λ e. e.0) (λ e. e.0) (λ e. e.0) (λ e. e.0) y

  abbrev clause_seen : SwitchClause-F Statement CompoundStatement ContinuingStatement ElseClause ElseIfClause IfClause SwitchClause → Tree
  clause_seen x = clause_step (map-SwitchClause Statement CompoundStatement ContinuingStatement ElseClause ElseIfClause IfClause SwitchClause Tree Tree Tree Tree Tree Tree Tree statement_view compound_view continuing_view else_view else_if_view if_view clause_view x)

  abbrev clause_open : SwitchClause-F OfStatement OfCompoundStatement OfContinuingStatement OfElseClause OfElseIfClause OfIfClause OfSwitchClause → SwitchClause-F Statement CompoundStatement ContinuingStatement ElseClause ElseIfClause IfClause SwitchClause
  clause_open y = map-SwitchClause OfStatement OfCompoundStatement OfContinuingStatement OfElseClause OfElseIfClause OfIfClause OfSwitchClause Statement CompoundStatement ContinuingStatement ElseClause ElseIfClause IfClause SwitchClause (λ e. e.0) (λ e. e.0) (λ e. e.0) (λ e. e.0) (λ e. e.0) (λ e. e.0) (λ e. e.0) y

  elifs_each : (xs : List OfElseIfClause) → AreFits spans (kind list) an_elif (shown_forest spans f (forest_of (map (λ t. t) (map else_if_view (map (λ a. a.0) xs)))))
  elifs_each [] = no_more
  elifs_each (x ∷ xs) = one_more (x.1 (kind list)) (elifs_each xs)

  clauses_each : (xs : List OfSwitchClause) → AreFits spans (kind clauses) a_clause (shown_forest spans f (forest_of (map (λ t. t) (map clause_view (map (λ a. a.0) xs)))))
  clauses_each [] = no_more
  clauses_each (x ∷ xs) = one_more (x.1 (kind clauses)) (clauses_each xs)

  statements_each : (xs : List (Spanned OfStatement))
      → AreFits spans (kind statements) a_statement (shown_forest spans f (forest_of (map (placed (λ t. t) statement_node) (map (λ (s : Spanned Statement). record { node = statement_view s.node; span = s.span }) (map (λ (s : Spanned OfStatement). record { node = s.node.0; span = s.span }) xs)))))
  statements_each [] = no_more
  statements_each (x ∷ xs) = one_more (x.node.1 (x.span.start, x.span.end) (kind statements)) (statements_each xs)

  statement_each : (y : Statement-F OfStatement OfCompoundStatement OfContinuingStatement OfElseClause OfElseIfClause OfIfClause OfSwitchClause) → IsStatementTree (statement_seen (statement_open y))
  statement_each Statement-F.Void place p = void_as_statement spans f place p
  statement_each (Statement-F.Compound b) place p = block_fits spans place p _ b.1
  statement_each (Statement-F.Assignment a o l r) place p = worded_fits spans a_statement statement_node place (codes "assign") (chosen (codes "op") assignment_words) (attrs (needs (codes "lhs") expression (one_expression (codes "rhs")))) (assignment o) (before (attributes_of spans f a) (before (node_of l) (before (node_of r) end))) (record { long = refl; fits = rw (assignment_word o).written refl; apart = refl }) (λ ms. chosen_by (statement_words spans) None (codes "assign") _ ms refl)
      (assignment_word o) refl (with_attributes spans f (assignment o) (codes "attrs") _ _ a (needed (node_fits spans f (assignment o) l) (needed (node_fits spans f (assignment o) r) all_there))) p
  statement_each (Statement-F.Increment a e) place p = worded_fits spans a_statement statement_node place (codes "inc") (fixed (kind increment)) (attrs operand) (kind increment) (before (attributes_of spans f a) (before (node_of e) end)) (record { long = refl; fits = refl; apart = refl }) (λ ms. chosen_by (statement_words spans) None (codes "inc") _ ms refl)
      refl refl (with_attributes spans f (kind increment) (codes "attrs") _ _ a (needed (node_fits spans f (kind increment) e) all_there)) p
  statement_each (Statement-F.Decrement a e) place p = worded_fits spans a_statement statement_node place (codes "dec") (fixed (kind decrement)) (attrs operand) (kind decrement) (before (attributes_of spans f a) (before (node_of e) end)) (record { long = refl; fits = refl; apart = refl }) (λ ms. chosen_by (statement_words spans) None (codes "dec") _ ms refl)
      refl refl (with_attributes spans f (kind decrement) (codes "attrs") _ _ a (needed (node_fits spans f (kind decrement) e) all_there)) p
  statement_each (Statement-F.If a i es None) place p = if_fits place p a _ _ _ i.1 (listed (elifs_each es.items) (left_out all_there))
  statement_each (Statement-F.If a i es (Some e)) place p = if_fits place p a _ _ _ i.1 (listed (elifs_each es.items) (put_in (e.1 (kind present)) all_there))
  statement_each (Statement-F.Switch a e b cs) place p = worded_fits spans a_statement statement_node place (codes "switch") (fixed (kind switch)) (attrs (needs (codes "expr") expression (many (codes "body_attrs") (list_of attributes an_attribute) (many (codes "clauses") (list_of clauses a_clause) nothing)))) (kind switch) _ (record { long = refl; fits = refl; apart = refl }) (λ ms. chosen_by (statement_words spans) None (codes "switch") _ ms refl)
      refl refl (with_attributes spans f (kind switch) (codes "attrs") _ _ a (needed (node_fits spans f (kind switch) e) (with_attributes spans f (kind switch) (codes "body_attrs") _ _ b (listed (clauses_each cs.items) all_there)))) p
  statement_each (Statement-F.Loop a b None) place p = worded_fits spans a_statement statement_node place (codes "loop") (fixed (kind loop)) (attrs (needs (codes "body") (node a_body) (may (codes "continuing") (node a_continuing) nothing))) (kind loop) _ (record { long = refl; fits = refl; apart = refl }) (λ ms. chosen_by (statement_words spans) None (codes "loop") _ ms refl)
      refl refl (with_attributes spans f (kind loop) (codes "attrs") _ _ a (needed (as_body (kind loop) _ b.1) (left_out all_there))) p
  statement_each (Statement-F.Loop a b (Some c)) place p = worded_fits spans a_statement statement_node place (codes "loop") (fixed (kind loop)) (attrs (needs (codes "body") (node a_body) (may (codes "continuing") (node a_continuing) nothing))) (kind loop) _ (record { long = refl; fits = refl; apart = refl }) (λ ms. chosen_by (statement_words spans) None (codes "loop") _ ms refl)
      refl refl (with_attributes spans f (kind loop) (codes "attrs") _ _ a (needed (as_body (kind loop) _ b.1) (put_in (c.1 (kind present)) all_there))) p
  statement_each (Statement-F.For a None c None b) place p = worded_fits spans a_statement statement_node place (codes "for") (fixed (kind for_loop)) (attrs (may (codes "init") (node a_statement) (may (codes "cond") expression (may (codes "update") (node a_statement) (needs (codes "body") (node a_body) nothing))))) (kind for_loop) _ (record { long = refl; fits = refl; apart = refl }) (λ ms. chosen_by (statement_words spans) None (codes "for") _ ms refl)
      refl refl (with_attributes spans f (kind for_loop) (codes "attrs") _ _ a (left_out (option_fits spans f expression_tree (kind for_loop) (codes "cond") expression _ _ (λ x. node_fits spans f (kind present) x) (left_out (needed (as_body (kind for_loop) _ b.1) all_there)) c))) p
  statement_each (Statement-F.For a None c (Some u) b) place p = worded_fits spans a_statement statement_node place (codes "for") (fixed (kind for_loop)) (attrs (may (codes "init") (node a_statement) (may (codes "cond") expression (may (codes "update") (node a_statement) (needs (codes "body") (node a_body) nothing))))) (kind for_loop) _ (record { long = refl; fits = refl; apart = refl }) (λ ms. chosen_by (statement_words spans) None (codes "for") _ ms refl)
      refl refl (with_attributes spans f (kind for_loop) (codes "attrs") _ _ a (left_out (option_fits spans f expression_tree (kind for_loop) (codes "cond") expression _ _ (λ x. node_fits spans f (kind present) x) (put_in (u.value.node.1 (u.value.span.start, u.value.span.end) (kind present)) (needed (as_body (kind for_loop) _ b.1) all_there)) c))) p
  statement_each (Statement-F.For a (Some i) c None b) place p = worded_fits spans a_statement statement_node place (codes "for") (fixed (kind for_loop)) (attrs (may (codes "init") (node a_statement) (may (codes "cond") expression (may (codes "update") (node a_statement) (needs (codes "body") (node a_body) nothing))))) (kind for_loop) _ (record { long = refl; fits = refl; apart = refl }) (λ ms. chosen_by (statement_words spans) None (codes "for") _ ms refl)
      refl refl (with_attributes spans f (kind for_loop) (codes "attrs") _ _ a (put_in (i.value.node.1 (i.value.span.start, i.value.span.end) (kind present)) (option_fits spans f expression_tree (kind for_loop) (codes "cond") expression _ _ (λ x. node_fits spans f (kind present) x) (left_out (needed (as_body (kind for_loop) _ b.1) all_there)) c))) p
  statement_each (Statement-F.For a (Some i) c (Some u) b) place p = worded_fits spans a_statement statement_node place (codes "for") (fixed (kind for_loop)) (attrs (may (codes "init") (node a_statement) (may (codes "cond") expression (may (codes "update") (node a_statement) (needs (codes "body") (node a_body) nothing))))) (kind for_loop) _ (record { long = refl; fits = refl; apart = refl }) (λ ms. chosen_by (statement_words spans) None (codes "for") _ ms refl)
      refl refl (with_attributes spans f (kind for_loop) (codes "attrs") _ _ a (put_in (i.value.node.1 (i.value.span.start, i.value.span.end) (kind present)) (option_fits spans f expression_tree (kind for_loop) (codes "cond") expression _ _ (λ x. node_fits spans f (kind present) x) (put_in (u.value.node.1 (u.value.span.start, u.value.span.end) (kind present)) (needed (as_body (kind for_loop) _ b.1) all_there)) c))) p
  statement_each (Statement-F.While a e b) place p = worded_fits spans a_statement statement_node place (codes "while") (fixed (kind while_loop)) (attrs condition_row) (kind while_loop) _ (record { long = refl; fits = refl; apart = refl }) (λ ms. chosen_by (statement_words spans) None (codes "while") _ ms refl)
      refl refl (with_attributes spans f (kind while_loop) (codes "attrs") _ _ a (needed (node_fits spans f (kind while_loop) e) (needed (as_body (kind while_loop) _ b.1) all_there))) p
  statement_each (Statement-F.Break a) place p = worded_fits spans a_statement statement_node place (codes "break") (fixed (kind break)) (attrs nothing) (kind break) _ (record { long = refl; fits = refl; apart = refl }) (λ ms. chosen_by (statement_words spans) None (codes "break") _ ms refl)
      refl refl (with_attributes spans f (kind break) (codes "attrs") _ _ a all_there) p
  statement_each (Statement-F.Continue a) place p = worded_fits spans a_statement statement_node place (codes "continue") (fixed (kind continue)) (attrs nothing) (kind continue) _ (record { long = refl; fits = refl; apart = refl }) (λ ms. chosen_by (statement_words spans) None (codes "continue") _ ms refl)
      refl refl (with_attributes spans f (kind continue) (codes "attrs") _ _ a all_there) p
  statement_each (Statement-F.Return a e) place p = worded_fits spans a_statement statement_node place (codes "return") (fixed (kind return)) (attrs (may (codes "expr") expression nothing)) (kind return) _ (record { long = refl; fits = refl; apart = refl }) (λ ms. chosen_by (statement_words spans) None (codes "return") _ ms refl)
      refl refl (with_attributes spans f (kind return) (codes "attrs") _ _ a (option_fits spans f expression_tree (kind return) (codes "expr") expression nothing end (λ x. node_fits spans f (kind present) x) all_there e)) p
  statement_each (Statement-F.Discard a) place p = worded_fits spans a_statement statement_node place (codes "discard") (fixed (kind discard)) (attrs nothing) (kind discard) _ (record { long = refl; fits = refl; apart = refl }) (λ ms. chosen_by (statement_words spans) None (codes "discard") _ ms refl)
      refl refl (with_attributes spans f (kind discard) (codes "attrs") _ _ a all_there) p
  statement_each (Statement-F.FunctionCall a c) place p = worded_fits spans a_statement statement_node place (codes "call") (fixed (kind call_statement)) (attrs (needs (codes "call") (node a_call) nothing)) (kind call_statement) _ (record { long = refl; fits = refl; apart = refl }) (λ ms. chosen_by (statement_words spans) None (codes "call") _ ms refl)
      refl refl (with_attributes spans f (kind call_statement) (codes "attrs") _ _ a (needed (call_as_node (kind call_statement) c) all_there)) p
  statement_each (Statement-F.ConstAssert c) place p = assert_as_statement spans f c place p
  statement_each (Statement-F.Declaration d) place p = declaration_as_statement spans f d place p

  compound_each : (y : CompoundStatement-F OfStatement OfCompoundStatement OfContinuingStatement OfElseClause OfElseIfClause OfIfClause OfSwitchClause) → IsBodyTree (compound_seen (compound_open y))
  compound_each y = record { attached = _; inside = _; same = refl; fits = with_attributes spans f (kind compound) (codes "attrs") _ _ y.attributes (listed (statements_each y.statements.items) all_there) }

  continuing_each : (y : ContinuingStatement-F OfStatement OfCompoundStatement OfContinuingStatement OfElseClause OfElseIfClause OfIfClause OfSwitchClause) → IsContinuingTree (continuing_seen (continuing_open y))
  continuing_each y p = plain_node (attrs (needs (codes "body") (node a_body) (may (codes "break_if") (node a_break_if) nothing))) (record { long = refl; fits = refl; apart = refl }) (record { same_row = refl; no_mark = λ ms. refl }) refl refl
      (with_attributes spans f (kind continuing) (codes "attrs") _ _ y.attributes (needed (as_body (kind continuing) _ y.body.1) (option_fits spans f break_if_view (kind continuing) (codes "break_if") (node a_break_if) nothing end (λ x. break_if_fits (kind present) x) all_there y.break_if)))

  else_each : (y : ElseClause-F OfStatement OfCompoundStatement OfContinuingStatement OfElseClause OfElseIfClause OfIfClause OfSwitchClause) → IsElseTree (else_seen (else_open y))
  else_each y p = plain_node (attrs (needs (codes "body") (node a_body) nothing)) (record { long = refl; fits = refl; apart = refl }) (record { same_row = refl; no_mark = λ ms. refl }) refl refl
      (with_attributes spans f (kind else_clause) (codes "attrs") _ _ y.attributes (needed (as_body (kind else_clause) _ y.body.1) all_there))

  else_if_each : (y : ElseIfClause-F OfStatement OfCompoundStatement OfContinuingStatement OfElseClause OfElseIfClause OfIfClause OfSwitchClause) → IsElseIfTree (else_if_seen (else_if_open y))
  else_if_each y p = plain_node (attrs condition_row) (record { long = refl; fits = refl; apart = refl }) (record { same_row = refl; no_mark = λ ms. refl }) refl refl
      (with_attributes spans f (kind else_if_clause) (codes "attrs") _ _ y.attributes (needed (node_fits spans f (kind else_if_clause) y.expression) (needed (as_body (kind else_if_clause) _ y.body.1) all_there)))

  if_each : (y : IfClause-F OfStatement OfCompoundStatement OfContinuingStatement OfElseClause OfElseIfClause OfIfClause OfSwitchClause) → IsIfTree (if_seen (if_open y))
  if_each y = record { condition = _; body = _; same = refl; fits = needed (node_fits spans f (kind if_clause) y.expression) (needed (as_body (kind if_clause) _ y.body.1) all_there) }

  clause_each : (y : SwitchClause-F OfStatement OfCompoundStatement OfContinuingStatement OfElseClause OfElseIfClause OfIfClause OfSwitchClause) → IsClauseTree (clause_seen (clause_open y))
  clause_each y p = plain_node (attrs (many (codes "cases") (list_of list a_case) (needs (codes "body") (node a_body) nothing))) (record { long = refl; fits = refl; apart = refl }) (record { same_row = refl; no_mark = λ ms. refl }) refl refl
      (with_attributes spans f (kind switch_clause) (codes "attrs") _ _ y.attributes (listed (selectors_fit (kind list) y.case_selectors.items) (needed (as_body (kind switch_clause) _ y.body.1) all_there)))

  pub compound_fits : (c : CompoundStatement) → IsBodyTree (compound_view c)
  compound_fits = ind-CompoundStatement (λ x. IsStatementTree (statement_view x)) (λ x. IsBodyTree (compound_view x)) (λ x. IsContinuingTree (continuing_view x)) (λ x. IsElseTree (else_view x)) (λ x. IsElseIfTree (else_if_view x)) (λ x. IsIfTree (if_view x)) (λ x. IsClauseTree (clause_view x))
      (λ x y is. subst IsStatementTree (sym (fold-roll-Statement Tree Tree Tree Tree Tree Tree Tree statement_step compound_step continuing_step else_step else_if_step if_step clause_step x)) (subst (λ z. IsStatementTree (statement_seen z)) is (statement_each y)))
      (λ x y is. subst IsBodyTree (sym (fold-roll-CompoundStatement Tree Tree Tree Tree Tree Tree Tree statement_step compound_step continuing_step else_step else_if_step if_step clause_step x)) (subst (λ z. IsBodyTree (compound_seen z)) is (compound_each y)))
      (λ x y is. subst IsContinuingTree (sym (fold-roll-ContinuingStatement Tree Tree Tree Tree Tree Tree Tree statement_step compound_step continuing_step else_step else_if_step if_step clause_step x)) (subst (λ z. IsContinuingTree (continuing_seen z)) is (continuing_each y)))
      (λ x y is. subst IsElseTree (sym (fold-roll-ElseClause Tree Tree Tree Tree Tree Tree Tree statement_step compound_step continuing_step else_step else_if_step if_step clause_step x)) (subst (λ z. IsElseTree (else_seen z)) is (else_each y)))
      (λ x y is. subst IsElseIfTree (sym (fold-roll-ElseIfClause Tree Tree Tree Tree Tree Tree Tree statement_step compound_step continuing_step else_step else_if_step if_step clause_step x)) (subst (λ z. IsElseIfTree (else_if_seen z)) is (else_if_each y)))
      (λ x y is. subst IsIfTree (sym (fold-roll-IfClause Tree Tree Tree Tree Tree Tree Tree statement_step compound_step continuing_step else_step else_if_step if_step clause_step x)) (subst (λ z. IsIfTree (if_seen z)) is (if_each y)))
      (λ x y is. subst IsClauseTree (sym (fold-roll-SwitchClause Tree Tree Tree Tree Tree Tree Tree statement_step compound_step continuing_step else_step else_if_step if_step clause_step x)) (subst (λ z. IsClauseTree (clause_seen z)) is (clause_each y)))
