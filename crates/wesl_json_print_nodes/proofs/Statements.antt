-- The tokens of each statement, in the order in which they are printed.
use Rattle.std.proofs.Common.{◌≡◌, List, [], ◌∷◌, Option, Some, Vec, Global, Bool, true, false, codes, refl, sym, ap, ◌∙◌}
use Rattle.std.specs.Box.{box_value}
use Rattle.std.specs.Global.{Box}
use Rattle.wesl_json_print_nodes.specs.Events.{begins, Event, events}
use Rattle.serde_json.specs.Data.{Data, object, string, Items, no_members}
use Rattle.wesl_json_form.specs.Schema.{node, a_body, a_break_if, a_case, a_clause, a_continuing, a_statement, an_attribute, an_elif, an_else, an_expression}
use Rattle.wesl_json_form.specs.Words.{assignment_words}
use Rattle.wesl_json_form.specs.Writing.{text_or_null, word_of}
use Rattle.wesl_json_print_nodes.specs.Printing.{PrintsEvents, Prints, at_place, stepped}
use Rattle.wesl_json_print_nodes.specs.declared.printer.Printer.{Printer}
use Rattle.wesl_json_print_nodes.proofs.Adding.{told}
use Rattle.wesl_json_print_nodes.proofs.Parts.{Part, part, are_apart, arranged, by_parts, events_of, list_part, object_events, option_part, option_put, put_part, puts, puts_before, span_part}
use Rattle.wesl_json_words.specs.Values.{assigned, bare, call_members, expression_data, items_in, statement_at, statement_in, value_in, with_attributes, with_clause, with_list, with_member, with_option, worded}
use Rattle.wesl_json_words.proofs.Blocks.{Attributes, as-block, as-body, as-body-value, as-clause, as-continuing, as-elif, as-else, as-for, as-if, as-if-clause, as-loop, as-switch, as-while, children_of}
use Rattle.wesl_json_words.proofs.Imports.{as-break-if, as-case, as-default}
use Rattle.wesl_json_words.proofs.Placed.{placed-statement}
use Rattle.wesl_tree_base.specs.declared.span.Span.{Span}
use Rattle.wesl_tree_names.specs.Path.{Text}
use Rattle.wesl_tree_syntax.specs.Tree.{assignment, clauses, list, statement_node, statements}
use Rattle.wesl_tree_syntax.specs.View.{break_if_view, call_view, clause_view, compound_view, continuing_view, else_if_view, else_view, expression_tree, if_view, listed, optional, selector_view, statement_tree, statement_view}
use Rattle.wesl_tree_syntax.specs.declared.span.Spanned.{Spanned}
use Rattle.wesl_tree_syntax.specs.declared.expression.Expression.{Expression}
use Rattle.wesl_tree_syntax.specs.declared.expression.FunctionCall.{FunctionCall}
use Rattle.wesl_tree_syntax.specs.declared.statement.AssignmentOperator.{AssignmentOperator}
use Rattle.wesl_tree_syntax.specs.declared.statement.CaseSelector.{CaseSelector}
use Rattle.wesl_tree_syntax.specs.declared.statement.CaseSelector.TheVariants as selectors
use Rattle.wesl_tree_syntax.specs.declared.statement.Statement.{Statement}
use Rattle.wesl_tree_syntax.specs.declared.statement.Statement.TheViews as made
use Rattle.wesl_tree_syntax.specs.declared.statement.BreakIfStatement.{BreakIfStatement}
use Rattle.wesl_tree_syntax.specs.declared.statement.CompoundStatement.{CompoundStatement, out-CompoundStatement}
use Rattle.wesl_tree_syntax.specs.declared.statement.ContinuingStatement.{ContinuingStatement, out-ContinuingStatement}
use Rattle.wesl_tree_syntax.specs.declared.statement.ElseClause.{ElseClause, out-ElseClause}
use Rattle.wesl_tree_syntax.specs.declared.statement.ElseIfClause.{ElseIfClause, out-ElseIfClause}
use Rattle.wesl_tree_syntax.specs.declared.statement.IfClause.{IfClause, out-IfClause}
use Rattle.wesl_tree_syntax.specs.declared.statement.SwitchClause.{SwitchClause, out-SwitchClause}

abbrev pub word : Text → Part
word w = part (codes "k") false (string w)

module _ (spans : Bool) (names : List Text) where
  abbrev pub attrs : Attributes → Part
  attrs a = list_part (codes "attrs") (items_in spans names an_attribute (children_of a))

  abbrev pub at_key : Text → Spanned Expression → Part
  at_key k e = part k false (expression_data spans names e)

  abbrev pub body : CompoundStatement → Part
  body b = part (codes "body") false (value_in spans names (node a_body) (compound_view b))

  abbrev pub expression_option : Text → Option (Spanned Expression) → Part
  expression_option k o = option_part spans names k (node an_expression) expression_tree o

  abbrev pub statement_option : Text → Option (Box (Spanned Statement)) → Part
  statement_option k o = option_part spans names k (node a_statement) (λ s. statement_tree (box_value s)) o

  -- ---- with a span

  module _ (s : Span) where
    abbrev pub with_span : List Part → List Part
    with_span ps = arranged (span_part spans statement_node s ∷ ps)

    abbrev pub assigned_parts : Text → Attributes → Spanned Expression → Spanned Expression → List Part
    assigned_parts w a l r = word (codes "assign") ∷ part (codes "op") false (string w) ∷ attrs a ∷ at_key (codes "lhs") l ∷ at_key (codes "rhs") r ∷ []

    pub assignment_printed : {S : Type 0} {after : List Event → S → S → Type 0} {p z : Printer S} (a : Attributes) (o : AssignmentOperator) (l r : Spanned Expression) (w : Text) → word_of assignment_words (assignment o) ≡ Some w → PrintsEvents after p z (begins ∷ events_of (with_span (assigned_parts w a l r))) → Prints after p z (at_place spans statement_node s (assigned spans names (assignment o) (children_of a) l r))
    unfolding with_member with_list
    assignment_printed a o l r w is h = by_parts spans statement_node s (assigned_parts w a l r) _ refl (ap (λ d. object (puts (word (codes "assign") ∷ part (codes "op") false d ∷ attrs a ∷ at_key (codes "lhs") l ∷ at_key (codes "rhs") r ∷ []))) (sym (ap text_or_null is))) h

    abbrev pub step_parts : Text → Attributes → Spanned Expression → List Part
    step_parts w a e = word w ∷ attrs a ∷ at_key (codes "expr") e ∷ []

    pub step_printed : {S : Type 0} {after : List Event → S → S → Type 0} {p z : Printer S} (w : Text) (a : Attributes) (e : Spanned Expression) → PrintsEvents after p z (begins ∷ events_of (with_span (step_parts w a e))) → Prints after p z (at_place spans statement_node s (stepped spans names w a e))
    unfolding with_member with_list
    step_printed w a e h = by_parts spans statement_node s (step_parts w a e) _ refl refl h

    pub jump_printed : {S : Type 0} {after : List Event → S → S → Type 0} {p z : Printer S} (w : Text) (a : Attributes) → PrintsEvents after p z (begins ∷ events_of (with_span (word w ∷ attrs a ∷ []))) → Prints after p z (at_place spans statement_node s (worded w (with_attributes spans names a no_members)))
    unfolding with_member with_list
    jump_printed w a h = by_parts spans statement_node s (word w ∷ attrs a ∷ []) _ refl refl h

    pub return_printed : {S : Type 0} {after : List Event → S → S → Type 0} {p z : Printer S} (a : Attributes) (e : Option (Spanned Expression)) → PrintsEvents after p z (begins ∷ events_of (with_span (word (codes "return") ∷ attrs a ∷ expression_option (codes "expr") e ∷ [])))
        → Prints after p z (at_place spans statement_node s (worded (codes "return") (with_attributes spans names a (with_option (codes "expr") spans names (node an_expression) (optional expression_tree e) no_members))))
    unfolding with_member with_list
    return_printed a e h =
        by_parts spans statement_node s (word (codes "return") ∷ attrs a ∷ expression_option (codes "expr") e ∷ []) _ refl (ap (λ ms. object (puts_before (word (codes "return") ∷ attrs a ∷ []) ms)) (option_put spans names (codes "expr") (node an_expression) expression_tree e no_members)) h

    pub call_statement : {S : Type 0} {after : List Event → S → S → Type 0} {p z : Printer S} (a : Attributes) (c : FunctionCall) → PrintsEvents after p z (begins ∷ events_of (with_span (word (codes "call") ∷ attrs a ∷ part (codes "call") false (bare (call_members spans names (call_view c))) ∷ [])))
        → Prints after p z (at_place spans statement_node s (worded (codes "call") (with_attributes spans names a (with_member (codes "call") (bare (call_members spans names (call_view c))) no_members))))
    unfolding with_member with_list
    call_statement a c h = by_parts spans statement_node s (word (codes "call") ∷ attrs a ∷ part (codes "call") false (bare (call_members spans names (call_view c))) ∷ []) _ refl refl h

    module _ (x : Statement) where
      abbrev Printed : {S : Type 0} → (List Event → S → S → Type 0) → Printer S → Printer S → Type 0
      Printed after p z = Prints after p z (statement_at spans names s (statement_view x))

      -- a statement, by what it is where it has no place
      pub placed_statement : {S : Type 0} {after : List Event → S → S → Type 0} {p z : Printer S} (d : Data) → d ≡ statement_in spans names (statement_view x) → Prints after p z (at_place spans statement_node s d) → Printed after p z
      placed_statement d is h = told (ap events (ap (at_place spans statement_node s) is ∙ sym (placed-statement spans names s (statement_view x) (codes "k")))) h

      abbrev pub block : CompoundStatement → List Part
      block b = word (codes "block") ∷ attrs (out-CompoundStatement b).attributes ∷ list_part (codes "stmts") (items_in spans names a_statement (listed statement_tree statements (out-CompoundStatement b).statements).children) ∷ []

      pub block_printed : {S : Type 0} {after : List Event → S → S → Type 0} {p z : Printer S} (b : CompoundStatement) → x ≡ made.Compound b → PrintsEvents after p z (begins ∷ events_of (with_span (block b))) → Printed after p z
      unfolding with_member with_list
      block_printed b is h = placed_statement _ (as-block spans names x (object (puts (block b))) b _ is (as-body spans names b _ refl) refl) (by_parts spans statement_node s (block b) _ refl refl h)

      abbrev pub if_parts : Attributes → IfClause → Items → Option ElseClause → List Part
      if_parts a i es e = word (codes "if") ∷ attrs a ∷ at_key (codes "cond") (out-IfClause i).expression ∷ body (out-IfClause i).body ∷ list_part (codes "elifs") es ∷ option_part spans names (codes "else") (node an_else) else_view e ∷ []

      pub if_printed : {S : Type 0} {after : List Event → S → S → Type 0} {p z : Printer S} (a : Attributes) (i : IfClause) (es : Vec ElseIfClause Global) (e : Option ElseClause) → x ≡ made.If a i es e → PrintsEvents after p z (begins ∷ events_of (with_span (if_parts a i (items_in spans names an_elif (listed else_if_view list es).children) e))) → Printed after p z
      unfolding with_member with_list
      if_printed a i es e is h =
          let ds = items_in spans names an_elif (listed else_if_view list es).children in
          let ends = with_list (codes "elifs") ds (with_option (codes "else") spans names (node an_else) (optional else_view e) no_members) in
          let inside_it : put_part (at_key (codes "cond") (out-IfClause i).expression) (put_part (body (out-IfClause i).body) ends) ≡ with_clause spans names (if_view i) ends = as-if-clause spans names i ends _ refl in
          placed_statement _ (as-if spans names x _ a i es e is refl)
          (by_parts spans statement_node s (if_parts a i ds e) _ refl
          (ap (λ ms. object (puts_before (word (codes "if") ∷ attrs a ∷ at_key (codes "cond") (out-IfClause i).expression ∷ body (out-IfClause i).body ∷ list_part (codes "elifs") ds ∷ []) ms)) (option_put spans names (codes "else") (node an_else) else_view e no_members)
          ∙ ap (λ ms. object (puts_before (word (codes "if") ∷ attrs a ∷ []) ms)) inside_it)
          h)

      abbrev pub switch_parts : Attributes → Spanned Expression → Attributes → Items → List Part
      switch_parts a e b cs = word (codes "switch") ∷ attrs a ∷ at_key (codes "expr") e ∷ list_part (codes "body_attrs") (items_in spans names an_attribute (children_of b)) ∷ list_part (codes "clauses") cs ∷ []

      pub switch_printed : {S : Type 0} {after : List Event → S → S → Type 0} {p z : Printer S} (a : Attributes) (e : Spanned Expression) (b : Attributes) (cs : Vec SwitchClause Global) → x ≡ made.Switch a e b cs → PrintsEvents after p z (begins ∷ events_of (with_span (switch_parts a e b (items_in spans names a_clause (listed clause_view clauses cs).children)))) → Printed after p z
      unfolding with_member with_list
      switch_printed a e b cs is h = placed_statement _ (as-switch spans names x (object (puts (switch_parts a e b (items_in spans names a_clause (listed clause_view clauses cs).children)))) a e b cs is refl) (by_parts spans statement_node s (switch_parts a e b (items_in spans names a_clause (listed clause_view clauses cs).children)) _ refl refl h)

      abbrev pub loop_parts : Attributes → CompoundStatement → Option ContinuingStatement → List Part
      loop_parts a b o = word (codes "loop") ∷ attrs a ∷ body b ∷ option_part spans names (codes "continuing") (node a_continuing) continuing_view o ∷ []

      pub loop_printed : {S : Type 0} {after : List Event → S → S → Type 0} {p z : Printer S} (a : Attributes) (b : CompoundStatement) (o : Option ContinuingStatement) → x ≡ made.Loop a b o → PrintsEvents after p z (begins ∷ events_of (with_span (loop_parts a b o))) → Printed after p z
      unfolding with_member with_list
      loop_printed a b o is h =
          placed_statement _ (as-loop spans names x _ a b o is refl)
          (by_parts spans statement_node s (loop_parts a b o) _ refl (ap (λ ms. object (puts_before (word (codes "loop") ∷ attrs a ∷ body b ∷ []) ms)) (option_put spans names (codes "continuing") (node a_continuing) continuing_view o no_members)) h)

      abbrev pub for_parts : Attributes → Option (Box (Spanned Statement)) → Option (Spanned Expression) → Option (Box (Spanned Statement)) → CompoundStatement → List Part
      for_parts a i e u b = word (codes "for") ∷ attrs a ∷ statement_option (codes "init") i ∷ expression_option (codes "cond") e ∷ statement_option (codes "update") u ∷ body b ∷ []

      pub for_printed : {S : Type 0} {after : List Event → S → S → Type 0} {p z : Printer S} (a : Attributes) (i : Option (Box (Spanned Statement))) (e : Option (Spanned Expression)) (u : Option (Box (Spanned Statement))) (b : CompoundStatement) → x ≡ made.For a i e u b → PrintsEvents after p z (begins ∷ events_of (with_span (for_parts a i e u b))) → Printed after p z
      unfolding with_member with_list
      for_printed a i e u b is h =
          let last = put_part (body b) no_members in
          let update = option_put spans names (codes "update") (node a_statement) (λ s. statement_tree (box_value s)) u last in
          let condition = option_put spans names (codes "cond") (node an_expression) expression_tree e (with_option (codes "update") spans names (node a_statement) (optional (λ s. statement_tree (box_value s)) u) last) in
          let init = option_put spans names (codes "init") (node a_statement) (λ s. statement_tree (box_value s)) i (with_option (codes "cond") spans names (node an_expression) (optional expression_tree e) (with_option (codes "update") spans names (node a_statement) (optional (λ s. statement_tree (box_value s)) u) last)) in
          placed_statement _ (as-for spans names x _ a i e u b is refl)
          (by_parts spans statement_node s (for_parts a i e u b) _ refl
          (ap (λ ms. object (puts_before (word (codes "for") ∷ attrs a ∷ statement_option (codes "init") i ∷ expression_option (codes "cond") e ∷ []) ms)) update
          ∙ ap (λ ms. object (puts_before (word (codes "for") ∷ attrs a ∷ statement_option (codes "init") i ∷ []) ms)) condition
          ∙ ap (λ ms. object (puts_before (word (codes "for") ∷ attrs a ∷ []) ms)) init)
          h)

      abbrev pub while_parts : Attributes → Spanned Expression → CompoundStatement → List Part
      while_parts a e b = word (codes "while") ∷ attrs a ∷ at_key (codes "cond") e ∷ body b ∷ []

      pub while_printed : {S : Type 0} {after : List Event → S → S → Type 0} {p z : Printer S} (a : Attributes) (e : Spanned Expression) (b : CompoundStatement) → x ≡ made.While a e b → PrintsEvents after p z (begins ∷ events_of (with_span (while_parts a e b))) → Printed after p z
      unfolding with_member with_list
      while_printed a e b is h = placed_statement _ (as-while spans names x (object (puts (while_parts a e b))) a e b is refl) (by_parts spans statement_node s (while_parts a e b) _ refl refl h)

  -- ---- without one

  by_object : {S : Type 0} {after : List Event → S → S → Type 0} {a z : Printer S} (ps : List Part) (d : Data) → are_apart ps ≡ true → object (puts ps) ≡ d → PrintsEvents after a z (begins ∷ events_of (arranged ps)) → Prints after a z d
  by_object ps d apart is h = told (object_events ps apart ∙ ap events is) h

  abbrev pub body_parts : CompoundStatement → List Part
  body_parts b = attrs (out-CompoundStatement b).attributes ∷ list_part (codes "stmts") (items_in spans names a_statement (listed statement_tree statements (out-CompoundStatement b).statements).children) ∷ []

  pub body_printed : {S : Type 0} {after : List Event → S → S → Type 0} {p z : Printer S} (b : CompoundStatement) → PrintsEvents after p z (begins ∷ events_of (arranged (body_parts b))) → Prints after p z (value_in spans names (node a_body) (compound_view b))
  unfolding with_list
  body_printed b h = by_object (body_parts b) _ refl (as-body-value spans names b (puts (body_parts b)) _ (as-body spans names b _ refl) refl) h

  abbrev pub elif_parts : ElseIfClause → List Part
  elif_parts x = attrs (out-ElseIfClause x).attributes ∷ at_key (codes "cond") (out-ElseIfClause x).expression ∷ body (out-ElseIfClause x).body ∷ []

  pub elif_printed : {S : Type 0} {after : List Event → S → S → Type 0} {p z : Printer S} (x : ElseIfClause) → PrintsEvents after p z (begins ∷ events_of (arranged (elif_parts x))) → Prints after p z (value_in spans names (node an_elif) (else_if_view x))
  unfolding with_member with_list
  elif_printed x h = by_object (elif_parts x) _ refl (as-elif spans names x _ refl) h

  abbrev pub else_parts : ElseClause → List Part
  else_parts x = attrs (out-ElseClause x).attributes ∷ body (out-ElseClause x).body ∷ []

  pub else_printed : {S : Type 0} {after : List Event → S → S → Type 0} {p z : Printer S} (x : ElseClause) → PrintsEvents after p z (begins ∷ events_of (arranged (else_parts x))) → Prints after p z (value_in spans names (node an_else) (else_view x))
  unfolding with_member with_list
  else_printed x h = by_object (else_parts x) _ refl (as-else spans names x _ refl) h

  abbrev pub clause_parts : SwitchClause → List Part
  clause_parts x = attrs (out-SwitchClause x).attributes ∷ list_part (codes "cases") (items_in spans names a_case (listed selector_view list (out-SwitchClause x).case_selectors).children) ∷ body (out-SwitchClause x).body ∷ []

  pub clause_printed : {S : Type 0} {after : List Event → S → S → Type 0} {p z : Printer S} (x : SwitchClause) → PrintsEvents after p z (begins ∷ events_of (arranged (clause_parts x))) → Prints after p z (value_in spans names (node a_clause) (clause_view x))
  unfolding with_member with_list
  clause_printed x h = by_object (clause_parts x) _ refl (as-clause spans names x _ refl) h

  abbrev pub continuing_parts : ContinuingStatement → List Part
  continuing_parts x = attrs (out-ContinuingStatement x).attributes ∷ body (out-ContinuingStatement x).body ∷ option_part spans names (codes "break_if") (node a_break_if) break_if_view (out-ContinuingStatement x).break_if ∷ []

  pub continuing_printed : {S : Type 0} {after : List Event → S → S → Type 0} {p z : Printer S} (x : ContinuingStatement) → PrintsEvents after p z (begins ∷ events_of (arranged (continuing_parts x))) → Prints after p z (value_in spans names (node a_continuing) (continuing_view x))
  unfolding with_member with_list
  continuing_printed x h =
      by_object (continuing_parts x) _ refl
      (ap (λ ms. object (puts_before (attrs (out-ContinuingStatement x).attributes ∷ body (out-ContinuingStatement x).body ∷ []) ms)) (option_put spans names (codes "break_if") (node a_break_if) break_if_view (out-ContinuingStatement x).break_if no_members) ∙ as-continuing spans names x _ refl)
      h

  abbrev pub break_if_parts : BreakIfStatement → List Part
  break_if_parts x = attrs x.attributes ∷ at_key (codes "expr") x.expression ∷ []

  pub break_if_printed : {S : Type 0} {after : List Event → S → S → Type 0} {p z : Printer S} (x : BreakIfStatement) → PrintsEvents after p z (begins ∷ events_of (arranged (break_if_parts x))) → Prints after p z (value_in spans names (node a_break_if) (break_if_view x))
  unfolding with_member with_list
  break_if_printed x h = by_object (break_if_parts x) _ refl (as-break-if spans names x _ refl) h

  pub default_case : {S : Type 0} {after : List Event → S → S → Type 0} {p z : Printer S} (x : CaseSelector) → x ≡ selectors.Default → PrintsEvents after p z (begins ∷ events_of (arranged (word (codes "default") ∷ []))) → Prints after p z (value_in spans names (node a_case) (selector_view x))
  unfolding with_member
  default_case x is h = by_object (word (codes "default") ∷ []) _ refl (as-default spans names x _ is refl) h

  pub expression_case : {S : Type 0} {after : List Event → S → S → Type 0} {p z : Printer S} (x : CaseSelector) (e : Spanned Expression) → x ≡ selectors.Expression e → Prints after p z (expression_data spans names e) → Prints after p z (value_in spans names (node a_case) (selector_view x))
  expression_case x e is h = told (ap events (as-case spans names x e _ is refl)) h
