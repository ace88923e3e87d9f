-- The slots of bodies, clauses and statements that have them, in the order in which they are printed.
use Rattle.std.proofs.Common.{◌≡◌, ℕ, List, [], ◌∷◌, Bool, true, false, not, ◌&&◌, ◌||◌, if◌then◌else◌, Option, Some, None, option_map, Vec, Global, codes, length, ◌<◌, map, refl, sym, ap, subst, ◌∙◌, arith}
use Rattle.std.specs.Box.{box_value}
use Rattle.std.specs.Global.{Box}
use Rattle.wesl_tree_names.specs.Path.{Text}
use Rattle.wesl_tree_syntax.specs.Tree.{Tree, absent, branch, clauses, compound, forest_of, list, respell_forest, respell_label, statements}
use Rattle.wesl_tree_syntax.specs.Unit.{name_in}
use Rattle.wesl_tree_syntax.specs.View.{attributes_tree, break_if_view, clause_view, compound_view, continuing_view, else_if_view, else_view, expression_tree, if_view, listed, optional as optional_tree, selector_view, statement_tree, statement_view}
use Rattle.wesl_tree_syntax.specs.declared.span.Spanned.{Spanned}
use Rattle.wesl_tree_syntax.specs.declared.expression.Expression.{Expression}
use Rattle.wesl_tree_syntax.specs.declared.statement.CaseSelector.{CaseSelector}
use Rattle.wesl_tree_syntax.specs.declared.statement.CaseSelector.TheVariants as selectors
use Rattle.wesl_tree_syntax.specs.declared.statement.Statement.{Statement}
use Rattle.wesl_tree_syntax.specs.declared.statement.Statement as made
use Rattle.wesl_tree_syntax.specs.declared.statement.CompoundStatement.{CompoundStatement, out-CompoundStatement}
use Rattle.wesl_tree_syntax.specs.declared.statement.ContinuingStatement.{ContinuingStatement, out-ContinuingStatement}
use Rattle.wesl_tree_syntax.specs.declared.statement.ElseClause.{ElseClause, out-ElseClause}
use Rattle.wesl_tree_syntax.specs.declared.statement.ElseIfClause.{ElseIfClause, out-ElseIfClause}
use Rattle.wesl_tree_syntax.specs.declared.statement.IfClause.{IfClause, out-IfClause}
use Rattle.wesl_tree_syntax.specs.declared.statement.SwitchClause.{SwitchClause, out-SwitchClause}
use Rattle.wesl_text_tokens.specs.declared.symbol.Symbol.TheVariants as is
use Rattle.wesl_text_tokens.specs.Tokens.{symbol}
use Rattle.wesl_text_form.specs.Productions.{a_bare_statement, a_body, a_clause, a_continuing, a_selector, a_statement, an_else, an_else_if, an_expression, an_if, Row, nothing, sym as sign, own, inside, optional, unended}
use Rattle.wesl_text_form.specs.Slots.{alone, may}
use Rattle.wesl_text_form.specs.Spelling.{Slots, below_first, followed, is_end, is_kind, is_lone_default, is_simple, label_at, named, signed, without_last}
use Rattle.wesl_text_print.specs.Printing.{comma_slots, expression_slots, only_if, slots_in}
use Rattle.wesl_text_print.proofs.Adding.{followed_twice, none_after, nothing_before, nothing_behind, shows}
use Rattle.wesl_text_print.proofs.Expressions.{node_shows}
use Rattle.wesl_text_print.proofs.Adding.{shows_before}
use Rattle.wesl_text_print_statements.specs.Parts.{all_in, attributes_slots, option_in, row_below, row_in}
use Rattle.wesl_text_print_statements.specs.Variables.{unended_in}
use Rattle.wesl_text_print_statements.specs.Bodies.{closing_slots, clauses_row, for_slots, headed_slots, opened_row, part_slots, selectors_slots, spelled_selectors, the_break_if, the_continuing, the_else, the_expression}
use Rattle.wesl_text_print_statements.proofs.Rows.{option_then}
use Rattle.wesl_text_print_statements.proofs.Views.{Attributes}
use Rattle.wesl_tree_syntax.proofs.Views.{view_block, view_clause, view_compound, view_continuing, view_else, view_else_if, view_for, view_if, view_if_clause, view_loop, view_return, view_switch, view_while}

-- ---- shapes

three_closed : (a b c r : Slots) → followed (followed a (followed b (followed c (Some [])))) r ≡ followed a (followed b (followed c r))
three_closed a b c r = simp (followed_twice, nothing_before)

clause_shape : (n w : Bool) (A U C X O B : Slots) → followed A (followed (only_if n (if w then U else followed C X)) (followed O B)) ≡ (if n && true then followed A (if w then followed U (followed O B) else followed C (followed X (followed O B))) else None)
clause_shape true true A U C X O B = refl
clause_shape true false A U C X O B = ap (followed A) (followed_twice C X (followed O B))
clause_shape false w A U C X O B = none_after A

for_shape : (p q : Bool) (A F P I S C U R B : Slots)
    → followed A (followed F (followed (followed P (followed (only_if p I) (followed S (followed C (followed S (followed (only_if q U) R)))))) B))
    ≡ (if (p && q) && true then followed A (followed F (followed P (followed I (followed S (followed C (followed S (followed U (followed R B)))))))) else None)
for_shape true true A F P I S C U R B = simp followed_twice
for_shape true false A F P I S C U R B = simp none_after
for_shape false q A F P I S C U R B = simp none_after

module _ (names : List Text) where
  abbrev attrs_of : Attributes → Slots
  attrs_of a = attributes_slots names a

  abbrev body : CompoundStatement → Slots
  body b = slots_in names a_body (compound_view b)

  -- ---- bodies

  pub opened_printed : (b : CompoundStatement) → followed (attrs_of (out-CompoundStatement b).attributes) (followed (Some (signed is.BraceLeft ∷ [])) (followed (all_in names a_statement (listed statement_tree statements (out-CompoundStatement b).statements).children) (Some []))) ≡ row_below names opened_row (compound_view b)
  opened_printed b = ap (row_below names opened_row) (sym (view_compound b))

  abbrev IsClosed : Tree → Type 0
  IsClosed t = followed (row_below names opened_row t) closing_slots ≡ slots_in names a_body t

  pub body_printed : (b : CompoundStatement) → followed (row_below names opened_row (compound_view b)) closing_slots ≡ body b
  body_printed b = subst IsClosed (sym (view_compound b)) (three_closed (attrs_of (out-CompoundStatement b).attributes) (Some (signed is.BraceLeft ∷ [])) (all_in names a_statement (listed statement_tree statements (out-CompoundStatement b).statements).children) closing_slots)

  -- a body with an end of its own
  abbrev HasEnd : {A : Type 0} → Row → (A → Tree) → Option A → Tree → Type 0
  HasEnd row view o t = followed (row_below names opened_row t) (followed (option_in names row view o) closing_slots) ≡ row_in names (inside compound opened_row (optional row (sign is.BraceRight nothing))) (t ∷ optional_tree view o ∷ [])

  with_end : {A : Type 0} (row : Row) (view : A → Tree) (o : Option A) (b : CompoundStatement) → HasEnd row view o (compound_view b)
  with_end row view o b = subst (HasEnd row view o) (sym (view_compound b)) (ap (followed (row_below names opened_row (branch compound (attributes_tree (out-CompoundStatement b).attributes ∷ listed statement_tree statements (out-CompoundStatement b).statements ∷ [])))) (option_then names view row (sign is.BraceRight nothing) o []))

  pub continuing_printed : (c : ContinuingStatement)
      → followed (attrs_of (out-ContinuingStatement c).attributes) (followed (Some (named (codes "continuing") ∷ [])) (followed (row_below names opened_row (compound_view (out-ContinuingStatement c).body)) (followed (option_in names the_break_if break_if_view (out-ContinuingStatement c).break_if) closing_slots))) ≡ slots_in names a_continuing (continuing_view c)
  continuing_printed c =
      ap (λ r. followed (attrs_of (out-ContinuingStatement c).attributes) (followed (Some (named (codes "continuing") ∷ [])) r)) (with_end the_break_if break_if_view (out-ContinuingStatement c).break_if (out-ContinuingStatement c).body)
      ∙ ap (slots_in names a_continuing) (sym (view_continuing c))

  -- ---- clauses

  pub if_clause_printed : (c : IfClause) → followed (headed_slots names (codes "if") (out-IfClause c).expression.node) (followed (body (out-IfClause c).body) (Some [])) ≡ slots_in names an_if (if_view c)
  if_clause_printed c = followed_twice (Some (named (codes "if") ∷ [])) (expression_slots names (out-IfClause c).expression.node) (followed (body (out-IfClause c).body) (Some [])) ∙ ap (slots_in names an_if) (sym (view_if_clause c))

  pub else_if_printed : (c : ElseIfClause) → followed (attrs_of (out-ElseIfClause c).attributes) (followed (Some (named (codes "else") ∷ [])) (followed (headed_slots names (codes "if") (out-ElseIfClause c).expression.node) (followed (body (out-ElseIfClause c).body) (Some [])))) ≡ slots_in names an_else_if (else_if_view c)
  else_if_printed c =
      ap (λ r. followed (attrs_of (out-ElseIfClause c).attributes) (followed (Some (named (codes "else") ∷ [])) r)) (followed_twice (Some (named (codes "if") ∷ [])) (expression_slots names (out-ElseIfClause c).expression.node) (followed (body (out-ElseIfClause c).body) (Some [])))
      ∙ ap (slots_in names an_else_if) (sym (view_else_if c))

  pub else_printed : (c : ElseClause) → followed (attrs_of (out-ElseClause c).attributes) (followed (Some (named (codes "else") ∷ [])) (followed (body (out-ElseClause c).body) (Some []))) ≡ slots_in names an_else (else_view c)
  else_printed c = ap (slots_in names an_else) (sym (view_else c))

  pub clause_printed : (c : SwitchClause) → followed (attrs_of (out-SwitchClause c).attributes) (followed (selectors_slots names (out-SwitchClause c).case_selectors) (followed (Some (may (symbol is.Colon) ∷ [])) (followed (body (out-SwitchClause c).body) (Some [])))) ≡ slots_in names a_clause (clause_view c)
  clause_printed c =
      clause_shape (not (is_end (spelled_selectors names (out-SwitchClause c).case_selectors))) (is_lone_default (spelled_selectors names (out-SwitchClause c).case_selectors)) (attrs_of (out-SwitchClause c).attributes) (Some (alone ∷ [])) (Some (named (codes "case") ∷ [])) (comma_slots names a_selector (map selector_view (out-SwitchClause c).case_selectors.items)) (Some (may (symbol is.Colon) ∷ [])) (followed (body (out-SwitchClause c).body) (Some []))
      ∙ ap (slots_in names a_clause) (sym (view_clause c))

  -- ---- selectors

  abbrev selector : CaseSelector → Slots
  selector s = slots_in names a_selector (selector_view s)

  pub selector_shows : (s : CaseSelector) → shows (selector s) ≡ true
  selector_shows selectors.Default = refl
  selector_shows (selectors.Expression e) = shows_before (slots_in names an_expression (expression_tree e)) (Some []) (node_shows names e)

  pub expression_case : (s : CaseSelector) (e : Spanned Expression) → s ≡ selectors.Expression e → expression_slots names e.node ≡ selector s
  expression_case s e is = sym (nothing_behind (expression_slots names e.node)) ∙ ap selector (sym is)

  pub not_alone : (ss : List CaseSelector) (n : ℕ) → n ≡ length ss → (n ≡ 1 → ⊥) → false ≡ is_lone_default (respell_forest (name_in names) (forest_of (map selector_view ss)))
  not_alone [] n e h = refl
  not_alone (s ∷ []) n e h = absurd (h e)
  not_alone (selectors.Default ∷ s ∷ ss) n e h = refl
  not_alone (selectors.Expression x ∷ s ∷ ss) n e h = refl

  some_selectors : (ss : List CaseSelector) → 0 < length ss → false ≡ is_end (respell_forest (name_in names) (forest_of (map selector_view ss)))
  some_selectors [] some = absurd (omega arith)
  some_selectors (s ∷ ss) some = refl

  pub cases_printed : (ss : Vec CaseSelector Global) → 0 < length ss.items → is_lone_default (spelled_selectors names ss) ≡ false → followed (Some (named (codes "case") ∷ [])) (comma_slots names a_selector (map selector_view ss.items)) ≡ selectors_slots names ss
  cases_printed ss some alone_is =
      ap (λ w. if w then Some (alone ∷ []) else followed (Some (named (codes "case") ∷ [])) (comma_slots names a_selector (map selector_view ss.items))) (sym alone_is)
      ∙ ap (λ e. only_if (not e) (if is_lone_default (spelled_selectors names ss) then Some (alone ∷ []) else followed (Some (named (codes "case") ∷ [])) (comma_slots names a_selector (map selector_view ss.items)))) (some_selectors ss.items some)

  -- ---- statements

  abbrev pub bare : Statement → Slots
  bare s = slots_in names a_bare_statement (statement_view s)

  pub block_printed : (b : CompoundStatement) → body b ≡ bare (made.Compound b)
  block_printed b = sym (nothing_behind (body b)) ∙ ap (slots_in names a_bare_statement) (sym (view_block b))

  pub if_printed : (a : Attributes) (i : IfClause) (es : Vec ElseIfClause Global) (o : Option ElseClause)
      → followed (attrs_of a) (followed (slots_in names an_if (if_view i)) (followed (all_in names an_else_if (listed else_if_view list es).children) (followed (option_in names the_else else_view o) (Some [])))) ≡ bare (made.If a i es o)
  if_printed a i es o =
      ap (λ r. followed (attrs_of a) (followed (slots_in names an_if (if_view i)) (followed (all_in names an_else_if (listed else_if_view list es).children) r))) (option_then names else_view the_else nothing o [])
      ∙ ap (slots_in names a_bare_statement) (sym (view_if a i es o))

  pub switch_printed : (a : Attributes) (e : Spanned Expression) (b : Attributes) (cs : Vec SwitchClause Global)
      → followed (attrs_of a) (followed (headed_slots names (codes "switch") e.node) (followed (attrs_of b) (row_in names clauses_row (listed clause_view clauses cs ∷ [])))) ≡ bare (made.Switch a e b cs)
  switch_printed a e b cs =
      ap (followed (attrs_of a)) (followed_twice (Some (named (codes "switch") ∷ [])) (expression_slots names e.node) (followed (attrs_of b) (row_in names clauses_row (listed clause_view clauses cs ∷ []))))
      ∙ ap (slots_in names a_bare_statement) (sym (view_switch a e b cs))

  pub loop_printed : (a : Attributes) (b : CompoundStatement) (o : Option ContinuingStatement)
      → followed (attrs_of a) (followed (Some (named (codes "loop") ∷ [])) (followed (row_below names opened_row (compound_view b)) (followed (option_in names the_continuing continuing_view o) closing_slots))) ≡ bare (made.Loop a b o)
  loop_printed a b o =
      ap (λ r. followed (attrs_of a) (followed (Some (named (codes "loop") ∷ [])) r)) (with_end the_continuing continuing_view o b)
      ∙ ap (slots_in names a_bare_statement) (sym (view_loop a b o))

  pub while_printed : (a : Attributes) (e : Spanned Expression) (b : CompoundStatement) → followed (attrs_of a) (followed (headed_slots names (codes "while") e.node) (followed (body b) (Some []))) ≡ bare (made.While a e b)
  while_printed a e b =
      ap (followed (attrs_of a)) (followed_twice (Some (named (codes "while") ∷ [])) (expression_slots names e.node) (followed (body b) (Some [])))
      ∙ ap (slots_in names a_bare_statement) (sym (view_while a e b))

  pub return_printed : (a : Attributes) (e : Option (Spanned Expression)) → followed (attrs_of a) (followed (Some (named (codes "return") ∷ [])) (followed (option_in names the_expression expression_tree e) (Some (signed is.Semicolon ∷ [])))) ≡ bare (made.Return a e)
  return_printed a e =
      ap (λ r. followed (attrs_of a) (followed (Some (named (codes "return") ∷ [])) r)) (option_then names expression_tree the_expression (sign is.Semicolon nothing) e [])
      ∙ ap (slots_in names a_bare_statement) (sym (view_return a e))

  -- ---- the parts of a `for`

  abbrev boxed : Box (Spanned Statement) → Tree
  boxed s = statement_tree (box_value s)

  abbrev is_part : Option (Box (Spanned Statement)) → Bool
  is_part None = true
  is_part (Some s) = is_simple (Some (respell_label (name_in names) (statement_view (box_value s).node).label))

  abbrev part : Option (Box (Spanned Statement)) → Slots
  part None = Some []
  part (Some s) = unended_in names a_bare_statement (statement_view (box_value s).node)

  part_is : (o : Option (Box (Spanned Statement))) → part_slots names o ≡ only_if (is_part o) (part o)
  part_is None = refl
  part_is (Some s) = refl

  abbrev is_part_tree : Tree → Bool
  is_part_tree t = is_kind absent (Some (respell_label (name_in names) t.label)) || is_simple (label_at 0 (below_first (respell_forest (name_in names) t.children)))

  part_test : (o : Option (Box (Spanned Statement))) → is_part o ≡ is_part_tree (optional_tree boxed o)
  part_test None = refl
  part_test (Some s) = refl

  abbrev part_row : Row
  part_row = unended a_statement nothing

  part_then : (o : Option (Box (Spanned Statement))) (rest : Row) (ts : List Tree) → followed (part o) (row_in names rest ts) ≡ row_in names (optional part_row rest) (optional_tree boxed o ∷ ts)
  part_then None rest ts = nothing_before (row_in names rest ts)
  part_then (Some s) rest ts =
      ap (λ r. followed r (row_in names rest ts))
      (ap (option_map without_last) (sym (nothing_behind (bare (box_value s).node))) ∙ sym (nothing_behind (option_map without_last (followed (bare (box_value s).node) (Some [])))))

  abbrev semicolon : Slots
  semicolon = Some (signed is.Semicolon ∷ [])

  abbrev last_row : Row
  last_row = sign is.ParenRight (own a_body nothing)

  abbrev rows : Option (Box (Spanned Statement)) → Option (Spanned Expression) → Option (Box (Spanned Statement)) → CompoundStatement → Slots
  rows i c u b = row_in names (optional part_row (sign is.Semicolon (optional the_expression (sign is.Semicolon (optional part_row last_row))))) (optional_tree boxed i ∷ optional_tree expression_tree c ∷ optional_tree boxed u ∷ compound_view b ∷ [])

  for_rows : (i : Option (Box (Spanned Statement))) (c : Option (Spanned Expression)) (u : Option (Box (Spanned Statement))) (b : CompoundStatement)
      → followed (part i) (followed semicolon (followed (option_in names the_expression expression_tree c) (followed semicolon (followed (part u) (row_in names last_row (compound_view b ∷ []))))))
      ≡ rows i c u b
  for_rows i c u b =
      ap (λ r. followed (part i) (followed semicolon (followed (option_in names the_expression expression_tree c) (followed semicolon r)))) (part_then u last_row (compound_view b ∷ []))
      ∙ ap (λ r. followed (part i) (followed semicolon r)) (option_then names expression_tree the_expression (sign is.Semicolon (optional part_row last_row)) c (optional_tree boxed u ∷ compound_view b ∷ []))
      ∙ part_then i (sign is.Semicolon (optional the_expression (sign is.Semicolon (optional part_row last_row)))) (optional_tree expression_tree c ∷ optional_tree boxed u ∷ compound_view b ∷ [])

  abbrev for_head : Slots
  for_head = Some (named (codes "for") ∷ [])

  abbrev opening : Slots
  opening = Some (signed is.ParenLeft ∷ [])

  abbrev tested : Attributes → Slots → Bool → Bool → Slots
  tested a r p q = if (p && q) && true then followed (attrs_of a) (followed for_head (followed opening r)) else None

  pub for_printed : (a : Attributes) (i : Option (Box (Spanned Statement))) (c : Option (Spanned Expression)) (u : Option (Box (Spanned Statement))) (b : CompoundStatement)
      → followed (attrs_of a) (followed for_head (followed (for_slots names i c u) (followed (body b) (Some [])))) ≡ bare (made.For a i c u b)
  for_printed a i c u b =
      ap (λ p. followed (attrs_of a) (followed for_head (followed (followed opening (followed p (followed semicolon (followed (option_in names the_expression expression_tree c) (followed semicolon (followed (part_slots names u) (Some (signed is.ParenRight ∷ [])))))))) (followed (body b) (Some []))))) (part_is i)
      ∙ ap (λ p. followed (attrs_of a) (followed for_head (followed (followed opening (followed (only_if (is_part i) (part i)) (followed semicolon (followed (option_in names the_expression expression_tree c) (followed semicolon (followed p (Some (signed is.ParenRight ∷ [])))))))) (followed (body b) (Some []))))) (part_is u)
      ∙ for_shape (is_part i) (is_part u) (attrs_of a) for_head opening (part i) semicolon (option_in names the_expression expression_tree c) (part u) (Some (signed is.ParenRight ∷ [])) (followed (body b) (Some []))
      ∙ ap (λ r. tested a r (is_part i) (is_part u)) (for_rows i c u b)
      ∙ ap (λ p. tested a (rows i c u b) p (is_part u)) (part_test i)
      ∙ ap (λ q. tested a (rows i c u b) (is_part_tree (optional_tree boxed i)) q) (part_test u)
      ∙ ap (slots_in names a_bare_statement) (sym (view_for a i c u b))
