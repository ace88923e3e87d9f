-- What is left of statements, as the code leaves it.
use Rattle.std.specs.Box.{box_value}
use Rattle.std.specs.Vec.{with_items}
use Rattle.std.proofs.Common.{◌≡◌, ℕ, true, false, List, [], ◌∷◌, ◌++◌, map, Option, Some, None, Vec, Box, Global, refl, sym, ap, ◌∙◌}
use mathlib.Core.List.{map-map}
use Rattle.wesl_cond_chains.specs.Chains.{residual_list}
use Rattle.wesl_cond_chains.specs.Lists.{element, elements, alone}
use Rattle.wesl_cond_chains.specs.Nodes.{as_element, optional_elements, optional_forest}
use Rattle.wesl_cond_chains.specs.Residual.{residual_tree}
use Rattle.wesl_cond_unit.proofs.Levels.{inner, inner_left, listed_left, nodes_left, clauses_left, body_left, loop_left, continuing_left}
use Rattle.wesl_cond_features.specs.Answers.{Answers}
use Rattle.wesl_tree_syntax.specs.Tree.{Tree, at, before, branch, declaration_node, end, forest_of, compound, compound_statement, for_loop, statement_node, statements, list, else_clause, else_if_clause, if_clause, if_statement, present, switch, switch_clause, loop, continuing, while_loop}
use Rattle.wesl_tree_syntax.specs.View.{attributes_tree, break_if_view, clause_step, clause_view, compound_step, compound_view, continuing_step, continuing_view, else_if_step, else_if_view, else_step, else_view, expression_tree, global_view, if_step, if_view, listed, optional, placed, selector_view, statement_step, statement_tree, statement_view}
use Rattle.wesl_tree_syntax.specs.declared.attribute.Attribute.{Attribute}
use Rattle.wesl_tree_syntax.specs.declared.declaration.GlobalDeclaration.{GlobalDeclaration}
use Rattle.wesl_tree_syntax.specs.declared.span.Spanned.{Spanned}
use Rattle.wesl_tree_syntax.specs.declared.statement.BreakIfStatement.{BreakIfStatement}
use Rattle.wesl_tree_syntax.specs.declared.statement.CompoundStatement.{CompoundStatement, out-CompoundStatement}
use Rattle.wesl_tree_syntax.specs.declared.statement.ContinuingStatement.{ContinuingStatement, out-ContinuingStatement}
use Rattle.wesl_tree_syntax.specs.declared.expression.Expression.{Expression}
use Rattle.wesl_tree_syntax.specs.declared.statement.CaseSelector.{CaseSelector}
use Rattle.wesl_tree_syntax.specs.declared.statement.CaseSelector.TheVariants as selectors
use Rattle.wesl_tree_syntax.specs.declared.statement.ElseClause.{ElseClause, out-ElseClause}
use Rattle.wesl_tree_syntax.specs.declared.statement.ElseIfClause.{ElseIfClause, out-ElseIfClause}
use Rattle.wesl_tree_syntax.specs.declared.statement.IfClause.{IfClause, out-IfClause}
use Rattle.wesl_tree_syntax.specs.declared.statement.SwitchClause.{SwitchClause, out-SwitchClause}
use Rattle.wesl_tree_syntax.specs.declared.statement.Statement.{Statement}
use Rattle.wesl_tree_syntax.specs.declared.statement.Statement.TheFolds.{fold-roll-CompoundStatement}
use Rattle.wesl_tree_syntax.specs.declared.statement.Statement.TheViews as made
use Rattle.wesl_tree_syntax.specs.declared.statement.Statement.TheViews.{roll-CompoundStatement, roll-ContinuingStatement, roll-ElseClause, roll-ElseIfClause, roll-IfClause, roll-SwitchClause}
use Rattle.wesl_tree_syntax.proofs.Views.{view_block, view_clause, view_clause_of, view_compound, view_continuing, view_continuing_of, view_else, view_else_if, view_else_if_of, view_else_of, view_for, view_if, view_if_clause, view_if_clause_of, view_loop, view_switch, view_while}

view_rolled : (a : Vec (Spanned Attribute) Global) (v : Vec (Spanned Statement) Global) → compound_view (roll-CompoundStatement (record { attributes = a; statements = v })) ≡ branch compound (attributes_tree a ∷ branch statements (map statement_tree v.items) ∷ [])
view_rolled a v = fold-roll-CompoundStatement Tree Tree Tree Tree Tree Tree Tree statement_step compound_step continuing_step else_step else_if_step if_step clause_step (record { attributes = a; statements = v }) ∙ simp map-map

module _ (known : Answers ℕ) where
  -- each statement judged inside
  abbrev pub IsEach : List (Spanned Statement) → List (Spanned Statement) → Type 0
  IsEach xs ys = map statement_tree ys ≡ map (residual_tree known) (map statement_tree xs)

  -- what stays of statements and of what closes them
  abbrev pub AreKept : {B : Type 0} → (B → Tree) → List (Spanned Statement) → Option B → List (Spanned Statement) → Option B → Type 0
  AreKept last ys p zs q =
      map (λ x. as_element false (statement_tree x)) zs ++ optional_elements true last q ≡ residual_list element known (elements false (forest_of (map statement_tree ys)) ++ elements true (optional_forest last p))

  -- a statement in its place
  pub node_settled : (x y : Spanned Statement) → y.span ≡ x.span → statement_view y.node ≡ residual_tree known (statement_view x.node) → statement_tree y ≡ residual_tree known (statement_tree x)
  node_settled x y s e =
      ap (λ p. record { label = at statement_node p.start p.end; children = before (statement_view y.node) end }) s
      ∙ ap (λ t. record { label = at statement_node x.span.start x.span.end; children = before t end }) e

  -- a declaration in its place
  pub global_settled : (x y : Spanned GlobalDeclaration) → y.span ≡ x.span → global_view y.node ≡ residual_tree known (global_view x.node) → placed global_view declaration_node y ≡ residual_tree known (placed global_view declaration_node x)
  global_settled x y s e =
      ap (λ p. record { label = at declaration_node p.start p.end; children = before (global_view y.node) end }) s
      ∙ ap (λ t. record { label = at declaration_node x.span.start x.span.end; children = before t end }) e

  pub compound_settled : (b : CompoundStatement) (ys : List (Spanned Statement)) (v : Vec (Spanned Statement) Global) → IsEach (out-CompoundStatement b).statements.items ys
      → forest_of (map statement_tree v.items) ≡ alone (residual_list element known) (forest_of (map statement_tree ys))
      → compound_view (roll-CompoundStatement (record { attributes = (out-CompoundStatement b).attributes; statements = v })) ≡ residual_tree known (compound_view b)
  compound_settled b ys v e d =
      view_rolled (out-CompoundStatement b).attributes v
      ∙ body_left known (out-CompoundStatement b).attributes (map statement_tree (out-CompoundStatement b).statements.items) (map statement_tree ys) (map statement_tree v.items) e d
      ∙ ap (residual_tree known) (sym (view_compound b))

  inner_break : (o : Option BreakIfStatement) → optional_forest break_if_view o ≡ inner known break_if_view o
  inner_break None = refl
  inner_break (Some b) = refl

  pub block_settled : (c : ContinuingStatement) (ys : List (Spanned Statement)) (v : Vec (Spanned Statement) Global) (q : Option BreakIfStatement)
      → IsEach (out-CompoundStatement (out-ContinuingStatement c).body).statements.items ys → AreKept break_if_view ys (out-ContinuingStatement c).break_if v.items q
      → continuing_view (roll-ContinuingStatement (record { attributes = (out-ContinuingStatement c).attributes; body = roll-CompoundStatement (record { attributes = (out-CompoundStatement (out-ContinuingStatement c).body).attributes; statements = v }); break_if = q })) ≡ residual_tree known (continuing_view c)
  block_settled c ys v q e kept =
      let a = (out-ContinuingStatement c).attributes in
      let b = out-CompoundStatement (out-ContinuingStatement c).body in
      let o = (out-ContinuingStatement c).break_if in
      view_continuing_of a (roll-CompoundStatement (record { attributes = b.attributes; statements = v })) q
      ∙ ap (λ t. branch continuing (attributes_tree a ∷ t ∷ optional break_if_view q ∷ [])) (view_rolled b.attributes v)
      ∙ continuing_left known statement_tree break_if_view a b.attributes b.statements.items ys v.items o o q e (inner_break o) kept
      ∙ ap (λ t. residual_tree known (branch continuing (attributes_tree a ∷ t ∷ optional break_if_view o ∷ []))) (sym (view_compound (out-ContinuingStatement c).body))
      ∙ ap (residual_tree known) (sym (view_continuing c))

  pub loop_settled : (a : Vec (Spanned Attribute) Global) (b : CompoundStatement) (ys : List (Spanned Statement)) (v : Vec (Spanned Statement) Global) (o p q : Option ContinuingStatement)
      → IsEach (out-CompoundStatement b).statements.items ys → optional continuing_view p ≡ residual_tree known (optional continuing_view o) → AreKept continuing_view ys p v.items q
      → statement_view (made.Loop a (roll-CompoundStatement (record { attributes = (out-CompoundStatement b).attributes; statements = v })) q) ≡ residual_tree known (statement_view (made.Loop a b o))
  loop_settled a b ys v o p q e d kept =
      let c = out-CompoundStatement b in
      view_loop a (roll-CompoundStatement (record { attributes = c.attributes; statements = v })) q
      ∙ ap (λ t. branch loop (attributes_tree a ∷ t ∷ optional continuing_view q ∷ [])) (view_rolled c.attributes v)
      ∙ loop_left known statement_tree continuing_view a c.attributes c.statements.items ys v.items o p q e (inner_left known continuing_view o p d) kept
      ∙ ap (λ t. residual_tree known (branch loop (attributes_tree a ∷ t ∷ optional continuing_view o ∷ []))) (sym (view_compound b))
      ∙ ap (residual_tree known) (sym (view_loop a b o))

  -- the clauses of an `if`, and an optional part
  pub if_clause_settled : (c : IfClause) (b : CompoundStatement) → compound_view b ≡ residual_tree known (compound_view (out-IfClause c).body)
      → if_view (roll-IfClause (record { expression = (out-IfClause c).expression; body = b })) ≡ residual_tree known (if_view c)
  if_clause_settled c b e =
      view_if_clause_of (out-IfClause c).expression b
      ∙ ap (λ t. branch if_clause (expression_tree (out-IfClause c).expression ∷ t ∷ [])) e
      ∙ ap (residual_tree known) (sym (view_if_clause c))

  pub else_if_settled : (c : ElseIfClause) (b : CompoundStatement) → compound_view b ≡ residual_tree known (compound_view (out-ElseIfClause c).body)
      → else_if_view (roll-ElseIfClause (record { attributes = (out-ElseIfClause c).attributes; expression = (out-ElseIfClause c).expression; body = b })) ≡ residual_tree known (else_if_view c)
  else_if_settled c b e =
      view_else_if_of (out-ElseIfClause c).attributes (out-ElseIfClause c).expression b
      ∙ ap (λ t. branch else_if_clause (attributes_tree (out-ElseIfClause c).attributes ∷ expression_tree (out-ElseIfClause c).expression ∷ t ∷ [])) e
      ∙ ap (residual_tree known) (sym (view_else_if c))

  pub else_settled : (c : ElseClause) (b : CompoundStatement) → compound_view b ≡ residual_tree known (compound_view (out-ElseClause c).body)
      → else_view (roll-ElseClause (record { attributes = (out-ElseClause c).attributes; body = b })) ≡ residual_tree known (else_view c)
  else_settled c b e =
      view_else_of (out-ElseClause c).attributes b
      ∙ ap (λ t. branch else_clause (attributes_tree (out-ElseClause c).attributes ∷ t ∷ [])) e
      ∙ ap (residual_tree known) (sym (view_else c))

  pub optional_settled : {A : Type 0} (view : A → Tree) (o : Option A) (x y : A) → o ≡ Some x → view y ≡ residual_tree known (view x) → optional view (Some y) ≡ residual_tree known (optional view o)
  optional_settled view o x y is e = ap (λ t. branch present (t ∷ [])) e ∙ ap (λ p. residual_tree known (optional view p)) (sym is)

  selector_left : (x : CaseSelector) → residual_tree known (selector_view x) ≡ selector_view x
  selector_left selectors.Default = refl
  selector_left (selectors.Expression e) = refl

  pub clause_settled : (c : SwitchClause) (b : CompoundStatement) → compound_view b ≡ residual_tree known (compound_view (out-SwitchClause c).body)
      → clause_view (roll-SwitchClause (record { attributes = (out-SwitchClause c).attributes; case_selectors = (out-SwitchClause c).case_selectors; body = b })) ≡ residual_tree known (clause_view c)
  clause_settled c b e =
      let a = (out-SwitchClause c).attributes in
      let x = (out-SwitchClause c).case_selectors in
      view_clause_of a x b
      ∙ ap (λ t. branch switch_clause (attributes_tree a ∷ t ∷ compound_view b ∷ [])) (ap (branch list) (sym (nodes_left known selector_view selector_left x.items)) ∙ sym (listed_left known (map selector_view x.items)))
      ∙ ap (λ t. branch switch_clause (attributes_tree a ∷ residual_tree known (branch list (map selector_view x.items)) ∷ t ∷ [])) e
      ∙ ap (residual_tree known) (sym (view_clause c))

  pub if_settled : (a : Vec (Spanned Attribute) Global) (i i' : IfClause) (es es' : Vec ElseIfClause Global) (e e' : Option ElseClause)
      → if_view i' ≡ residual_tree known (if_view i) → map else_if_view es'.items ≡ map (residual_tree known) (map else_if_view es.items) → optional else_view e' ≡ residual_tree known (optional else_view e)
      → statement_view (made.If a i' es' e') ≡ residual_tree known (statement_view (made.If a i es e))
  if_settled a i i' es es' e e' f g h =
      view_if a i' es' e'
      ∙ ap (λ t. branch if_statement (attributes_tree a ∷ t ∷ listed else_if_view list es' ∷ optional else_view e' ∷ [])) f
      ∙ ap (λ t. branch if_statement (attributes_tree a ∷ residual_tree known (if_view i) ∷ t ∷ optional else_view e' ∷ [])) (ap (branch list) g ∙ sym (listed_left known (map else_if_view es.items)))
      ∙ ap (λ t. branch if_statement (attributes_tree a ∷ residual_tree known (if_view i) ∷ residual_tree known (listed else_if_view list es) ∷ t ∷ [])) h
      ∙ ap (residual_tree known) (sym (view_if a i es e))

  pub switch_settled : (a : Vec (Spanned Attribute) Global) (e : Spanned Expression) (b : Vec (Spanned Attribute) Global) (cs vs : Vec SwitchClause Global) (us : List SwitchClause)
      → map clause_view us ≡ map (residual_tree known) (map clause_view cs.items) → forest_of (map clause_view vs.items) ≡ alone (residual_list element known) (forest_of (map clause_view us))
      → statement_view (made.Switch a e b vs) ≡ residual_tree known (statement_view (made.Switch a e b cs))
  switch_settled a e b cs vs us f g =
      view_switch a e b vs
      ∙ ap (λ t. branch switch (attributes_tree a ∷ expression_tree e ∷ attributes_tree b ∷ t ∷ [])) (clauses_left known (map clause_view cs.items) (map clause_view us) (map clause_view vs.items) f g)
      ∙ ap (residual_tree known) (sym (view_switch a e b cs))

  -- A statement s of these parts, which were lent as those with an index and given back with a prime.
  pub if_in : (s : Statement) (a a' : Vec (Spanned Attribute) Global) (i i0 i' : IfClause) (es es0 : Vec ElseIfClause Global) (ys : List ElseIfClause) (e e0 e' : Option ElseClause)
      → s ≡ made.If a i es e → a' ≡ a → i0 ≡ i → es0 ≡ es → e0 ≡ e
      → if_view i' ≡ residual_tree known (if_view i0) → map else_if_view (with_items es0 ys).items ≡ map (residual_tree known) (map else_if_view es0.items) → optional else_view e' ≡ residual_tree known (optional else_view e0)
      → statement_view (made.If a' i' (with_items es0 ys) e') ≡ residual_tree known (statement_view s)
  if_in s a a' i i0 i' es es0 ys e e0 e' is k0 k1 k2 k3 f g h =
      ap (λ x. statement_view (made.If x i' (with_items es0 ys) e')) k0
      ∙ if_settled a i i' es (with_items es0 ys) e e' (f ∙ ap (λ x. residual_tree known (if_view x)) k1) (g ∙ ap (λ v. map (residual_tree known) (map else_if_view v.items)) k2) (h ∙ ap (λ x. residual_tree known (optional else_view x)) k3)
      ∙ ap (λ x. residual_tree known (statement_view x)) (sym is)

  pub switch_in : (s s' : Statement) (a : Vec (Spanned Attribute) Global) (e : Spanned Expression) (b : Vec (Spanned Attribute) Global) (cs cs0 vs : Vec SwitchClause Global) (us : List SwitchClause)
      → s ≡ made.Switch a e b cs → s' ≡ made.Switch a e b vs → cs0 ≡ cs
      → map clause_view us ≡ map (residual_tree known) (map clause_view cs0.items) → forest_of (map clause_view vs.items) ≡ alone (residual_list element known) (forest_of (map clause_view us))
      → statement_view s' ≡ residual_tree known (statement_view s)
  switch_in s s' a e b cs cs0 vs us is k0 k1 f g =
      ap statement_view k0 ∙ switch_settled a e b cs vs us (f ∙ ap (λ v. map (residual_tree known) (map clause_view v.items)) k1) g
      ∙ ap (λ x. residual_tree known (statement_view x)) (sym is)

  pub loop_in : (s : Statement) (a a' : Vec (Spanned Attribute) Global) (b b0 : CompoundStatement) (ys : List (Spanned Statement)) (v : Vec (Spanned Statement) Global) (o o0 p q : Option ContinuingStatement)
      → s ≡ made.Loop a b o → a' ≡ a → b0 ≡ b → o0 ≡ o
      → IsEach (out-CompoundStatement b0).statements.items ys → optional continuing_view p ≡ residual_tree known (optional continuing_view o0) → AreKept continuing_view ys p v.items q
      → statement_view (made.Loop a' (roll-CompoundStatement (record { attributes = (out-CompoundStatement b0).attributes; statements = v })) q) ≡ residual_tree known (statement_view s)
  loop_in s a a' b b0 ys v o o0 p q is k0 k1 k2 e d kept =
      ap (λ x. statement_view (made.Loop x (roll-CompoundStatement (record { attributes = (out-CompoundStatement b0).attributes; statements = v })) q)) k0
      ∙ loop_settled a b0 ys v o0 p q e d kept
      ∙ ap (λ x. residual_tree known (statement_view (made.Loop a x o0))) k1 ∙ ap (λ x. residual_tree known (statement_view (made.Loop a b x))) k2
      ∙ ap (λ x. residual_tree known (statement_view x)) (sym is)

  pub compound_in : (s s' : Statement) (b b0 b' : CompoundStatement) → s ≡ made.Compound b → s' ≡ made.Compound b' → b0 ≡ b → compound_view b' ≡ residual_tree known (compound_view b0)
      → statement_view s' ≡ residual_tree known (statement_view s)
  compound_in s s' b b0 b' is new k d =
      ap statement_view new ∙ view_block b'
      ∙ ap (λ t. branch compound_statement (t ∷ [])) (d ∙ ap (λ x. residual_tree known (compound_view x)) k)
      ∙ ap (residual_tree known) (sym (view_block b)) ∙ ap (λ x. residual_tree known (statement_view x)) (sym is)

  pub while_in : (s s' : Statement) (a : Vec (Spanned Attribute) Global) (e : Spanned Expression) (b b0 b' : CompoundStatement) → s ≡ made.While a e b → s' ≡ made.While a e b' → b0 ≡ b → compound_view b' ≡ residual_tree known (compound_view b0)
      → statement_view s' ≡ residual_tree known (statement_view s)
  while_in s s' a e b b0 b' is new k d =
      ap statement_view new ∙ view_while a e b'
      ∙ ap (λ t. branch while_loop (attributes_tree a ∷ expression_tree e ∷ t ∷ [])) (d ∙ ap (λ x. residual_tree known (compound_view x)) k)
      ∙ ap (residual_tree known) (sym (view_while a e b)) ∙ ap (λ x. residual_tree known (statement_view x)) (sym is)

  abbrev in_place : Option (Box (Spanned Statement) Global) → Tree
  in_place = optional (λ s. statement_tree (box_value s))

  condition_left : (c : Option (Spanned Expression)) → optional expression_tree c ≡ residual_tree known (optional expression_tree c)
  condition_left None = refl
  condition_left (Some e) = refl

  pub for_in : (s s' : Statement) (a : Vec (Spanned Attribute) Global) (i i0 i' : Option (Box (Spanned Statement) Global)) (c : Option (Spanned Expression)) (u u0 u' : Option (Box (Spanned Statement) Global)) (b b0 b' : CompoundStatement)
      → s ≡ made.For a i c u b → s' ≡ made.For a i' c u' b' → i0 ≡ i → u0 ≡ u → b0 ≡ b
      → in_place i' ≡ residual_tree known (in_place i0) → in_place u' ≡ residual_tree known (in_place u0) → compound_view b' ≡ residual_tree known (compound_view b0)
      → statement_view s' ≡ residual_tree known (statement_view s)
  for_in s s' a i i0 i' c u u0 u' b b0 b' is new k0 k1 k2 f g d =
      let left = residual_tree known in
      ap statement_view new ∙ view_for a i' c u' b'
      ∙ ap (λ t. branch for_loop (attributes_tree a ∷ t ∷ optional expression_tree c ∷ in_place u' ∷ compound_view b' ∷ [])) (f ∙ ap (λ x. left (in_place x)) k0)
      ∙ ap (λ t. branch for_loop (attributes_tree a ∷ left (in_place i) ∷ t ∷ in_place u' ∷ compound_view b' ∷ [])) (condition_left c)
      ∙ ap (λ t. branch for_loop (attributes_tree a ∷ left (in_place i) ∷ left (optional expression_tree c) ∷ t ∷ compound_view b' ∷ [])) (g ∙ ap (λ x. left (in_place x)) k1)
      ∙ ap (λ t. branch for_loop (attributes_tree a ∷ left (in_place i) ∷ left (optional expression_tree c) ∷ left (in_place u) ∷ t ∷ [])) (d ∙ ap (λ x. left (compound_view x)) k2)
      ∙ ap left (sym (view_for a i c u b)) ∙ ap (λ x. left (statement_view x)) (sym is)
