-- Faults in a node, from the faults in its parts.
use Rattle.std.proofs.Common.{◌≡◌, ℕ, false, List, [], ◌∷◌, map, inl, inr, Option, Some, None, Result, Ok, Err, Vec, Global, Box, refl, sym, ap, ◌∙◌, subst}
use Rattle.std.specs.Box.{box_value}
use Rattle.std.specs.Prelude.{MatchResult}
use Rattle.wesl_cond_chains.specs.Places.{list_places}
use Rattle.wesl_cond_chains.specs.Evaluation.{Refuses}
use Rattle.wesl_cond_chains.specs.Faults.{beside}
use Rattle.wesl_cond_chains.specs.Judging.{IsClear, Checks, RefusesIn}
use Rattle.wesl_cond_chains.specs.Lists.{elements, alone, is_entered}
use Rattle.wesl_cond_unit.proofs.Closed.{body_refused, body_checked}
use Rattle.wesl_cond_unit.proofs.Standing.{stay, split, in_first, nothing, clear_leaf, passed_by, checks_same, list_checked, first_refused, next_checked, skip}
use Rattle.wesl_cond_features.specs.Features.{Replies}
use Rattle.wesl_tree_names.specs.Path.{Text}
use Rattle.wesl_tree_names.specs.declared.errors.Diagnostic.{Diagnostic}
use Rattle.wesl_tree_syntax.specs.Tree.{Tree, Forest, end, kind, at, before, branch, forest_of, list, present, absent, statement_node, compound_statement, if_statement, if_clause, else_if_clause, else_clause, switch, clauses, switch_clause, loop, for_loop, while_loop}
use Rattle.wesl_tree_syntax.specs.View.{attributes_tree, clause_view, compound_view, continuing_view, else_if_view, else_view, expression_tree, if_view, listed, optional, selector_view, statement_tree, statement_view}
use Rattle.wesl_tree_syntax.specs.declared.attribute.Attribute.{Attribute}
use Rattle.wesl_tree_syntax.specs.declared.expression.Expression.{Expression}
use Rattle.wesl_tree_syntax.specs.declared.span.Spanned.{Spanned}
use Rattle.wesl_tree_syntax.specs.declared.statement.CaseSelector.{CaseSelector}
use Rattle.wesl_tree_syntax.specs.declared.statement.CaseSelector.TheVariants as selectors
use Rattle.wesl_tree_syntax.specs.declared.statement.CompoundStatement.{CompoundStatement, out-CompoundStatement}
use Rattle.wesl_tree_syntax.specs.declared.statement.ContinuingStatement.{ContinuingStatement}
use Rattle.wesl_tree_syntax.specs.declared.statement.ElseClause.{ElseClause, out-ElseClause}
use Rattle.wesl_tree_syntax.specs.declared.statement.ElseIfClause.{ElseIfClause, out-ElseIfClause}
use Rattle.wesl_tree_syntax.specs.declared.statement.IfClause.{IfClause, out-IfClause}
use Rattle.wesl_tree_syntax.specs.declared.statement.SwitchClause.{SwitchClause, out-SwitchClause}
use Rattle.wesl_tree_syntax.specs.declared.statement.Statement.{Statement}
use Rattle.wesl_tree_syntax.specs.declared.statement.Statement.TheViews as made
use Rattle.wesl_tree_syntax.proofs.Views.{view_block, view_clause, view_compound, view_else, view_else_if, view_for, view_if, view_if_clause, view_loop, view_switch, view_while}

-- the first refusal of three, if there is one
abbrev pub in_turn : {A : Type 0} → Result A Diagnostic → Result A Diagnostic → Result A Diagnostic → Result A Diagnostic
in_turn (Err e) second third = Err e
in_turn (Ok x) (Err e) third = Err e
in_turn (Ok x) (Ok y) third = third

-- the same told by cases
pub first_of_three : {A : Type 0} (r s w all : Result A Diagnostic) → MatchResult r (λ _. MatchResult s (λ _. all ≡ w) (λ e. all ≡ Err e)) (λ e. all ≡ Err e) → all ≡ in_turn r s w
first_of_three (Err e) s w all h = h
first_of_three (Ok x) (Err e) w all h = h
first_of_three (Ok x) (Ok y) w all h = h

module _ (reply : Replies ℕ) (names : List Text) where
  -- nodes that hold no list
  pub clear_trees : {A : Type 0} (view : A → Tree) (leaf : (x : A) → is_entered (view x).label ≡ false) (xs : List A) → IsClear reply (forest_of (map view xs))
  clear_trees view leaf [] = nothing reply
  clear_trees view leaf (x ∷ xs) = λ f s. clear_trees view leaf xs f (passed_by reply false (view x).label (view x).children (forest_of (map view xs)) (leaf x) f s)

  pub clear_list : {A : Type 0} (view : A → Tree) (leaf : (x : A) → is_entered (view x).label ≡ false) (xs : Vec A Global) → IsClear reply (before (listed view list xs) end)
  clear_list view leaf xs = list_checked reply names {A = ℕ} (kind list) (forest_of (map view xs.items)) (Ok 0) refl refl refl (clear_trees view leaf xs.items)

  pub clear_optional : {A : Type 0} (view : A → Tree) (leaf : (x : A) → is_entered (view x).label ≡ false) (o : Option A) → IsClear reply (before (optional view o) end)
  clear_optional view leaf None = list_checked reply names {A = ℕ} (kind absent) end (Ok 0) refl refl refl (nothing reply)
  clear_optional view leaf (Some x) = list_checked reply names {A = ℕ} (kind present) (before (view x) end) (Ok 0) refl refl refl (clear_leaf reply (view x).label (view x).children (leaf x))

  leaf_selector : (x : CaseSelector) → is_entered (selector_view x).label ≡ false
  leaf_selector selectors.Default = refl
  leaf_selector (selectors.Expression e) = refl

  module _ {A : Type 0} (r : Result A Diagnostic) where
    abbrev pub Good : Tree → Type 0
    Good t = Checks names reply (before t end) r

    -- a part that holds no fault, between others
    between : (t u : Tree) (o : Forest) → IsClear reply (before u end) → Checks names reply (before t o) r → Checks names reply (before t (before u o)) r
    between t u o clear = checks_same reply names (before t o) (before t (before u o)) r
        (λ f s. elim (split reply false t.label t.children (before u o) f s) [
          | inl first ↦ in_first reply false t.label t.children o f first
          | inr s ↦ elim (split reply false u.label u.children o f s) [
            | inl second ↦ absurd (clear f second)
            | inr s ↦ beside s
          ]
        ])
        (λ f s. elim (split reply false t.label t.children o f s) [
          | inl first ↦ in_first reply false t.label t.children (before u o) f first
          | inr s ↦ beside (beside s)
        ])

    -- the view of a value that is known
    pub as_view : (t u : Tree) → t ≡ u → Good u → Good t
    as_view t u e h = subst Good (sym e) h

    pub statement_checked : (n : Spanned Statement) → Good (statement_view n.node) → Good (statement_tree n)
    statement_checked n h = list_checked reply names (at statement_node n.span.start n.span.end) (before (statement_view n.node) end) r refl refl refl h

    pub if_clause_checked : (c : IfClause) → Good (compound_view (out-IfClause c).body) → Good (if_view c)
    if_clause_checked c h =
        as_view (if_view c) _ (view_if_clause c)
        (list_checked reply names (kind if_clause) (forest_of (expression_tree (out-IfClause c).expression ∷ compound_view (out-IfClause c).body ∷ [])) r refl refl refl
        (skip reply names (expression_tree (out-IfClause c).expression) (before (compound_view (out-IfClause c).body) end) r refl h))

    pub else_if_checked : (c : ElseIfClause) → Good (compound_view (out-ElseIfClause c).body) → Good (else_if_view c)
    else_if_checked c h =
        let d = out-ElseIfClause c in
        as_view (else_if_view c) _ (view_else_if c)
        (list_checked reply names (kind else_if_clause) (forest_of (attributes_tree d.attributes ∷ expression_tree d.expression ∷ compound_view d.body ∷ [])) r refl refl refl
        (skip reply names (attributes_tree d.attributes) (forest_of (expression_tree d.expression ∷ compound_view d.body ∷ [])) r refl (skip reply names (expression_tree d.expression) (before (compound_view d.body) end) r refl h)))

    else_clause_checked : (c : ElseClause) → Good (compound_view (out-ElseClause c).body) → Good (else_view c)
    else_clause_checked c h =
        let d = out-ElseClause c in
        as_view (else_view c) _ (view_else c)
        (list_checked reply names (kind else_clause) (forest_of (attributes_tree d.attributes ∷ compound_view d.body ∷ [])) r refl refl refl
        (skip reply names (attributes_tree d.attributes) (before (compound_view d.body) end) r refl h))

    pub else_checked : (o : Option ElseClause) (c : ElseClause) → o ≡ Some c → Good (compound_view (out-ElseClause c).body) → Good (optional else_view o)
    else_checked o c is h = subst (λ p. Good (optional else_view p)) (sym is) (list_checked reply names (kind present) (before (else_view c) end) r refl refl refl (else_clause_checked c h))

    pub optional_checked : (o : Option (Box (Spanned Statement) Global)) (b : Box (Spanned Statement) Global) → o ≡ Some b → Good (statement_view (box_value b).node) → Good (optional (λ s. statement_tree (box_value s)) o)
    optional_checked o b is h =
        subst (λ p. Good (optional (λ s. statement_tree (box_value s)) p)) (sym is)
        (list_checked reply names (kind present) (before (statement_tree (box_value b)) end) r refl refl refl (statement_checked (box_value b) h))

    pub clause_checked : (c : SwitchClause) → Good (compound_view (out-SwitchClause c).body) → Good (clause_view c)
    clause_checked c h =
        let d = out-SwitchClause c in
        as_view (clause_view c) _ (view_clause c)
        (list_checked reply names (kind switch_clause) (forest_of (attributes_tree d.attributes ∷ listed selector_view list d.case_selectors ∷ compound_view d.body ∷ [])) r refl refl refl
        (skip reply names (attributes_tree d.attributes) (forest_of (listed selector_view list d.case_selectors ∷ compound_view d.body ∷ [])) r refl
        (next_checked reply names (listed selector_view list d.case_selectors) (before (compound_view d.body) end) r (clear_list selector_view leaf_selector d.case_selectors) h)))

    pub clauses_checked : (cs : List SwitchClause) → list_places reply false (elements false (forest_of (map clause_view cs))) ≡ [] → Checks names reply (alone (stay reply) (forest_of (map clause_view cs))) r → Good (branch clauses (map clause_view cs))
    clauses_checked cs clear h = list_checked reply names (kind clauses) (forest_of (map clause_view cs)) r refl clear refl h

    -- statements
    pub compound_checked : (s : Statement) (b : CompoundStatement) → s ≡ made.Compound b → Good (compound_view b) → Good (statement_view s)
    compound_checked s b is h =
        as_view (statement_view s) _ (ap statement_view is ∙ view_block b)
        (list_checked reply names (kind compound_statement) (before (compound_view b) end) r refl refl refl h)

    pub if_checked : (s : Statement) (a : Vec (Spanned Attribute) Global) (i : IfClause) (es : Vec ElseIfClause Global) (e : Option ElseClause) → s ≡ made.If a i es e
        → Checks names reply (forest_of (if_view i ∷ listed else_if_view list es ∷ optional else_view e ∷ [])) r → Good (statement_view s)
    if_checked s a i es e is h =
        as_view (statement_view s) _ (ap statement_view is ∙ view_if a i es e)
        (list_checked reply names (kind if_statement) (forest_of (attributes_tree a ∷ if_view i ∷ listed else_if_view list es ∷ optional else_view e ∷ [])) r refl refl refl
        (skip reply names (attributes_tree a) (forest_of (if_view i ∷ listed else_if_view list es ∷ optional else_view e ∷ [])) r refl h))

    pub switch_checked : (s : Statement) (a : Vec (Spanned Attribute) Global) (e : Spanned Expression) (b : Vec (Spanned Attribute) Global) (cs : Vec SwitchClause Global) → s ≡ made.Switch a e b cs
        → Good (branch clauses (map clause_view cs.items)) → Good (statement_view s)
    switch_checked s a e b cs is h =
        as_view (statement_view s) _ (ap statement_view is ∙ view_switch a e b cs)
        (list_checked reply names (kind switch) (forest_of (attributes_tree a ∷ expression_tree e ∷ attributes_tree b ∷ listed clause_view clauses cs ∷ [])) r refl refl refl
        (skip reply names (attributes_tree a) (forest_of (expression_tree e ∷ attributes_tree b ∷ listed clause_view clauses cs ∷ [])) r refl
        (skip reply names (expression_tree e) (forest_of (attributes_tree b ∷ listed clause_view clauses cs ∷ [])) r refl
        (skip reply names (attributes_tree b) (before (listed clause_view clauses cs) end) r refl h))))

    pub loop_checked : (s : Statement) (a : Vec (Spanned Attribute) Global) (b : CompoundStatement) (o : Option ContinuingStatement) → s ≡ made.Loop a b o
        → ((a : Vec (Spanned Attribute) Global) → Good (branch loop (attributes_tree a ∷ compound_view b ∷ optional continuing_view o ∷ []))) → Good (statement_view s)
    loop_checked s a b o is h = as_view (statement_view s) _ (ap statement_view is ∙ view_loop a b o) (h a)

    pub for_checked : (s : Statement) (a : Vec (Spanned Attribute) Global) (i : Option (Box (Spanned Statement) Global)) (c : Option (Spanned Expression)) (u : Option (Box (Spanned Statement) Global)) (b : CompoundStatement) → s ≡ made.For a i c u b
        → Checks names reply (forest_of (optional (λ s. statement_tree (box_value s)) i ∷ optional (λ s. statement_tree (box_value s)) u ∷ compound_view b ∷ [])) r → Good (statement_view s)
    for_checked s a i c u b is h =
        let view : Option (Box (Spanned Statement) Global) → Tree = optional (λ s. statement_tree (box_value s)) in
        as_view (statement_view s) _ (ap statement_view is ∙ view_for a i c u b)
        (list_checked reply names (kind for_loop) (forest_of (attributes_tree a ∷ view i ∷ optional expression_tree c ∷ view u ∷ compound_view b ∷ [])) r refl refl refl
        (skip reply names (attributes_tree a) (forest_of (view i ∷ optional expression_tree c ∷ view u ∷ compound_view b ∷ [])) r refl
        (between (view i) (optional expression_tree c) (forest_of (view u ∷ compound_view b ∷ [])) (clear_optional expression_tree (λ e. refl) c) h)))

    pub while_checked : (s : Statement) (a : Vec (Spanned Attribute) Global) (e : Spanned Expression) (b : CompoundStatement) → s ≡ made.While a e b → Good (compound_view b) → Good (statement_view s)
    while_checked s a e b is h =
        as_view (statement_view s) _ (ap statement_view is ∙ view_while a e b)
        (list_checked reply names (kind while_loop) (forest_of (attributes_tree a ∷ expression_tree e ∷ compound_view b ∷ [])) r refl refl refl
        (skip reply names (attributes_tree a) (forest_of (expression_tree e ∷ compound_view b ∷ [])) r refl (skip reply names (expression_tree e) (before (compound_view b) end) r refl h)))

    pub compound_body : (b : CompoundStatement) → list_places reply false (elements false (forest_of (map statement_tree (out-CompoundStatement b).statements.items))) ≡ []
        → Checks names reply (alone (stay reply) (forest_of (map statement_tree (out-CompoundStatement b).statements.items))) r → Good (compound_view b)
    compound_body b clear h = as_view (compound_view b) _ (view_compound b) (body_checked reply names (out-CompoundStatement b).attributes (map statement_tree (out-CompoundStatement b).statements.items) r clear h)

  pub compound_refused : (b : CompoundStatement) (e : Diagnostic) → Refuses names (list_places reply false (elements false (forest_of (map statement_tree (out-CompoundStatement b).statements.items)))) e → RefusesIn names reply (before (compound_view b) end) e
  compound_refused b e h = subst (λ t. RefusesIn names reply (before t end) e) (sym (view_compound b)) (body_refused reply names (out-CompoundStatement b).attributes (map statement_tree (out-CompoundStatement b).statements.items) e h)

  -- three trees
  module _ (t u v : Tree) where
    pub three_last : {R : Type 0} (r : Result R Diagnostic) → IsClear reply (before t end) → IsClear reply (before u end) → Checks names reply (before v end) r → Checks names reply (forest_of (t ∷ u ∷ v ∷ [])) r
    three_last r p q h = next_checked reply names t (forest_of (u ∷ v ∷ [])) r p (next_checked reply names u (before v end) r q h)

    pub three_second : (f : Diagnostic) → IsClear reply (before t end) → RefusesIn names reply (before u end) f → RefusesIn names reply (forest_of (t ∷ u ∷ v ∷ [])) f
    three_second f p h = next_checked reply names {A = ℕ} t (forest_of (u ∷ v ∷ [])) (Err f) p (first_refused reply names u (before v end) f h)

    pub three_first : (f : Diagnostic) → RefusesIn names reply (before t end) f → RefusesIn names reply (forest_of (t ∷ u ∷ v ∷ [])) f
    three_first f h = first_refused reply names t (forest_of (u ∷ v ∷ [])) f h

    pub three_in_turn : {R : Type 0} (r s w : Result R Diagnostic) → Checks names reply (before t end) r → Checks names reply (before u end) s → Checks names reply (before v end) w → Checks names reply (forest_of (t ∷ u ∷ v ∷ [])) (in_turn r s w)
    three_in_turn (Err e) s w p q h = three_first e p
    three_in_turn (Ok x) (Err e) w p q h = three_second e p q
    three_in_turn (Ok x) (Ok y) w p q h = three_last w p q h

  -- the `else if`s of an `if`
  pub listed_checked : {R : Type 0} (es : Vec ElseIfClause Global) (r : Result R Diagnostic) → Checks names reply (forest_of (map else_if_view es.items)) r → Checks names reply (before (listed else_if_view list es) end) r
  listed_checked es r h = list_checked reply names (kind list) (forest_of (map else_if_view es.items)) r refl refl refl h
