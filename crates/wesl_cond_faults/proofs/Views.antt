-- What is told of a node, from what is told of its parts.
use Rattle.std.proofs.Common.{◌≡◌, ℕ, true, false, List, [], ◌∷◌, map, Option, Some, None, Vec, Global, Box, refl, sym, ap, ◌∙◌, subst}
use Rattle.std.specs.Box.{box_value}
use Rattle.wesl_cond_chains.specs.Faults.{list_at}
use Rattle.wesl_cond_chains.specs.Lists.{alone, elements, holds_body, is_entered, judged}
use Rattle.wesl_cond_chains.specs.Nodes.{replies}
use Rattle.wesl_cond_features.specs.Features.{Replies, known}
use Rattle.wesl_cond_features.specs.declared.features.Features.{Features}
use Rattle.wesl_cond_unit.proofs.Levels.{type_label}
use Rattle.wesl_cond_faults.proofs.Adding.{adds_nothing, adds_then, adds_past, adds_skip, adds_own, adds_inside}
use Rattle.wesl_cond_faults.proofs.Listing.{stay, inside_alone, leaf_alone, own_alone}
use Rattle.wesl_cond_faults.proofs.Walking.{no_list_in, no_list_stays}
use Rattle.wesl_cond_faults.specs.Listed.{AreFaults, nothing}
use Rattle.wesl_cond_chains.specs.Places.{Place}
use Rattle.wesl_cond_faults.specs.Places.{told_of_list}
use Rattle.wesl_cond_faults.specs.Telling.{AddsFaults, AddsAll}
use Rattle.wesl_cond_faults.specs.declared.told.Told.{Told}
use Rattle.wesl_tree_names.specs.Path.{Text}
use Rattle.wesl_tree_syntax.specs.Tree.{Tree, Label, Forest, end, tree, kind, at, before, binder, branch, forest_of, list, present, absent, imports, import_node, directive_list, directive_node, declarations, declaration_node, struct, members, member_node, function, parameters, statement_node, compound, statements, compound_statement, if_statement, if_clause, else_if_clause, else_clause, switch, clauses, switch_clause, for_loop, while_loop}
use Rattle.wesl_tree_syntax.specs.Unit.{UnitView, forest_of_unit, trees_of}
use Rattle.wesl_tree_syntax.specs.View.{attributes_tree, clause_view, compound_view, directive_view, directives_tree, imports_tree, else_if_view, else_view, expression_tree, function_view, global_view, ident_tree, if_view, import_view, listed, member_view, optional, parameter_view, placed, selector_view, statement_tree, statement_view, struct_view, type_view}
use Rattle.wesl_tree_syntax.specs.declared.attribute.Attribute.{Attribute}
use Rattle.wesl_tree_syntax.specs.declared.declaration.FormalParameter.{FormalParameter}
use Rattle.wesl_tree_syntax.specs.declared.declaration.Function.{Function}
use Rattle.wesl_tree_syntax.specs.declared.declaration.GlobalDeclaration.{GlobalDeclaration}
use Rattle.wesl_tree_syntax.specs.declared.declaration.GlobalDeclaration.TheVariants as globals
use Rattle.wesl_tree_syntax.specs.declared.declaration.GlobalDirective.{GlobalDirective}
use Rattle.wesl_tree_syntax.specs.declared.declaration.Struct.{Struct}
use Rattle.wesl_tree_syntax.specs.declared.declaration.StructMember.{StructMember}
use Rattle.wesl_tree_syntax.specs.declared.expression.Expression.{Expression}
use Rattle.wesl_tree_syntax.specs.declared.import.ImportStatement.{ImportStatement}
use Rattle.wesl_tree_syntax.specs.declared.span.Spanned.{Spanned}
use Rattle.wesl_tree_syntax.specs.declared.statement.CaseSelector.{CaseSelector}
use Rattle.wesl_tree_syntax.specs.declared.statement.CaseSelector.TheVariants as selectors
use Rattle.wesl_tree_syntax.specs.declared.statement.CompoundStatement.{CompoundStatement, out-CompoundStatement}
use Rattle.wesl_tree_syntax.specs.declared.statement.ElseClause.{ElseClause, out-ElseClause}
use Rattle.wesl_tree_syntax.specs.declared.statement.ElseIfClause.{ElseIfClause, out-ElseIfClause}
use Rattle.wesl_tree_syntax.specs.declared.statement.IfClause.{IfClause, out-IfClause}
use Rattle.wesl_tree_syntax.specs.declared.statement.Statement.{Statement}
use Rattle.wesl_tree_syntax.specs.declared.statement.Statement.TheViews as made
use Rattle.wesl_tree_syntax.specs.declared.statement.SwitchClause.{SwitchClause, out-SwitchClause}
use Rattle.wesl_tree_syntax.proofs.Views.{view_block, view_clause, view_compound, view_else, view_else_if, view_for, view_if, view_if_clause, view_switch, view_while}

module _ (names : List Text) (reply : Replies ℕ) where
  -- nodes that hold no list
  clear_list : {A : Type 0} (view : A → Tree) (leaf : (x : A) → is_entered (view x).label ≡ false) (xs : Vec A Global) → AreFaults reply false (before (listed view list xs) end) []
  clear_list view leaf xs = inside_alone reply false (kind list) (forest_of (map view xs.items)) [] refl refl (no_list_in reply view leaf xs.items)

  clear_optional : {A : Type 0} (view : A → Tree) (leaf : (x : A) → is_entered (view x).label ≡ false) (o : Option A) → AreFaults reply false (before (optional view o) end) []
  clear_optional view leaf None = inside_alone reply false (kind absent) end [] refl refl nothing
  clear_optional view leaf (Some x) = inside_alone reply false (kind present) (before (view x) end) [] refl refl (leaf_alone reply false (view x).label (view x).children (leaf x))

  leaf_selector : (x : CaseSelector) → is_entered (selector_view x).label ≡ false
  leaf_selector selectors.Default = refl
  leaf_selector (selectors.Expression e) = refl

  some_one : (p : Place ℕ) (ps : List (Place ℕ)) → p ∷ ps ≡ [] → ⊥
  some_one p ps e = cc

  module _ (a b : Told) where
    abbrev pub Good : Tree → Type 0
    Good t = AddsAll names reply (before t end) a b

    -- the view of a value that is known
    pub as_view : (t u : Tree) → t ≡ u → Good u → Good t
    as_view t u e h = subst Good (sym e) h

    -- a list of nodes that hold no list, whichever faults it has
    module _ {A : Type 0} (view : A → Tree) (leaf : (x : A) → is_entered (view x).label ≡ false) (l : Label) (xs : List A) where
      abbrev trees : Forest
      trees = forest_of (map view xs)

      leaves_by : (ps : List (Place ℕ)) → is_entered l ≡ true → told_of_list reply false (list_at false l trees) ≡ ps → AreFaults reply (holds_body false l) (judged (stay reply) false l trees) [] → AreFaults reply false (tree l trees end) ps
      leaves_by [] en is clear = inside_alone reply false l trees [] en is clear
      leaves_by (p ∷ ps) en is clear = subst (AreFaults reply false (tree l trees end)) is (own_alone reply false l trees en (λ none. some_one p ps (sym is ∙ none)))

      leaves_told : is_entered l ≡ true → list_at false l trees ≡ elements false trees → holds_body false l ≡ false → judged (stay reply) false l trees ≡ alone (stay reply) trees
          → AddsFaults names (told_of_list reply false (elements false trees)) a b → AddsAll names reply (tree l trees end) a b
      leaves_told en its apart all h = (
        told_of_list reply false (elements false trees),
        leaves_by (told_of_list reply false (elements false trees)) en (ap (told_of_list reply false) its)
            (subst (λ held. AreFaults reply held (judged (stay reply) false l trees) []) (sym apart) (subst (λ t. AreFaults reply false t []) (sym all) (no_list_stays reply view leaf xs))),
        h,
      )

    pub statement_told : (n : Spanned Statement) → Good (statement_view n.node) → Good (statement_tree n)
    statement_told n h = adds_inside names reply (at statement_node n.span.start n.span.end) (before (statement_view n.node) end) a b refl refl refl h

    pub if_clause_told : (c : IfClause) → Good (compound_view (out-IfClause c).body) → Good (if_view c)
    if_clause_told c h =
        as_view (if_view c) _ (view_if_clause c)
        (adds_inside names reply (kind if_clause) (forest_of (expression_tree (out-IfClause c).expression ∷ compound_view (out-IfClause c).body ∷ [])) a b refl refl refl
        (adds_skip names reply (expression_tree (out-IfClause c).expression) (before (compound_view (out-IfClause c).body) end) a b refl h))

    pub else_if_told : (c : ElseIfClause) → Good (compound_view (out-ElseIfClause c).body) → Good (else_if_view c)
    else_if_told c h =
        let d = out-ElseIfClause c in
        as_view (else_if_view c) _ (view_else_if c)
        (adds_inside names reply (kind else_if_clause) (forest_of (attributes_tree d.attributes ∷ expression_tree d.expression ∷ compound_view d.body ∷ [])) a b refl refl refl
        (adds_skip names reply (attributes_tree d.attributes) (forest_of (expression_tree d.expression ∷ compound_view d.body ∷ [])) a b refl (adds_skip names reply (expression_tree d.expression) (before (compound_view d.body) end) a b refl h)))

    else_clause_told : (c : ElseClause) → Good (compound_view (out-ElseClause c).body) → Good (else_view c)
    else_clause_told c h =
        let d = out-ElseClause c in
        as_view (else_view c) _ (view_else c)
        (adds_inside names reply (kind else_clause) (forest_of (attributes_tree d.attributes ∷ compound_view d.body ∷ [])) a b refl refl refl
        (adds_skip names reply (attributes_tree d.attributes) (before (compound_view d.body) end) a b refl h))

    pub else_told : (o : Option ElseClause) (c : ElseClause) → o ≡ Some c → Good (compound_view (out-ElseClause c).body) → Good (optional else_view o)
    else_told o c is h = subst (λ p. Good (optional else_view p)) (sym is) (adds_inside names reply (kind present) (before (else_view c) end) a b refl refl refl (else_clause_told c h))

    pub optional_told : (o : Option (Box (Spanned Statement) Global)) (x : Box (Spanned Statement) Global) → o ≡ Some x → Good (statement_view (box_value x).node) → Good (optional (λ s. statement_tree (box_value s)) o)
    optional_told o x is h =
        subst (λ p. Good (optional (λ s. statement_tree (box_value s)) p)) (sym is)
        (adds_inside names reply (kind present) (before (statement_tree (box_value x)) end) a b refl refl refl (statement_told (box_value x) h))

    pub clause_told : (c : SwitchClause) → Good (compound_view (out-SwitchClause c).body) → Good (clause_view c)
    clause_told c h =
        let d = out-SwitchClause c in
        as_view (clause_view c) _ (view_clause c)
        (adds_inside names reply (kind switch_clause) (forest_of (attributes_tree d.attributes ∷ listed selector_view list d.case_selectors ∷ compound_view d.body ∷ [])) a b refl refl refl
        (adds_skip names reply (attributes_tree d.attributes) (forest_of (listed selector_view list d.case_selectors ∷ compound_view d.body ∷ [])) a b refl
        (adds_past names reply (listed selector_view list d.case_selectors) (before (compound_view d.body) end) a b (clear_list selector_view leaf_selector d.case_selectors) h)))

    pub clauses_told : (cs : List SwitchClause) → told_of_list reply false (elements false (forest_of (map clause_view cs))) ≡ [] → AddsAll names reply (alone (stay reply) (forest_of (map clause_view cs))) a b → Good (branch clauses (map clause_view cs))
    clauses_told cs clear h = adds_inside names reply (kind clauses) (forest_of (map clause_view cs)) a b refl clear refl h

    pub clauses_refused : (cs : List SwitchClause) → (told_of_list reply false (elements false (forest_of (map clause_view cs))) ≡ [] → ⊥) → AddsFaults names (told_of_list reply false (elements false (forest_of (map clause_view cs)))) a b → Good (branch clauses (map clause_view cs))
    clauses_refused cs some h = adds_own names reply (kind clauses) (forest_of (map clause_view cs)) a b refl some h

    -- statements
    pub compound_told : (s : Statement) (x : CompoundStatement) → s ≡ made.Compound x → Good (compound_view x) → Good (statement_view s)
    compound_told s x is h =
        as_view (statement_view s) _ (ap statement_view is ∙ view_block x)
        (adds_inside names reply (kind compound_statement) (before (compound_view x) end) a b refl refl refl h)

    pub switch_told : (s : Statement) (at : Vec (Spanned Attribute) Global) (e : Spanned Expression) (d : Vec (Spanned Attribute) Global) (cs : Vec SwitchClause Global) → s ≡ made.Switch at e d cs
        → Good (branch clauses (map clause_view cs.items)) → Good (statement_view s)
    switch_told s x e d cs is h =
        as_view (statement_view s) _ (ap statement_view is ∙ view_switch x e d cs)
        (adds_inside names reply (kind switch) (forest_of (attributes_tree x ∷ expression_tree e ∷ attributes_tree d ∷ listed clause_view clauses cs ∷ [])) a b refl refl refl
        (adds_skip names reply (attributes_tree x) (forest_of (expression_tree e ∷ attributes_tree d ∷ listed clause_view clauses cs ∷ [])) a b refl
        (adds_skip names reply (expression_tree e) (forest_of (attributes_tree d ∷ listed clause_view clauses cs ∷ [])) a b refl
        (adds_skip names reply (attributes_tree d) (before (listed clause_view clauses cs) end) a b refl h))))

    pub while_told : (s : Statement) (x : Vec (Spanned Attribute) Global) (e : Spanned Expression) (d : CompoundStatement) → s ≡ made.While x e d → Good (compound_view d) → Good (statement_view s)
    while_told s x e d is h =
        as_view (statement_view s) _ (ap statement_view is ∙ view_while x e d)
        (adds_inside names reply (kind while_loop) (forest_of (attributes_tree x ∷ expression_tree e ∷ compound_view d ∷ [])) a b refl refl refl
        (adds_skip names reply (attributes_tree x) (forest_of (expression_tree e ∷ compound_view d ∷ [])) a b refl (adds_skip names reply (expression_tree e) (before (compound_view d) end) a b refl h)))

    -- a body: its attributes are not entered, and its statements are a judged list
    abbrev body_list : CompoundStatement → Forest
    body_list x = forest_of (map statement_tree (out-CompoundStatement x).statements.items)

    in_body : (x : CompoundStatement) → Good (branch statements (map statement_tree (out-CompoundStatement x).statements.items)) → Good (compound_view x)
    in_body x h =
        let d = out-CompoundStatement x in
        as_view (compound_view x) _ (view_compound x)
        (adds_inside names reply (kind compound) (forest_of (attributes_tree d.attributes ∷ branch statements (map statement_tree d.statements.items) ∷ [])) a b refl refl refl
        (adds_skip names reply (attributes_tree d.attributes) (before (branch statements (map statement_tree d.statements.items)) end) a b refl h))

    pub body_told : (x : CompoundStatement) → told_of_list reply false (elements false (body_list x)) ≡ [] → AddsAll names reply (alone (stay reply) (body_list x)) a b → Good (compound_view x)
    body_told x clear h = in_body x (adds_inside names reply (kind statements) (body_list x) a b refl clear refl h)

    pub body_refused : (x : CompoundStatement) → (told_of_list reply false (elements false (body_list x)) ≡ [] → ⊥) → AddsFaults names (told_of_list reply false (elements false (body_list x))) a b → Good (compound_view x)
    body_refused x some h = in_body x (adds_own names reply (kind statements) (body_list x) a b refl some h)

    -- declarations
    pub imports_told : (xs : List (Spanned ImportStatement)) → AddsFaults names (told_of_list reply false (elements false (forest_of (map (placed import_view import_node) xs)))) a b → Good (branch imports (map (placed import_view import_node) xs))
    imports_told xs h = leaves_told (placed import_view import_node) (λ x. refl) (kind imports) xs refl refl refl refl h

    pub directives_told : (xs : List (Spanned GlobalDirective)) → AddsFaults names (told_of_list reply false (elements false (forest_of (map (placed directive_view directive_node) xs)))) a b → Good (branch directive_list (map (placed directive_view directive_node) xs))
    directives_told xs h = leaves_told (placed directive_view directive_node) (λ x. refl) (kind directive_list) xs refl refl refl refl h

    members_told : (xs : List (Spanned StructMember)) → AddsFaults names (told_of_list reply false (elements false (forest_of (map (placed member_view member_node) xs)))) a b → Good (branch members (map (placed member_view member_node) xs))
    members_told xs h = leaves_told (placed member_view member_node) (λ x. refl) (kind members) xs refl refl refl refl h

    pub parameters_told : (xs : List FormalParameter) → AddsFaults names (told_of_list reply false (elements false (forest_of (map parameter_view xs)))) a b → Good (branch parameters (map parameter_view xs))
    parameters_told xs h = leaves_told parameter_view (λ x. refl) (kind parameters) xs refl refl refl refl h

    pub struct_told : (s : Struct) → AddsFaults names (told_of_list reply false (elements false (forest_of (map (placed member_view member_node) s.members.items)))) a b → Good (struct_view s)
    struct_told s h =
        let m = listed (placed member_view member_node) members s.members in
        adds_inside names reply (kind struct) (forest_of (attributes_tree s.attributes ∷ ident_tree binder s.ident ∷ m ∷ [])) a b refl refl refl
        (adds_skip names reply (attributes_tree s.attributes) (forest_of (ident_tree binder s.ident ∷ m ∷ [])) a b refl (adds_skip names reply (ident_tree binder s.ident) (before m end) a b refl (members_told s.members.items h)))

    pub declarations_told : (xs : List (Spanned GlobalDeclaration)) → told_of_list reply false (elements false (forest_of (map (placed global_view declaration_node) xs))) ≡ []
        → AddsAll names reply (alone (stay reply) (forest_of (map (placed global_view declaration_node) xs))) a b → Good (branch declarations (map (placed global_view declaration_node) xs))
    declarations_told xs clear h = adds_inside names reply (kind declarations) (forest_of (map (placed global_view declaration_node) xs)) a b refl clear refl h

    pub declarations_refused : (xs : List (Spanned GlobalDeclaration)) → (told_of_list reply false (elements false (forest_of (map (placed global_view declaration_node) xs))) ≡ [] → ⊥) → AddsFaults names (told_of_list reply false (elements false (forest_of (map (placed global_view declaration_node) xs)))) a b → Good (branch declarations (map (placed global_view declaration_node) xs))
    declarations_refused xs some h = adds_own names reply (kind declarations) (forest_of (map (placed global_view declaration_node) xs)) a b refl some h

    pub global_told : (n : Spanned GlobalDeclaration) → Good (global_view n.node) → Good (placed global_view declaration_node n)
    global_told n h = adds_inside names reply (at declaration_node n.span.start n.span.end) (before (global_view n.node) end) a b refl refl refl h

  -- in turn
  pub if_told : (a b c d : Told) (s : Statement) (x : Vec (Spanned Attribute) Global) (i : IfClause) (es : Vec ElseIfClause Global) (e : Option ElseClause) → s ≡ made.If x i es e
      → AddsAll names reply (before (compound_view (out-IfClause i).body) end) a b → AddsAll names reply (forest_of (map else_if_view es.items)) b c → AddsAll names reply (before (optional else_view e) end) c d → AddsAll names reply (before (statement_view s) end) a d
  if_told a b c d s x i es e is first others last =
      as_view a d (statement_view s) _ (ap statement_view is ∙ view_if x i es e)
      (adds_inside names reply (kind if_statement) (forest_of (attributes_tree x ∷ if_view i ∷ listed else_if_view list es ∷ optional else_view e ∷ [])) a d refl refl refl
      (adds_skip names reply (attributes_tree x) (forest_of (if_view i ∷ listed else_if_view list es ∷ optional else_view e ∷ [])) a d refl
      (adds_then names reply (if_view i) (forest_of (listed else_if_view list es ∷ optional else_view e ∷ [])) a b d (if_clause_told a b i first)
      (adds_then names reply (listed else_if_view list es) (before (optional else_view e) end) b c d (adds_inside names reply (kind list) (forest_of (map else_if_view es.items)) b c refl refl refl others) last))))

  pub for_told : (a b c d : Told) (s : Statement) (x : Vec (Spanned Attribute) Global) (i : Option (Box (Spanned Statement) Global)) (e : Option (Spanned Expression)) (u : Option (Box (Spanned Statement) Global)) (y : CompoundStatement) → s ≡ made.For x i e u y
      → AddsAll names reply (before (optional (λ s. statement_tree (box_value s)) i) end) a b → AddsAll names reply (before (optional (λ s. statement_tree (box_value s)) u) end) b c → AddsAll names reply (before (compound_view y) end) c d
      → AddsAll names reply (before (statement_view s) end) a d
  for_told a b c d s x i e u y is first next last =
      let view : Option (Box (Spanned Statement) Global) → Tree = optional (λ s. statement_tree (box_value s)) in
      as_view a d (statement_view s) _ (ap statement_view is ∙ view_for x i e u y)
      (adds_inside names reply (kind for_loop) (forest_of (attributes_tree x ∷ view i ∷ optional expression_tree e ∷ view u ∷ compound_view y ∷ [])) a d refl refl refl
      (adds_skip names reply (attributes_tree x) (forest_of (view i ∷ optional expression_tree e ∷ view u ∷ compound_view y ∷ [])) a d refl
      (adds_then names reply (view i) (forest_of (optional expression_tree e ∷ view u ∷ compound_view y ∷ [])) a b d first
      (adds_past names reply (optional expression_tree e) (forest_of (view u ∷ compound_view y ∷ [])) b d (clear_optional expression_tree (λ e. refl) e)
      (adds_then names reply (view u) (before (compound_view y) end) b c d next last)))))

  pub function_told : (a b c : Told) (f : Function) → AddsFaults names (told_of_list reply false (elements false (forest_of (map parameter_view f.parameters.items)))) a b → AddsAll names reply (before (compound_view f.body) end) b c → AddsAll names reply (before (function_view f) end) a c
  function_told a b c f first last =
      let p = listed parameter_view parameters f.parameters in
      let after = forest_of (attributes_tree f.return_attributes ∷ optional type_view f.return_type ∷ compound_view f.body ∷ []) in
      adds_inside names reply (kind function) (before (attributes_tree f.attributes) (before (ident_tree binder f.ident) (before p after))) a c refl refl refl
      (adds_skip names reply (attributes_tree f.attributes) (before (ident_tree binder f.ident) (before p after)) a c refl
      (adds_skip names reply (ident_tree binder f.ident) (before p after) a c refl
      (adds_then names reply p after a b c (parameters_told a b f.parameters.items first)
      (adds_skip names reply (attributes_tree f.return_attributes) (forest_of (optional type_view f.return_type ∷ compound_view f.body ∷ [])) b c refl
      (adds_past names reply (optional type_view f.return_type) (before (compound_view f.body) end) b c (clear_optional type_view (λ t. ap is_entered (type_label (known reply) t)) f.return_type) last)))))

  pub none_told : (a : Told) (t : Tree) → is_entered t.label ≡ false → AddsAll names reply (before t end) a a
  none_told a t e = adds_skip names reply t end a a e (adds_nothing names reply a)

  pub absent_told : {A : Type 0} (view : A → Tree) (a : Told) (o : Option A) → o ≡ None → AddsAll names reply (before (optional view o) end) a a
  absent_told view a o is = subst (λ p. AddsAll names reply (before (optional view p) end) a a) (sym is) (adds_inside names reply (kind absent) end a a refl refl refl (adds_nothing names reply a))

-- the lists of a unit
module _ (features : Features) where
  abbrev Told_in : List Text → Tree → Tree → Tree → Told → Told → Type 0
  Told_in n i d g a b = AddsAll n (replies n features) (forest_of (i ∷ d ∷ g ∷ [])) a b

  pub unit_told : (u : UnitView) (n : List Text) (i : Vec (Spanned ImportStatement) Global) (d : Vec (Spanned GlobalDirective) Global) (g : Tree) → n ≡ u.names → imports_tree i ≡ u.imports → directives_tree d ≡ u.directives → g ≡ u.declarations
      → (a b c e : Told) → AddsFaults n (told_of_list (replies n features) false (elements false (forest_of (map (placed import_view import_node) i.items)))) a b
      → AddsFaults n (told_of_list (replies n features) false (elements false (forest_of (map (placed directive_view directive_node) d.items)))) b c → AddsAll n (replies n features) (before g end) c e
      → AddsAll u.names (replies u.names features) (forest_of_unit (trees_of u)) a e
  unit_told u n i d g of_names of_imports of_directives of_declarations a b c e p q r =
      let reply = replies n features in
      subst (λ x. Told_in x u.imports u.directives u.declarations a e) of_names
      (subst (λ x. Told_in n x u.directives u.declarations a e) of_imports
      (subst (λ x. Told_in n (imports_tree i) x u.declarations a e) of_directives
      (subst (λ x. Told_in n (imports_tree i) (directives_tree d) x a e) of_declarations
      (adds_then n reply (imports_tree i) (forest_of (directives_tree d ∷ g ∷ [])) a b e (imports_told n reply a b i.items p)
      (adds_then n reply (directives_tree d) (before g end) b c e (directives_told n reply b c d.items q) r)))))

-- a declaration in which no list lies
pub no_list : (d : GlobalDeclaration) → ((s : Struct) → d ≡ globals.Struct s → ⊥) → ((f : Function) → d ≡ globals.Function f → ⊥) → is_entered (global_view d).label ≡ false
no_list (globals.Struct s) n0 n1 = absurd (n0 s refl)
no_list (globals.Function f) n0 n1 = absurd (n1 f refl)
no_list globals.Void n0 n1 = refl
no_list (globals.Declaration x) n0 n1 = refl
no_list (globals.TypeAlias x) n0 n1 = refl
no_list (globals.ConstAssert x) n0 n1 = refl
