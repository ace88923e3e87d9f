-- What is left of a node of a list begins with what is left of its attributes; all else stays.
use Rattle.std.proofs.Common.{◌≡◌, ◌⊎◌, ℕ, zero, suc, Bool, true, false, not, cond, ◌&&◌, ◌||◌, if◌then◌else◌, [], ◌∷◌, Option, Some, None, option_and_then, is_some, refl, sym as turned, inl, inr, ap, ap₂, ◌∙◌, subst, append-nil}
use Rattle.std.specs.List.{flat_map}
use Rattle.std.proofs.lemmas.Bool.{and_parts}
use Rattle.wesl_tree_names.specs.Path.{Text}
use Rattle.wesl_tree_syntax.specs.Nodes.{is_attributes}
use Rattle.wesl_tree_syntax.specs.Tree.{Kind, kind, at, unary, binary, assignment, space, access, end, tree, attributes, statement_node, import_node, directive_node, declaration_node, member_node, increment, decrement, declaration, named_component, indexing}
use Rattle.wesl_tree_syntax.specs.Kinds.{same_kind}
use Rattle.wesl_tree_syntax.specs.declared.statement.AssignmentOperator.TheVariants as assignment_operator
use Rattle.wesl_text_form.specs.Slots.{fewest}
use Rattle.wesl_text_form.specs.Productions.{Sort, an_expression, a_bare_expression, an_attribute, a_space, an_access, an_import, a_bare_import, a_directive, a_bare_directive, a_declaration, a_bare_declaration, a_member, a_bare_member, a_parameter, a_statement, a_bare_statement, a_body, a_clause, a_continuing, a_break_if, Row, Rows, nothing, sym, own, run, rows_of, row_at, row_of, spanned}
use Rattle.wesl_text_form.specs.Spelling.{Label, Forest, Slots, spells, followed, first_slots, fits, stands_as, is_kind, is_target_at, are_apart}
use Rattle.wesl_text_reading.proofs.Filled.{no_some, of_some, no_true}
use Rattle.wesl_text_reading.proofs.KindsAgain.{kind_is, label_is}
use Rattle.wesl_text_reading.proofs.Takes.{all_rows, at_rows}
use Rattle.wesl_text_reading.proofs.Classes.{denied}
use Rattle.wesl_text_writable.proofs.Clear.{is_hard_before, are_hard}
use Rattle.wesl_text_writable.proofs.HardTrees.{is_hard, rows_are_hard}
use Rattle.wesl_text_writable.proofs.MadeApart.{AreMeant}
use Rattle.wesl_text_respell.proofs.Balanced.{attribute_comes}
use Rattle.wesl_text_respell.proofs.Units.{where_there}
use Rattle.wesl_text_respell.proofs.Writable.{are_writable, meant_of_writable, writable_of_meant}
use Rattle.wesl_cond_features.specs.declared.chain.Role.{Role}
use Rattle.wesl_cond_features.specs.Features.{Replies, known}
use Rattle.wesl_cond_chains.specs.Conditions.{condition_at, recast, is_list, attributes_in, with_attributes}
use Rattle.wesl_cond_chains.specs.Faults.{condition_faults, conditions}
use Rattle.wesl_text_left.specs.Apart.{is_of_list, has_target, ends_before_target}
use Rattle.wesl_text_left.specs.Laws.{LeftNodes}
use Rattle.wesl_text_left.proofs.Read.{both_there}
use Rattle.wesl_text_left.proofs.Marks.{IsMarked, marked, first_faultless, there_writable}
use Rattle.wesl_text_left.proofs.Following.{Keep, keep_comes, Follows, follows_self, follows_behind, follows_before, follows_gone, follows_changed}

-- ---- what is printed begins with no sign on which what comes before may depend

strip : (b : Bool) (a : Slots) → are_hard b (followed a (Some [])) ≡ true → are_hard b a ≡ true
strip b None h = refl
strip b (Some ss) h = turned (ap (is_hard_before b) (append-nil ss)) ∙ h

pub node_hard : (s : Sort) (l : Label) (c : Forest) → are_hard false (first_slots l c (spells c) s) ≡ true
node_hard s l c = strip false (first_slots l c (spells c) s) (rows_are_hard (tree l c end) (own s nothing) false refl)

pub list_hard : (f : Forest) → are_hard true ((spells f).all an_attribute) ≡ true
list_hard f = strip true ((spells f).all an_attribute) (rows_are_hard (tree (kind attributes) f end) (run attributes an_attribute nothing) true refl)

pub attribute_keeps : (l : Label) (c : Forest) → Keep (first_slots l c (spells c) an_attribute)
attribute_keeps l c = keep_comes (first_slots l c (spells c) an_attribute) (attribute_comes l c)

-- ---- which rows

-- the nodes of lists but statements, without their spans too, and bodies
abbrev is_first : Sort → Bool
is_first an_import = true
is_first a_bare_import = true
is_first a_directive = true
is_first a_bare_directive = true
is_first a_declaration = true
is_first a_bare_declaration = true
is_first a_member = true
is_first a_bare_member = true
is_first a_parameter = true
is_first a_clause = true
is_first a_continuing = true
is_first a_break_if = true
is_first a_body = true
is_first s = false

-- whether a row begins with attributes, or with such a node
abbrev begins : Row → Bool
begins (own s row) = is_first s && is_hard true row
begins (run attributes an_attribute row) = is_hard true row
begins (sym s nothing) = true
begins row = false

-- labels of such nodes, and of statements: they ask nothing of what stands below the first of their children
abbrev is_headed : Label → Bool
is_headed (unary o) = false
is_headed (binary o) = false
is_headed (kind named_component) = false
is_headed (kind indexing) = false
is_headed l = not (is_attributes l) && not (is_list l)

-- those that are no statements have no target
abbrev is_calm : Label → Bool
is_calm l = is_headed l && not (has_target l)

abbrev all_kinds : (Kind → Bool) → Rows → Bool
all_kinds q [] = true
all_kinds q (p ∷ ps) = q p.0 && all_kinds q ps

at_kinds : (q : Kind → Bool) (ps : Rows) (k : Kind) (r : Row) → all_kinds q ps ≡ true → row_at ps k ≡ Some r → q k ≡ true
at_kinds q [] k r a h = absurd (no_some r h)
at_kinds q (p ∷ ps) k r a h = by (λ g. at_kinds q ps k r parts.1 g) (same_kind k p.0) refl h where
  parts : (q p.0 ≡ true) × (all_kinds q ps ≡ true)
  parts = and_parts (q p.0) (all_kinds q ps) a

  by : (row_at ps k ≡ Some r → q k ≡ true) → (b : Bool) → same_kind k p.0 ≡ b → (if b then Some p.1 else row_at ps k) ≡ Some r → q k ≡ true
  by f true e g = ap q (kind_is k p.0 e) ∙ parts.0
  by f false e g = f g

first_rows : (s : Sort) → is_first s ≡ true → all_rows begins (rows_of s) ≡ true
first_rows an_import h = refl
first_rows a_bare_import h = refl
first_rows a_directive h = refl
first_rows a_bare_directive h = refl
first_rows a_declaration h = refl
first_rows a_bare_declaration h = refl
first_rows a_member h = refl
first_rows a_bare_member h = refl
first_rows a_parameter h = refl
first_rows a_clause h = refl
first_rows a_continuing h = refl
first_rows a_break_if h = refl
first_rows a_body h = refl
first_rows s h = absurd (no_true h)

first_kinds : (s : Sort) → is_first s ≡ true → all_kinds (λ k. is_calm (kind k)) (rows_of s) ≡ true
first_kinds an_import h = refl
first_kinds a_bare_import h = refl
first_kinds a_directive h = refl
first_kinds a_bare_directive h = refl
first_kinds a_declaration h = refl
first_kinds a_bare_declaration h = refl
first_kinds a_member h = refl
first_kinds a_bare_member h = refl
first_kinds a_parameter h = refl
first_kinds a_clause h = refl
first_kinds a_continuing h = refl
first_kinds a_break_if h = refl
first_kinds a_body h = refl
first_kinds s h = absurd (no_true h)

-- a row that begins so, of a label that does
abbrev Fits : (Label → Bool) → Label → Row → Type 0
Fits q l r = (begins r ≡ true) × (q l ≡ true)

spanned_begins : (k : Kind) (s : Sort) (j : Kind) (r : Row) → is_first s ≡ true → spanned k s j ≡ Some r → Fits is_calm (at j zero zero) r
spanned_begins k s j r i h = by (same_kind k j) h where
  by : (b : Bool) → (if b then Some (own s nothing) else None) ≡ Some r → Fits is_calm (at j zero zero) r
  by true g = (ap begins (of_some r (own s nothing) (turned g)) ∙ ap (λ z. z && true) i, refl)
  by false g = absurd (no_some r g)

rows_begin : (s : Sort) (l : Label) (r : Row) → is_first s ≡ true → row_of s l ≡ Some r → Fits is_calm l r
rows_begin an_import (at k zero zero) r i h = spanned_begins import_node a_bare_import k r refl h
rows_begin a_directive (at k zero zero) r i h = spanned_begins directive_node a_bare_directive k r refl h
rows_begin a_declaration (at k zero zero) r i h = spanned_begins declaration_node a_bare_declaration k r refl h
rows_begin a_member (at k zero zero) r i h = spanned_begins member_node a_bare_member k r refl h
rows_begin a_statement (at k zero zero) r i h = absurd (no_true i)
rows_begin an_expression (at k zero zero) r i h = absurd (no_true i)
rows_begin an_attribute (at k zero zero) r i h = absurd (no_true i)
rows_begin a_bare_expression (unary o) r i h = absurd (no_true i)
rows_begin a_bare_expression (binary o) r i h = absurd (no_true i)
rows_begin a_bare_statement (assignment o) r i h = absurd (no_true i)
rows_begin a_space (space x) r i h = absurd (no_true i)
rows_begin an_access (access x) r i h = absurd (no_true i)
rows_begin s (kind k) r i h = (at_rows begins (rows_of s) k r (first_rows s i) h, at_kinds (λ k. is_calm (kind k)) (rows_of s) k r (first_kinds s i) h)
rows_begin s (at k zero zero) r i h = absurd (no_some r h)
rows_begin s (at k zero (suc f)) r i h = absurd (no_some r h)
rows_begin s (at k (suc a) f) r i h = absurd (no_some r h)
rows_begin s l r i h = absurd (no_some r h)

statement_begins : (l : Label) (r : Row) → row_of a_bare_statement l ≡ Some r → Fits is_headed l r
statement_begins (assignment assignment_operator.Equal) r h = (ap begins (of_some r _ (turned h)), refl)
statement_begins (assignment o) r h = (ap begins (of_some r _ (turned h)), refl)
statement_begins (kind k) r h = (at_rows begins (rows_of a_bare_statement) k r refl h, at_kinds (λ k. is_headed (kind k)) (rows_of a_bare_statement) k r refl h)
statement_begins (at k zero zero) r h = absurd (no_some r h)
statement_begins (at k zero (suc f)) r h = absurd (no_some r h)
statement_begins (at k (suc a) f) r h = absurd (no_some r h)
statement_begins l r h = absurd (no_some r h)

-- ---- what is asked of children beside their rows

-- children of which the first is another with the same label
fits_again : (l m : Label) (x y o : Forest) → is_headed l ≡ true → (has_target l ≡ true → are_apart (tree m y o) ≡ true) → fits l (tree m x o) ≡ true → fits l (tree m y o) ≡ true
fits_again (assignment assignment_operator.Equal) m x y o i a h = a refl
fits_again (assignment p) m x y o i a h = ap₂ (λ b c. b && c) (and_parts (is_target_at 1 (tree m x o)) (are_apart (tree m x o)) h).0 (a refl)
fits_again (kind increment) m x y o i a h = ap₂ (λ b c. b && c) (and_parts (is_target_at 1 (tree m x o)) (are_apart (tree m x o)) h).0 (a refl)
fits_again (kind decrement) m x y o i a h = ap₂ (λ b c. b && c) (and_parts (is_target_at 1 (tree m x o)) (are_apart (tree m x o)) h).0 (a refl)
fits_again (unary p) m x y o i a h = absurd (no_true i)
fits_again (binary p) m x y o i a h = absurd (no_true i)
fits_again (kind named_component) m x y o i a h = absurd (no_true i)
fits_again (kind indexing) m x y o i a h = absurd (no_true i)
fits_again l m x y o i a h = h

stands_again : (s : Sort) (l m : Label) (x y o : Forest) → stands_as s l (tree m y o) ≡ stands_as s l (tree m x o)
stands_again a_bare_statement (kind declaration) m x y o = refl
stands_again s (kind declaration) m x y o = refl
stands_again s l m x y o = refl

-- slots where tests hold, of which the one leads to the other
follows_where : (b e : Bool) (x y : Slots) → (b ≡ true → e ≡ true) → (b ≡ true → Follows x y) → Follows (if b then x else None) (if e then y else None)
follows_where true e x y f g = subst (λ z. Follows x (if z then y else None)) (turned (f refl)) (g refl)
follows_where false e x y f g = tt

headed_plain : (l : Label) → is_headed l ≡ true → (is_attributes l ≡ false) × (is_list l ≡ false)
headed_plain (unary o) h = absurd (no_true h)
headed_plain (binary o) h = absurd (no_true h)
headed_plain (kind named_component) h = absurd (no_true h)
headed_plain (kind indexing) h = absurd (no_true h)
headed_plain l h = let x : (not (is_attributes l) ≡ true) × (not (is_list l) ≡ true) = and_parts (not (is_attributes l)) (not (is_list l)) h in (denied (is_attributes l) x.0, denied (is_list l) x.1)

module _ (reply : Replies Text) (role : Role) where
  -- what is left of attributes
  abbrev pub left : Forest → Forest
  left = recast (known reply) role

  -- of the children of a node
  abbrev pub children_left : Label → Forest → Forest
  children_left l c = cond (is_attributes l) (left c) (cond (is_list l) c (with_attributes left c))

  abbrev pub IsClear : Forest → Type 0
  IsClear f = flat_map (condition_faults reply) (conditions f) ≡ []

  marks : (f : Forest) → IsClear f → Follows ((spells f).all an_attribute) ((spells (left f)).all an_attribute)
  marks end e = follows_self (Some [])
  marks (tree l c o) e = by (first_slots l c (spells c) an_attribute) refl (marks o (first_faultless reply (condition_at c) (conditions o) e).1) where
    one : Slots
    one = first_slots l c (spells c) an_attribute

    old : Slots
    old = (spells o).all an_attribute

    new : Slots
    new = (spells (left o)).all an_attribute

    of : (g : Forest) → IsMarked l c (left o) g → Follows old new → Follows (followed one old) ((spells g).all an_attribute)
    of g (inl q) f = subst (λ z. Follows (followed one old) ((spells z).all an_attribute)) (turned q) (follows_behind one old new (attribute_keeps l c) f)
    of g (inr (inl q)) f = subst (λ z. Follows (followed one old) ((spells z).all an_attribute)) (turned q) (follows_gone one old new (node_hard an_attribute l c) (list_hard o) (attribute_keeps l c) f)
    of g (inr (inr x)) f = subst (λ z. Follows (followed one old) ((spells z).all an_attribute)) (turned x.1)
        (follows_changed one (first_slots l x.0 (spells x.0) an_attribute) old new (node_hard an_attribute l c) (list_hard o) (attribute_keeps l c) (node_hard an_attribute l x.0) (attribute_keeps l x.0) x.2.0 x.2.1 x.2.2 f)

    by : (z : Slots) → one ≡ z → Follows old new → Follows (followed one old) ((spells (left (tree l c o))).all an_attribute)
    by None q f = subst (λ z. Follows (followed z old) ((spells (left (tree l c o))).all an_attribute)) (turned q) tt
    by (Some ss) q f = of (left (tree l c o)) (marked reply role l c (left o) (ap is_some q) (first_faultless reply (condition_at c) (conditions o) e).0) f

  -- ---- nodes

  abbrev RowsFollow : Forest → Type 0
  RowsFollow f = (r : Row) → begins r ≡ true → Follows ((spells f).row r) ((spells (with_attributes left f)).row r)

  fits_left : (l : Label) (c : Forest) → is_headed l ≡ true → (has_target l ≡ true → are_apart (with_attributes left c) ≡ true) → fits l c ≡ true → fits l (with_attributes left c) ≡ true
  fits_left l end i a h = h
  fits_left l (tree m x o) i a h = fits_again l m x (children_left m x) o i a h

  stands_left : (s : Sort) (l : Label) (c : Forest) → stands_as s l (with_attributes left c) ≡ stands_as s l c
  stands_left s l end = refl
  stands_left s l (tree m x o) = stands_again s l m x (children_left m x) o

  -- what is left of the children of a node that asks nothing of the first
  headed_left : (l : Label) (c : Forest) → is_headed l ≡ true → with_attributes left c ≡ children_left l c
  headed_left l c i =
      let x : (is_attributes l ≡ false) × (is_list l ≡ false) = headed_plain l i in
      turned (ap (λ z. cond z (left c) (cond (is_list l) c (with_attributes left c))) x.0 ∙ ap (λ z. cond z c (with_attributes left c)) x.1)

  clear_below : (l : Label) (c o : Forest) → is_headed l ≡ true → IsClear (attributes_in (tree l c o)) → IsClear (attributes_in c)
  clear_below l c o i e =
      let x : (is_attributes l ≡ false) × (is_list l ≡ false) = headed_plain l i in
      subst (λ z. IsClear z) (ap (λ z. cond z c (cond (is_list l) end (attributes_in c))) x.0 ∙ ap (λ z. cond z end (attributes_in c)) x.1) e

  node_follows : (s : Sort) (l : Label) (c : Forest) → ((r : Row) → row_of s l ≡ Some r → Fits is_headed l r) → (has_target l ≡ true → are_apart (with_attributes left c) ≡ true) → (is_headed l ≡ true → RowsFollow c)
      → Follows (first_slots l c (spells c) s) (first_slots l (children_left l c) (spells (children_left l c)) s)
  node_follows s l c rows a below = by (row_of s l) rows where
    both : is_headed l ≡ true → (fits l c && stands_as s l c) ≡ true → (fits l (with_attributes left c) && stands_as s l (with_attributes left c)) ≡ true
    both i h = let x : (fits l c ≡ true) × (stands_as s l c ≡ true) = and_parts (fits l c) (stands_as s l c) h in ap₂ (λ b e. b && e) (fits_left l c i a x.0) (stands_left s l c ∙ x.1)

    by : (o : Option Row) → ((r : Row) → o ≡ Some r → Fits is_headed l r)
        → Follows (option_and_then (λ r. if fits l c && stands_as s l c then (spells c).row r else None) o)
        (option_and_then (λ r. if fits l (children_left l c) && stands_as s l (children_left l c) then (spells (children_left l c)).row r else None) o)
    by None f = tt
    by (Some r) f =
        let x : Fits is_headed l r = f r refl in
        subst (λ z. Follows (if fits l c && stands_as s l c then (spells c).row r else None) (if fits l z && stands_as s l z then (spells z).row r else None)) (headed_left l c x.1)
        (follows_where (fits l c && stands_as s l c) (fits l (with_attributes left c) && stands_as s l (with_attributes left c)) ((spells c).row r) ((spells (with_attributes left c)).row r) (both x.1) (λ h. below x.1 r x.0))

  first_follows : (s : Sort) (l : Label) (c : Forest) → is_first s ≡ true → (is_headed l ≡ true → RowsFollow c) → Follows (first_slots l c (spells c) s) (first_slots l (children_left l c) (spells (children_left l c)) s)
  first_follows s l c i below = by (row_of s l) refl where
    calm : (r : Row) → row_of s l ≡ Some r → (is_headed l ≡ true) × (not (has_target l) ≡ true)
    calm r e = and_parts (is_headed l) (not (has_target l)) (rows_begin s l r i e).1

    by : (o : Option Row) → row_of s l ≡ o → Follows (first_slots l c (spells c) s) (first_slots l (children_left l c) (spells (children_left l c)) s)
    by None e = subst (λ z. Follows (option_and_then (λ r. if fits l c && stands_as s l c then (spells c).row r else None) z) (first_slots l (children_left l c) (spells (children_left l c)) s)) (turned e) tt
    by (Some x) e = node_follows s l c (λ r g. ((rows_begin s l r i g).0, (calm r g).0)) (λ t. absurd (no_true (turned (denied (has_target l) (calm x e).1) ∙ t))) below

  -- attributes, and what is behind them
  run_follows : (m : Label) (x : Forest) (a : Slots) → IsClear (attributes_in (tree m x end)) → are_hard true a ≡ true
      → Follows (if is_kind attributes (Some m) then followed ((spells x).all an_attribute) a else None) (if is_kind attributes (Some m) then followed ((spells (children_left m x)).all an_attribute) a else None)
  run_follows m x a e h = by (is_kind attributes (Some m)) refl where
    by : (z : Bool) → is_kind attributes (Some m) ≡ z → Follows (if z then followed ((spells x).all an_attribute) a else None) (if z then followed ((spells (children_left m x)).all an_attribute) a else None)
    by false q = tt
    by true q =
        let k : m ≡ kind attributes = label_is attributes m q in
        subst (λ z. Follows (followed ((spells x).all an_attribute) a) (followed ((spells (children_left z x)).all an_attribute) a)) (turned k)
        (follows_before ((spells x).all an_attribute) ((spells (left x)).all an_attribute) a h (marks x (subst (λ z. IsClear (attributes_in (tree z x end))) k e)))

  rows_follow : (f : Forest) → IsClear (attributes_in f) → RowsFollow f
  rows_follow end e r h = follows_self ((spells end).row r)
  rows_follow (tree m x o) e (own s row) h =
      let y : (is_first s ≡ true) × (is_hard true row ≡ true) = and_parts (is_first s) (is_hard true row) h in
      follows_before (first_slots m x (spells x) s) (first_slots m (children_left m x) (spells (children_left m x)) s) ((spells o).row row) (rows_are_hard o row true y.1)
      (first_follows s m x y.0 (λ j. rows_follow x (clear_below m x o j e)))
  rows_follow (tree m x o) e (run attributes an_attribute row) h = run_follows m x ((spells o).row row) e (rows_are_hard o row true h)
  rows_follow (tree m x o) e (sym s nothing) h = tt
  rows_follow (tree m x o) e r h = absurd (no_true h)

  -- ---- the nodes of lists

  target_headed : (l : Label) → has_target l ≡ true → is_headed l ≡ true
  target_headed (assignment o) h = refl
  target_headed (kind increment) h = refl
  target_headed (kind decrement) h = refl
  target_headed l h = absurd (no_true h)

  statement_follows : (c : Forest) → IsClear (attributes_in c) → ends_before_target (at statement_node 0 0) (with_attributes left c) ≡ true → Follows ((spells c).row (own a_bare_statement nothing)) ((spells (with_attributes left c)).row (own a_bare_statement nothing))
  statement_follows end e a = tt
  statement_follows (tree m x o) e a =
      follows_before (first_slots m x (spells x) a_bare_statement) (first_slots m (children_left m x) (spells (children_left m x)) a_bare_statement) ((spells o).row nothing) (rows_are_hard o nothing true refl)
      (node_follows a_bare_statement m x (statement_begins m) apart (λ j. rows_follow x (clear_below m x o j e))) where
        apart : has_target m ≡ true → are_apart (with_attributes left x) ≡ true
        apart t = ap are_apart (headed_left m x (target_headed m t)) ∙ (turned (ap (λ z. not z || are_apart (children_left m x)) t) ∙ a)

  statement_node_follows : (l : Label) (c : Forest) → IsClear (attributes_in (tree l c end)) → ends_before_target l (children_left l c) ≡ true
      → Follows (first_slots l c (spells c) a_statement) (first_slots l (children_left l c) (spells (children_left l c)) a_statement)
  statement_node_follows (at k zero zero) c e a = by k e a where
    by : (k : Kind) → IsClear (attributes_in (tree (at k 0 0) c end)) → ends_before_target (at k 0 0) (with_attributes left c) ≡ true → Follows (first_slots (at k 0 0) c (spells c) a_statement) (first_slots (at k 0 0) (with_attributes left c) (spells (with_attributes left c)) a_statement)
    by statement_node e a = statement_follows c e a
    by k e a = tt
  statement_node_follows (at k zero (suc f)) c e a = tt
  statement_node_follows (at k (suc b) f) c e a = tt
  statement_node_follows (kind k) c e a = tt
  statement_node_follows l c e a = tt

  pub nodes_follow : (s : Sort) (l : Label) (c : Forest) → is_of_list s ≡ true → IsClear (attributes_in (tree l c end)) → ends_before_target l (children_left l c) ≡ true
      → Follows (first_slots l c (spells c) s) (first_slots l (children_left l c) (spells (children_left l c)) s)
  nodes_follow s l c i e a = by (listed s i) where
    listed : (s : Sort) → is_of_list s ≡ true → (s ≡ a_statement) ⊎ (is_first s ≡ true)
    listed a_statement i = inl refl
    listed an_import i = inr refl
    listed a_directive i = inr refl
    listed a_declaration i = inr refl
    listed a_member i = inr refl
    listed a_parameter i = inr refl
    listed a_clause i = inr refl
    listed a_continuing i = inr refl
    listed a_break_if i = inr refl
    listed s i = absurd (no_true i)

    by : (s ≡ a_statement) ⊎ (is_first s ≡ true) → Follows (first_slots l c (spells c) s) (first_slots l (children_left l c) (spells (children_left l c)) s)
    by (inl q) = subst (λ z. Follows (first_slots l c (spells c) z) (first_slots l (children_left l c) (spells (children_left l c)) z)) (turned q) (statement_node_follows l c e a)
    by (inr f) = first_follows s l c f (λ j. rows_follow c (clear_below l c end j e))

-- ---- the attributes of a statement that can be printed end before its target

bare_apart : (l : Label) (c : Forest) → is_some (first_slots l c (spells c) a_bare_statement) ≡ true → (not (has_target l) || are_apart c) ≡ true
bare_apart (assignment assignment_operator.Equal) c h = (and_parts (are_apart c) true (where_there (are_apart c && true) _ h).0).0
bare_apart (assignment o) c h = (and_parts (is_target_at 1 c) (are_apart c) (and_parts (is_target_at 1 c && are_apart c) true (where_there ((is_target_at 1 c && are_apart c) && true) _ h).0).0).1
bare_apart (kind increment) c h = (and_parts (is_target_at 1 c) (are_apart c) (and_parts (is_target_at 1 c && are_apart c) true (where_there ((is_target_at 1 c && are_apart c) && true) _ h).0).0).1
bare_apart (kind decrement) c h = (and_parts (is_target_at 1 c) (are_apart c) (and_parts (is_target_at 1 c && are_apart c) true (where_there ((is_target_at 1 c && are_apart c) && true) _ h).0).0).1
bare_apart l c h = refl

statement_apart : (s : Sort) (m : Label) (c o : Forest) → is_some (first_slots (at statement_node 0 0) (tree m c o) (spells (tree m c o)) s) ≡ true → (not (has_target m) || are_apart c) ≡ true
statement_apart a_statement m c o h = bare_apart m c (both_there (first_slots m c (spells c) a_bare_statement) ((spells o).row nothing) h).0
statement_apart s m c o h = absurd (no_true h)

-- a node with a span
far_start : (s : Sort) (a b : ℕ) → row_of {I = Text} s (at statement_node (suc a) b) ≡ None
far_start an_expression a b = refl
far_start s a b = refl

far_end : (s : Sort) (b : ℕ) → row_of {I = Text} s (at statement_node zero (suc b)) ≡ None
far_end an_expression b = refl
far_end s b = refl

none_there : (s : Sort) (l : Label) (c : Forest) → row_of s l ≡ None → is_some (first_slots l c (spells c) s) ≡ true → ⊥
none_there s l c e h = no_true (turned (ap (λ o. is_some (option_and_then (λ r. if fits l c && stands_as s l c then (spells c).row r else None) o)) e) ∙ h)

pub ends_there : (s : Sort) (l : Label) (c : Forest) → is_some (first_slots l c (spells c) s) ≡ true → ends_before_target l c ≡ true
ends_there s (at statement_node a b) end h = refl
ends_there s (at statement_node zero zero) (tree m c o) h = statement_apart s m c o h
ends_there s (at statement_node zero (suc b)) (tree m c o) h = absurd (none_there s (at statement_node zero (suc b)) (tree m c o) (far_end s b) h)
ends_there s (at statement_node (suc a) b) (tree m c o) h = absurd (none_there s (at statement_node (suc a) b) (tree m c o) (far_start s a b) h)
ends_there s l c h = refl

-- ---- what can be printed

follows_writable : (a b : Slots) → Follows a b → are_writable a ≡ true → are_writable b ≡ true
follows_writable None b f h = absurd (no_true h)
follows_writable (Some ss) None f h = absurd f
follows_writable (Some ss) (Some us) f h =
    writable_of_meant us (subst AreMeant (append-nil (fewest us)) (f [] [] refl refl (subst AreMeant (turned (append-nil (fewest ss))) (meant_of_writable ss h))))

pub left_nodes : LeftNodes
left_nodes reply role s x i h e = (
  (λ g. ends_there s x.label (children_left reply role x.label x.children) (there_writable (first_slots x.label (children_left reply role x.label x.children) (spells (children_left reply role x.label x.children)) s) g)),
  (λ a. follows_writable (first_slots x.label x.children (spells x.children) s) (first_slots x.label (children_left reply role x.label x.children) (spells (children_left reply role x.label x.children)) s) (nodes_follow reply role s x.label x.children i e a) h),
)
