-- Each node takes at least one token.
use Rattle.std.proofs.Common.{◌≡◌, ◌⊎◌, zero, suc, ◌<◌, Bool, true, false, not, ◌&&◌, ◌||◌, if◌then◌else◌, List, [], ◌∷◌, length, Option, Some, None, option_and_then, option_map, refl, sym as turned, inl, inr, ap, ◌∙◌, codes, lt_of_lt_of_le, lt_of_le_of_lt}
use Rattle.wesl_tree_syntax.specs.Kinds.{same_kind}
use Rattle.wesl_tree_syntax.specs.Tree.{Kind, kind, at, ident, text, truth, unary, binary, assignment, space, access, end, tree}
use Rattle.wesl_tree_syntax.specs.declared.statement.AssignmentOperator.TheVariants as assignment_operator
use Rattle.wesl_text_tokens.specs.Tokens.{Token, name, number, symbol, open_list, close_list}
use Rattle.wesl_text_form.specs.Slots.{must, may, alone}
use Rattle.wesl_text_form.specs.Productions.{Sort, an_expression, a_bare_expression, an_attribute, a_bare_attribute, a_selector, a_space, an_access, an_import, a_bare_import, a_directive, a_bare_directive, a_member, a_bare_member, a_statement, a_bare_statement, a_declaration, a_bare_declaration, Leaf, an_ident, an_item, a_name, a_word, a_custom, a_literal, a_rule, some_words, one_or_two, steps, a_path, Row, Rows, nothing, sym, may_sym, says, opens, closes, own, leaf, run, commas, optional, inside, target, selectors, unended, arrow, row_at, rows_of, row_of, spanned}
use Rattle.wesl_text_form.specs.Names.{is_name, is_number}
use Rattle.wesl_text_form.specs.Spelling.{Label, Forest, Slots, Spells, spells, followed, named, signed, trailing, leaf_slots, item_role, first_slots, row_slots, row_of_none, fits, stands_as, is_end, is_kind, is_absent_at, is_wildcard, leads_to_place, is_lone_default}
use Rattle.wesl_tree_syntax.specs.Kinds.{same_role}
use Rattle.wesl_text_form.specs.Operators.{class_of, is_tight}
use Rattle.wesl_text_form.specs.Spelling.{label_at, without_last}
use Rattle.wesl_tree_syntax.specs.Tree.{present, absent, list, expression_node, statement_node, attribute_node, member_node, import_node, directive_node, declaration_node}
use Rattle.wesl_text_tokens.specs.declared.symbol.Symbol.TheVariants as symbol_type
use Rattle.wesl_text_reading.proofs.Filled.{no_some, of_some, no_true, fill, parts, one, token_lt, alone_lt, fill_le}
use Rattle.std.proofs.lemmas.Bool.{and_parts}

-- whether a leaf of this kind takes a token: of those that stand alone in a row
abbrev pub leaf_takes : Leaf → Bool
leaf_takes (an_ident r) = true
leaf_takes an_item = true
leaf_takes a_literal = true
leaf_takes _ = false

-- whether the text of a row takes a token, whatever the children are
abbrev pub takes : Row → Bool
takes nothing = false
takes (sym s row) = true
takes (may_sym s row) = takes row
takes (says w row) = true
takes (opens row) = true
takes (closes row) = true
takes (own s row) = true
takes (leaf f row) = leaf_takes f || takes row
takes (run k s row) = takes row
takes (commas k s row) = takes row
takes (optional ins row) = takes row
takes (inside k ins row) = takes row
takes (target row) = true
takes (selectors row) = true
takes (unended s row) = takes row
takes (arrow row) = takes row

-- a test of all rows of a table
abbrev pub all_rows : (Row → Bool) → Rows → Bool
all_rows q [] = true
all_rows q (p ∷ ps) = q p.1 && all_rows q ps

-- ---- what holds where slots are filled

-- one of two
pub chosen : (b : Bool) (x y : Slots) (ts us : List Token) → fill (if b then x else y) ts ≡ Some us → ((b ≡ true) × (fill x ts ≡ Some us)) ⊎ ((b ≡ false) × (fill y ts ≡ Some us))
chosen true x y ts us h = inl (refl, h)
chosen false x y ts us h = inr (refl, h)

-- where a test holds
pub where_true : (b : Bool) (x : Slots) (ts us : List Token) → fill (if b then x else None) ts ≡ Some us → (b ≡ true) × (fill x ts ≡ Some us)
where_true true x ts us h = (refl, h)
where_true false x ts us h = absurd (no_some us h)

-- a node: its row, and that its children fit
pub first_parts : (l : Label) (c : Forest) (b : Spells) (s : Sort) (ts us : List Token) → fill (first_slots l c b s) ts ≡ Some us
    → (r : Row) × (row_of s l ≡ Some r) × ((fits l c && stands_as s l c) ≡ true) × (fill (b.row r) ts ≡ Some us)
first_parts l c b s ts us h = at (row_of s l) refl h where
  at : (o : Option Row) → row_of s l ≡ o → fill (option_and_then (λ r. if fits l c && stands_as s l c then b.row r else None) o) ts ≡ Some us
      → (r : Row) × (row_of s l ≡ Some r) × ((fits l c && stands_as s l c) ≡ true) × (fill (b.row r) ts ≡ Some us)
  at None e g = absurd (no_some us g)
  at (Some r) e g = let x : ((fits l c && stands_as s l c) ≡ true) × (fill (b.row r) ts ≡ Some us) = where_true (fits l c && stands_as s l c) (b.row r) ts us g in (r, e, x.0, x.1)

-- ---- tables

-- the row of a kind is one of the table
pub at_rows : (q : Row → Bool) (ps : Rows) (k : Kind) (r : Row) → all_rows q ps ≡ true → row_at ps k ≡ Some r → q r ≡ true
at_rows q [] k r a h = absurd (no_some r h)
at_rows q (p ∷ ps) k r a h = let x : (q p.1 ≡ true) × (all_rows q ps ≡ true) = and_parts (q p.1) (all_rows q ps) a in at (λ b e. at_rows q ps k r b e) (same_kind k p.0) x h where
  at : (all_rows q ps ≡ true → row_at ps k ≡ Some r → q r ≡ true) → (b : Bool) → (q p.1 ≡ true) × (all_rows q ps ≡ true) → (if b then Some p.1 else row_at ps k) ≡ Some r → q r ≡ true
  at others true x g = ap q (of_some r p.1 (turned g)) ∙ x.0
  at others false x g = others x.1 g

spanned_takes : (k : Kind) (s : Sort) (j : Kind) (r : Row) → spanned k s j ≡ Some r → takes r ≡ true
spanned_takes k s j r h = at (same_kind k j) h where
  at : (b : Bool) → (if b then Some (own s nothing) else None) ≡ Some r → takes r ≡ true
  at true g = ap takes (of_some r (own s nothing) (turned g))
  at false g = absurd (no_some r g)

-- each row of the table takes a token
pub row_takes : (s : Sort) (l : Label) (r : Row) → row_of s l ≡ Some r → takes r ≡ true
row_takes a_bare_expression (unary o) r h = ap takes (of_some r _ (turned h))
row_takes a_bare_expression (binary o) r h = ap takes (of_some r _ (turned h))
row_takes a_bare_statement (assignment assignment_operator.Equal) r h = ap takes (of_some r _ (turned h))
row_takes a_bare_statement (assignment o) r h = ap takes (of_some r _ (turned h))
row_takes a_space (space x) r h = ap takes (of_some r _ (turned h))
row_takes an_access (access x) r h = ap takes (of_some r _ (turned h))
row_takes an_expression (at k zero zero) r h = spanned_takes expression_node a_bare_expression k r h
row_takes a_statement (at k zero zero) r h = spanned_takes statement_node a_bare_statement k r h
row_takes an_attribute (at k zero zero) r h = spanned_takes attribute_node a_bare_attribute k r h
row_takes a_member (at k zero zero) r h = spanned_takes member_node a_bare_member k r h
row_takes an_import (at k zero zero) r h = spanned_takes import_node a_bare_import k r h
row_takes a_directive (at k zero zero) r h = spanned_takes directive_node a_bare_directive k r h
row_takes a_declaration (at k zero zero) r h = spanned_takes declaration_node a_bare_declaration k r h
row_takes s (kind k) r h = at_rows takes (rows_of s) k r refl h
row_takes s (at k zero zero) r h = absurd (no_some r h)
row_takes s (at k zero (suc f)) r h = absurd (no_some r h)
row_takes s (at k (suc a) f) r h = absurd (no_some r h)
row_takes s l r h = absurd (no_some r h)

-- ---- where tokens fill a row, or the place of a sort, fewer are left

leaf_lt : (f : Leaf) (l : Label) (o : Forest) (ts us : List Token) → leaf_takes f ≡ true → fill (leaf_slots f l o) ts ≡ Some us → length us < length ts
leaf_lt (an_ident r) (ident q t) o ts us k h = token_lt (name t) ts us (one (named t) ts us (where_true (same_role r q && is_name t) (Some (named t ∷ [])) ts us h).1)
leaf_lt an_item (ident q t) o ts us k h = token_lt (name t) ts us (one (named t) ts us (where_true (same_role (item_role o) q && is_name t) (Some (named t ∷ [])) ts us h).1)
leaf_lt a_literal (truth b) o ts us k h = token_lt (name (if b then codes "true" else codes "false")) ts us (one (named (if b then codes "true" else codes "false")) ts us h)
leaf_lt a_literal (text t) o ts us k h = token_lt (number t) ts us (one (must (number t)) ts us (where_true (is_number t) (Some (must (number t) ∷ [])) ts us h).1)
leaf_lt a_name l o ts us k h = absurd (no_true k)
leaf_lt a_word l o ts us k h = absurd (no_true k)
leaf_lt a_custom l o ts us k h = absurd (no_true k)
leaf_lt a_rule l o ts us k h = absurd (no_true k)
leaf_lt some_words l o ts us k h = absurd (no_true k)
leaf_lt one_or_two l o ts us k h = absurd (no_true k)
leaf_lt steps l o ts us k h = absurd (no_true k)
leaf_lt (a_path slashes) l o ts us k h = absurd (no_true k)
leaf_lt f l o ts us k h = absurd (no_some us h)

-- one slot, and others
token_first : (t : Token) (b : Slots) (ts us : List Token) → fill (followed (Some (must t ∷ [])) b) ts ≡ Some us → length us < length ts
token_first t b ts us h = let x : (vs : List Token) × (fill (Some (must t ∷ [])) ts ≡ Some vs) × (fill b vs ≡ Some us) = parts (Some (must t ∷ [])) b ts us h in
    lt_of_le_of_lt (fill_le b x.0 us x.2) (token_lt t ts x.0 (one (must t) ts x.0 x.1))

-- the first of two takes a token, or the second
first_lt : (a b : Slots) (ts us : List Token) → fill (followed a b) ts ≡ Some us → ((vs : List Token) → fill a ts ≡ Some vs → length vs < length ts) → length us < length ts
first_lt a b ts us h k = let x : (vs : List Token) × (fill a ts ≡ Some vs) × (fill b vs ≡ Some us) = parts a b ts us h in lt_of_le_of_lt (fill_le b x.0 us x.2) (k x.0 x.1)

second_lt : (a b : Slots) (ts us : List Token) → fill (followed a b) ts ≡ Some us → ((vs : List Token) → fill b vs ≡ Some us → length us < length vs) → length us < length ts
second_lt a b ts us h k = let x : (vs : List Token) × (fill a ts ≡ Some vs) × (fill b vs ≡ Some us) = parts a b ts us h in lt_of_lt_of_le (k x.0 x.2) (fill_le a ts x.0 x.1)

end_lt : (r : Row) (ts us : List Token) → takes r ≡ true → fill (row_of_none r) ts ≡ Some us → length us < length ts
end_lt (sym s row) ts us k h = token_first (symbol s) (row_of_none row) ts us h
end_lt (may_sym s row) ts us k h = second_lt (Some (may (symbol s) ∷ [])) (row_of_none row) ts us h (λ vs g. end_lt row vs us k g)
end_lt (says w row) ts us k h = token_first (name w) (row_of_none row) ts us h
end_lt (opens row) ts us k h = token_first open_list (row_of_none row) ts us h
end_lt (closes row) ts us k h = token_first close_list (row_of_none row) ts us h
end_lt nothing ts us k h = absurd (no_true k)
end_lt r ts us k h = absurd (no_some us h)

abbrev pub RowLess : Forest → Type 0
RowLess f = (r : Row) (ts us : List Token) → takes r ≡ true → fill ((spells f).row r) ts ≡ Some us → length us < length ts

node_lt : (l : Label) (c : Forest) → RowLess c → (s : Sort) (ts us : List Token) → fill (first_slots l c (spells c) s) ts ≡ Some us → length us < length ts
node_lt l c less s ts us h =
    let x : (r : Row) × (row_of s l ≡ Some r) × ((fits l c && stands_as s l c) ≡ true) × (fill ((spells c).row r) ts ≡ Some us) = first_parts l c (spells c) s ts us h in
    less x.0 ts us (row_takes s l x.0 x.1) x.3

module _ (l : Label) (c o : Forest) (below : RowLess c) (later : RowLess o) where
  tree_lt : (r : Row) (ts us : List Token) → takes r ≡ true → fill (row_slots l c o (spells c) (spells o) r) ts ≡ Some us → length us < length ts
  tree_lt nothing ts us k h = absurd (no_true k)
  tree_lt (sym s row) ts us k h = token_first (symbol s) (row_slots l c o (spells c) (spells o) row) ts us h
  tree_lt (may_sym s row) ts us k h = second_lt (Some (may (symbol s) ∷ [])) (row_slots l c o (spells c) (spells o) row) ts us h (λ vs g. tree_lt row vs us k g)
  tree_lt (says w row) ts us k h = token_first (name w) (row_slots l c o (spells c) (spells o) row) ts us h
  tree_lt (opens row) ts us k h = token_first open_list (row_slots l c o (spells c) (spells o) row) ts us h
  tree_lt (closes row) ts us k h = token_first close_list (row_slots l c o (spells c) (spells o) row) ts us h
  tree_lt (own s row) ts us k h = first_lt (first_slots l c (spells c) s) ((spells o).row row) ts us h (λ vs g. node_lt l c below s ts vs g)
  tree_lt (leaf f row) ts us k h = at (leaf_takes f) refl k where
    filled : fill (followed (leaf_slots f l o) ((spells o).row row)) ts ≡ Some us
    filled = (where_true (is_end c) (followed (leaf_slots f l o) ((spells o).row row)) ts us h).1

    at : (b : Bool) → leaf_takes f ≡ b → (b || takes row) ≡ true → length us < length ts
    at true e g = first_lt (leaf_slots f l o) ((spells o).row row) ts us filled (λ vs g. leaf_lt f l o ts vs e g)
    at false e g = second_lt (leaf_slots f l o) ((spells o).row row) ts us filled (λ vs z. later row vs us g z)
  tree_lt (run k s row) ts us t h = second_lt ((spells c).all s) ((spells o).row row) ts us (where_true (is_kind k (Some l)) (followed ((spells c).all s) ((spells o).row row)) ts us h).1 (λ vs g. later row vs us t g)
  tree_lt (commas k s row) ts us t h = second_lt (option_map trailing ((spells c).separate s)) ((spells o).row row) ts us (where_true (is_kind k (Some l)) (followed (option_map trailing ((spells c).separate s)) ((spells o).row row)) ts us h).1 (λ vs g. later row vs us t g)
  tree_lt (optional ins row) ts us t h = at (chosen (is_kind absent (Some l) && is_end c) ((spells o).row row) (if is_kind present (Some l) then followed ((spells c).row ins) ((spells o).row row) else None) ts us h) where
    at : (((is_kind absent (Some l) && is_end c) ≡ true) × (fill ((spells o).row row) ts ≡ Some us)) ⊎ (((is_kind absent (Some l) && is_end c) ≡ false) × (fill (if is_kind present (Some l) then followed ((spells c).row ins) ((spells o).row row) else None) ts ≡ Some us)) → length us < length ts
    at (inl x) = later row ts us t x.1
    at (inr x) = second_lt ((spells c).row ins) ((spells o).row row) ts us (where_true (is_kind present (Some l)) (followed ((spells c).row ins) ((spells o).row row)) ts us x.1).1 (λ vs g. later row vs us t g)
  tree_lt (inside k ins row) ts us t h = second_lt ((spells c).row ins) ((spells o).row row) ts us (where_true (is_kind k (Some l)) (followed ((spells c).row ins) ((spells o).row row)) ts us h).1 (λ vs g. later row vs us t g)
  tree_lt (target row) ts us t h = at (chosen (is_wildcard l c) (followed (Some (named (codes "_") ∷ [])) ((spells o).row row)) (if is_tight (class_of (label_at 0 c)) && leads_to_place c then followed (first_slots l c (spells c) an_expression) ((spells o).row row) else None) ts us h) where
    at : ((is_wildcard l c ≡ true) × (fill (followed (Some (named (codes "_") ∷ [])) ((spells o).row row)) ts ≡ Some us)) ⊎ ((is_wildcard l c ≡ false) × (fill (if is_tight (class_of (label_at 0 c)) && leads_to_place c then followed (first_slots l c (spells c) an_expression) ((spells o).row row) else None) ts ≡ Some us)) → length us < length ts
    at (inl x) = token_first (name (codes "_")) ((spells o).row row) ts us x.1
    at (inr x) = first_lt (first_slots l c (spells c) an_expression) ((spells o).row row) ts us (where_true (is_tight (class_of (label_at 0 c)) && leads_to_place c) (followed (first_slots l c (spells c) an_expression) ((spells o).row row)) ts us x.1).1 (λ vs g. node_lt l c below an_expression ts vs g)
  tree_lt (selectors row) ts us t h = at (chosen (not (is_kind list (Some l))) None (if is_lone_default c then followed (Some (alone ∷ [])) ((spells o).row row) else followed (Some (named (codes "case") ∷ [])) (followed (option_map trailing ((spells c).separate a_selector)) ((spells o).row row))) ts us h) where
    by : ((is_lone_default c ≡ true) × (fill (followed (Some (alone ∷ [])) ((spells o).row row)) ts ≡ Some us)) ⊎ ((is_lone_default c ≡ false) × (fill (followed (Some (named (codes "case") ∷ [])) (followed (option_map trailing ((spells c).separate a_selector)) ((spells o).row row))) ts ≡ Some us)) → length us < length ts
    by (inl x) = first_lt (Some (alone ∷ [])) ((spells o).row row) ts us x.1 (λ vs g. alone_lt ts vs (one alone ts vs g))
    by (inr x) = token_first (name (codes "case")) (followed (option_map trailing ((spells c).separate a_selector)) ((spells o).row row)) ts us x.1

    at : ((not (is_kind list (Some l)) ≡ true) × (fill None ts ≡ Some us)) ⊎ ((not (is_kind list (Some l)) ≡ false) × (fill (if is_lone_default c then followed (Some (alone ∷ [])) ((spells o).row row) else followed (Some (named (codes "case") ∷ [])) (followed (option_map trailing ((spells c).separate a_selector)) ((spells o).row row))) ts ≡ Some us)) → length us < length ts
    at (inl x) = absurd (no_some us x.1)
    at (inr x) = by (chosen (is_lone_default c) (followed (Some (alone ∷ [])) ((spells o).row row)) (followed (Some (named (codes "case") ∷ [])) (followed (option_map trailing ((spells c).separate a_selector)) ((spells o).row row))) ts us x.1)
  tree_lt (unended s row) ts us t h = second_lt (option_map without_last (first_slots l c (spells c) s)) ((spells o).row row) ts us h (λ vs g. later row vs us t g)
  tree_lt (arrow row) ts us t h = at (λ vs g. tree_lt row vs us t g) (chosen (is_absent_at 0 o) (if is_end c then row_slots l c o (spells c) (spells o) row else None) (followed (Some (signed symbol_type.Arrow ∷ [])) (row_slots l c o (spells c) (spells o) row)) ts us h) where
    at : ((vs : List Token) → fill (row_slots l c o (spells c) (spells o) row) vs ≡ Some us → length us < length vs) → ((is_absent_at 0 o ≡ true) × (fill (if is_end c then row_slots l c o (spells c) (spells o) row else None) ts ≡ Some us)) ⊎ ((is_absent_at 0 o ≡ false) × (fill (followed (Some (signed symbol_type.Arrow ∷ [])) (row_slots l c o (spells c) (spells o) row)) ts ≡ Some us)) → length us < length ts
    at less (inl x) = less ts (where_true (is_end c) (row_slots l c o (spells c) (spells o) row) ts us x.1).1
    at less (inr x) = second_lt (Some (signed symbol_type.Arrow ∷ [])) (row_slots l c o (spells c) (spells o) row) ts us x.1 less

pub row_lt : (f : Forest) → RowLess f
row_lt end r ts us k h = end_lt r ts us k h
row_lt (tree l c o) r ts us k h = tree_lt l c o (λ a x y m n. row_lt c a x y m n) (λ a x y m n. row_lt o a x y m n) r ts us k h

-- a node takes at least one token
pub first_lt_of : (l : Label) (c : Forest) (s : Sort) (ts us : List Token) → fill (first_slots l c (spells c) s) ts ≡ Some us → length us < length ts
first_lt_of l c s ts us h = node_lt l c (row_lt c) s ts us h
