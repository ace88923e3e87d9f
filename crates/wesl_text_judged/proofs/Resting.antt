-- Behind each node of a list nothing is pending, where nothing is before it.
use Rattle.std.proofs.Common.{◌≡◌, zero, suc, Bool, true, false, ◌&&◌, if◌then◌else◌, List, [], ◌∷◌, Some, None, option_map, refl, sym as turned, ap, codes}
use Rattle.std.proofs.lemmas.Bool.{and_parts}
use Rattle.wesl_tree_syntax.specs.Tree.{Kind, kind, at, text, unary, binary, assignment, space, access, end, tree, attributes, present, absent, list, member_node}
use Rattle.wesl_tree_syntax.specs.Kinds.{same_kind}
use Rattle.wesl_text_tokens.specs.declared.symbol.Symbol.{Symbol}
use Rattle.wesl_text_tokens.specs.declared.symbol.Symbol.TheVariants as is
use Rattle.wesl_text_tokens.specs.Tokens.{Token, name, symbol, open_list}
use Rattle.wesl_text_form.specs.Slots.{Slot, must, may, alone}
use Rattle.wesl_text_form.specs.Productions.{Sort, an_expression, a_bare_expression, a_bare_statement, a_space, an_access, an_argument, an_attribute, a_type, a_member, a_bare_member, a_parameter, a_declaration, an_import, a_directive, a_statement, a_clause, a_continuing, a_break_if, Leaf, an_ident, a_name, a_path, Row, nothing, sym, may_sym, says, opens, closes, own, leaf, run, commas, optional, rows_of, row_of, spanned}
use Rattle.wesl_text_form.specs.Spelling.{Label, Forest, Slots, spells, followed, named, signed, trailing, leaf_slots, first_slots, row_slots, row_of_none, is_kind, is_end}
use Rattle.wesl_text_form.specs.Names.{is_name}
use Rattle.wesl_text_reading.proofs.Filled.{no_some, of_some, no_true}
use Rattle.wesl_text_reading.proofs.Takes.{all_rows, at_rows}
use Rattle.wesl_text_respell.proofs.Ended.{closed_by, ended, are_ended, nodes_are_ended}
use Rattle.wesl_text_respell.proofs.Rests.{Rest, rests, inside, rest_step}
use Rattle.wesl_text_respell.proofs.Lists.{rest_slots, Comes, comes_joined, comes_either, comes_provided, comes_trailing, comes_node, path_rests, ident_rests, separate_inside}
use Rattle.wesl_text_respell.proofs.Balanced.{attribute_comes}
use Rattle.wesl_text_respell.proofs.Parts.{declaration_comes}
use Rattle.wesl_text_left.specs.Apart.{is_of_list}

-- ---- what ends with `;` or `}`

rests_behind : (t : Token) (b : Bool) (r : Rest) → (b ≡ true → r ≡ rests) → closed_by b t ≡ true → rest_step r t ≡ rests
rests_behind (symbol is.Semicolon) b r f h = refl
rests_behind (symbol is.BraceLeft) b r f h = refl
rests_behind (symbol is.BraceRight) b r f h = ap (λ z. rest_step z (symbol is.BraceRight)) (f h)
rests_behind t b r f h = absurd (no_true h)

ends_rest : (ss : List Slot) (b : Bool) (r : Rest) → (b ≡ true → r ≡ rests) → ended b ss ≡ true → rest_slots r ss ≡ rests
ends_rest [] b r f h = f h
ends_rest (must t ∷ ss) b r f h = ends_rest ss (closed_by b t) (rest_step r t) (rests_behind t b r f) h
ends_rest (may t ∷ ss) b r f h = ends_rest ss b r f h
ends_rest (alone ∷ ss) b r f h = ends_rest ss false (rest_step r (name (codes "default"))) (λ e. absurd (no_true e)) h

pub ended_rest : (r : Rest) (a : Slots) → are_ended false a ≡ true → Comes r a rests
ended_rest r None h = tt
ended_rest r (Some ss) h = ends_rest ss false r (λ e. absurd (no_true e)) h

-- ---- attributes

pub attributes_rest : (f : Forest) → Comes rests ((spells f).all an_attribute) rests
attributes_rest end = refl
attributes_rest (tree l c o) = comes_joined rests rests rests (first_slots l c (spells c) an_attribute) ((spells o).all an_attribute) (attribute_comes l c) (attributes_rest o)

-- ---- which rows

-- symbols behind which nothing is pending, where nothing is before them
abbrev is_resting_sign : Symbol → Bool
is_resting_sign is.Colon = true
is_resting_sign is.Comma = true
is_resting_sign s = false

abbrev is_resting_leaf : Leaf → Bool
is_resting_leaf (an_ident r) = true
is_resting_leaf (a_path false) = true
is_resting_leaf a_name = true
is_resting_leaf f = false

-- sorts behind whose nodes nothing is
abbrev is_resting : Sort → Bool
is_resting a_type = true
is_resting a_bare_member = true
is_resting a_member = true
is_resting a_parameter = true
is_resting s = false

-- rows of which that is so
abbrev rests_on : Row → Bool
rests_on nothing = true
rests_on (sym s row) = is_resting_sign s && rests_on row
rests_on (says w row) = rests_on row
rests_on (own s row) = is_resting s && rests_on row
rests_on (leaf f row) = is_resting_leaf f && rests_on row
rests_on (run attributes an_attribute row) = rests_on row
rests_on (optional ins row) = rests_on ins && rests_on row
rests_on (opens (commas list an_argument (closes nothing))) = true
rests_on row = false

resting_table : (s : Sort) → is_resting s ≡ true → all_rows rests_on (rows_of s) ≡ true
resting_table a_type h = refl
resting_table a_bare_member h = refl
resting_table a_member h = refl
resting_table a_parameter h = refl
resting_table s h = absurd (no_true h)

member_row : (j : Kind) (r : Row) → spanned member_node a_bare_member j ≡ Some r → rests_on r ≡ true
member_row j r h = by (same_kind member_node j) h where
  by : (b : Bool) → (if b then Some (own a_bare_member nothing) else None) ≡ Some r → rests_on r ≡ true
  by true g = ap rests_on (of_some r (own a_bare_member nothing) (turned g))
  by false g = absurd (no_some r g)

rows_rest_on : (s : Sort) (l : Label) (r : Row) → is_resting s ≡ true → row_of s l ≡ Some r → rests_on r ≡ true
rows_rest_on a_member (at k zero zero) r i h = member_row k r h
rows_rest_on an_expression (at k zero zero) r i h = absurd (no_true i)
rows_rest_on a_statement (at k zero zero) r i h = absurd (no_true i)
rows_rest_on an_attribute (at k zero zero) r i h = absurd (no_true i)
rows_rest_on an_import (at k zero zero) r i h = absurd (no_true i)
rows_rest_on a_directive (at k zero zero) r i h = absurd (no_true i)
rows_rest_on a_declaration (at k zero zero) r i h = absurd (no_true i)
rows_rest_on a_bare_expression (unary o) r i h = absurd (no_true i)
rows_rest_on a_bare_expression (binary o) r i h = absurd (no_true i)
rows_rest_on a_bare_statement (assignment o) r i h = absurd (no_true i)
rows_rest_on a_space (space x) r i h = absurd (no_true i)
rows_rest_on an_access (access x) r i h = absurd (no_true i)
rows_rest_on s (kind k) r i h = at_rows rests_on (rows_of s) k r (resting_table s i) h
rows_rest_on s (at k zero zero) r i h = absurd (no_some r h)
rows_rest_on s (at k zero (suc f)) r i h = absurd (no_some r h)
rows_rest_on s (at k (suc a) f) r i h = absurd (no_some r h)
rows_rest_on s l r i h = absurd (no_some r h)

-- ---- trees

sign_rests : (s : Symbol) → is_resting_sign s ≡ true → Comes rests (Some (signed s ∷ [])) rests
sign_rests is.Colon h = refl
sign_rests is.Comma h = refl
sign_rests s h = absurd (no_true h)

leaf_rests : (f : Leaf) (l : Label) (o : Forest) → is_resting_leaf f ≡ true → Comes rests (leaf_slots f l o) rests
leaf_rests (an_ident r) l o h = ident_rests r l o
leaf_rests (a_path false) l o h = path_rests l o
leaf_rests a_name (text t) o h = comes_provided rests rests (is_name t) (named t ∷ []) refl
leaf_rests a_name l o h = tt
leaf_rests f l o h = absurd (no_true h)

closing_rests : (o : Forest) → Comes (inside zero) ((spells o).row (closes nothing)) rests
closing_rests end = refl
closing_rests (tree l c o) = tt

abbrev RowsRest : Forest → Type 0
RowsRest f = (r : Row) → rests_on r ≡ true → Comes rests ((spells f).row r) rests

none_rests : RowsRest end
none_rests nothing h = refl
none_rests (sym s row) h =
    let x : (is_resting_sign s ≡ true) × (rests_on row ≡ true) = and_parts (is_resting_sign s) (rests_on row) h in
    comes_joined rests rests rests (Some (signed s ∷ [])) (row_of_none row) (sign_rests s x.0) (none_rests row x.1)
none_rests (says w row) h = comes_joined rests rests rests (Some (named w ∷ [])) (row_of_none row) refl (none_rests row h)
none_rests (opens (commas k s row)) h = tt
none_rests (opens row) h = absurd (no_true h)
none_rests (may_sym s row) h = absurd (no_true h)
none_rests (closes row) h = absurd (no_true h)
none_rests r h = tt

first_rests : (s : Sort) (l : Label) (c : Forest) → RowsRest c → is_resting s ≡ true → Comes rests (first_slots l c (spells c) s) rests
first_rests s l c below i = comes_node rests rests s l c (λ r e. below r (rows_rest_on s l r i e))

module _ (l : Label) (c o : Forest) (below : RowsRest c) (later : RowsRest o) where
  arguments_rest : Comes rests (row_slots l c o (spells c) (spells o) (opens (commas list an_argument (closes nothing)))) rests
  arguments_rest =
      comes_joined rests (inside zero) rests (Some (must open_list ∷ [])) (if is_kind list (Some l) then followed (option_map trailing ((spells c).separate an_argument)) ((spells o).row (closes nothing)) else None) refl
      (comes_either (inside zero) rests (is_kind list (Some l)) (followed (option_map trailing ((spells c).separate an_argument)) ((spells o).row (closes nothing))) None
      (comes_joined (inside zero) (inside zero) rests (option_map trailing ((spells c).separate an_argument)) ((spells o).row (closes nothing))
      (comes_trailing (inside zero) (inside zero) ((spells c).separate an_argument) (separate_inside c an_argument zero refl)) (closing_rests o)) tt)

  tree_rests : RowsRest (tree l c o)
  tree_rests nothing h = tt
  tree_rests (sym s row) h =
      let x : (is_resting_sign s ≡ true) × (rests_on row ≡ true) = and_parts (is_resting_sign s) (rests_on row) h in
      comes_joined rests rests rests (Some (signed s ∷ [])) (row_slots l c o (spells c) (spells o) row) (sign_rests s x.0) (tree_rests row x.1)
  tree_rests (says w row) h = comes_joined rests rests rests (Some (named w ∷ [])) (row_slots l c o (spells c) (spells o) row) refl (tree_rests row h)
  tree_rests (own s row) h =
      let x : (is_resting s ≡ true) × (rests_on row ≡ true) = and_parts (is_resting s) (rests_on row) h in
      comes_joined rests rests rests (first_slots l c (spells c) s) ((spells o).row row) (first_rests s l c below x.0) (later row x.1)
  tree_rests (leaf f row) h =
      let x : (is_resting_leaf f ≡ true) × (rests_on row ≡ true) = and_parts (is_resting_leaf f) (rests_on row) h in
      comes_either rests rests (is_end c) (followed (leaf_slots f l o) ((spells o).row row)) None (comes_joined rests rests rests (leaf_slots f l o) ((spells o).row row) (leaf_rests f l o x.0) (later row x.1)) tt
  tree_rests (run attributes an_attribute row) h =
      comes_either rests rests (is_kind attributes (Some l)) (followed ((spells c).all an_attribute) ((spells o).row row)) None
      (comes_joined rests rests rests ((spells c).all an_attribute) ((spells o).row row) (attributes_rest c) (later row h)) tt
  tree_rests (optional ins row) h =
      let x : (rests_on ins ≡ true) × (rests_on row ≡ true) = and_parts (rests_on ins) (rests_on row) h in
      comes_either rests rests (is_kind absent (Some l) && is_end c) ((spells o).row row) (if is_kind present (Some l) then followed ((spells c).row ins) ((spells o).row row) else None) (later row x.1)
      (comes_either rests rests (is_kind present (Some l)) (followed ((spells c).row ins) ((spells o).row row)) None
      (comes_joined rests rests rests ((spells c).row ins) ((spells o).row row) (below ins x.0) (later row x.1)) tt)
  tree_rests (opens (commas list an_argument (closes nothing))) h = arguments_rest
  tree_rests r h = absurd (no_true h)

all_rest : (f : Forest) → RowsRest f
all_rest end = none_rests
all_rest (tree l c o) = tree_rests l c o (all_rest c) (all_rest o)

-- behind a node of a list
pub node_rests : (s : Sort) (l : Label) (c : Forest) → is_of_list s ≡ true → Comes rests (first_slots l c (spells c) s) rests
node_rests an_import l c i = ended_rest rests (first_slots l c (spells c) an_import) (nodes_are_ended an_import l c false refl)
node_rests a_directive l c i = ended_rest rests (first_slots l c (spells c) a_directive) (nodes_are_ended a_directive l c false refl)
node_rests a_declaration l c i = declaration_comes l c rests
node_rests a_member l c i = first_rests a_member l c (all_rest c) refl
node_rests a_parameter l c i = first_rests a_parameter l c (all_rest c) refl
node_rests a_statement l c i = ended_rest rests (first_slots l c (spells c) a_statement) (nodes_are_ended a_statement l c false refl)
node_rests a_clause l c i = ended_rest rests (first_slots l c (spells c) a_clause) (nodes_are_ended a_clause l c false refl)
node_rests a_continuing l c i = ended_rest rests (first_slots l c (spells c) a_continuing) (nodes_are_ended a_continuing l c false refl)
node_rests a_break_if l c i = ended_rest rests (first_slots l c (spells c) a_break_if) (nodes_are_ended a_break_if l c false refl)
node_rests s l c i = absurd (no_true i)
