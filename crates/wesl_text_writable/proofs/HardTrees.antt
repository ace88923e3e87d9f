-- What is printed for a node begins with no comma and no colon, nor with another token on which what comes before may depend.
use Rattle.std.proofs.Common.{◌≡◌, zero, suc, Bool, true, false, not, ◌&&◌, ◌||◌, if◌then◌else◌, List, [], ◌∷◌, ◌++◌, length, Some, None, Option, option_map, option_and_then, refl, sym as turned, ap, ◌∙◌, codes, nat_le}
use Rattle.wesl_tree_base.specs.Pieces.{cut, supers}
use Rattle.wesl_tree_names.specs.Path.{Text, Origin, absolute, relative, from_package}
use Rattle.wesl_tree_syntax.specs.Tree.{Kind, kind, at, ident, text, texts, truth, path, unary, binary, assignment, space, access, end, tree, present, absent, list, expression_node, statement_node, attribute_node, member_node, import_node, directive_node, declaration_node}
use Rattle.wesl_tree_syntax.specs.Kinds.{same_kind, same_role}
use Rattle.wesl_tree_syntax.specs.declared.statement.AssignmentOperator.TheVariants as assignment_operator
use Rattle.wesl_tree_syntax.specs.declared.expression.UnaryOperator.{UnaryOperator}
use Rattle.wesl_tree_syntax.specs.declared.expression.UnaryOperator.TheVariants as unary_operator
use Rattle.wesl_text_tokens.specs.declared.symbol.Symbol.{Symbol}
use Rattle.wesl_text_tokens.specs.declared.symbol.Symbol.TheVariants as is
use Rattle.wesl_text_tokens.specs.Tokens.{number, symbol, close_list}
use Rattle.wesl_text_form.specs.Slots.{Slot, must, may, alone}
use Rattle.wesl_text_form.specs.Names.{is_word, is_number, is_name, are_words, are_names, is_path, is_among, known_attributes}
use Rattle.wesl_text_form.specs.Operators.{unary_symbol, class_of, is_tight}
use Rattle.wesl_text_form.specs.Productions.{Sort, an_expression, a_bare_expression, an_attribute, a_bare_attribute, a_space, an_access, an_import, a_bare_import, a_directive, a_bare_directive, a_member, a_bare_member, a_statement, a_bare_statement, a_declaration, a_bare_declaration, a_selector, Leaf, an_ident, an_item, a_name, a_word, a_custom, a_literal, a_rule, some_words, one_or_two, steps, a_path, Row, nothing, sym, may_sym, says, opens, closes, own, leaf, run, commas, optional, inside, target, selectors, unended, arrow, rows_of, row_of, spanned}
use Rattle.wesl_text_form.specs.Spelling.{Label, Forest, Slots, spells, followed, provided, named, signed, parted, trailing, stepped, package_words, origin_slots, dot, is_one_or_two, item_role, leaf_slots, first_slots, row_slots, row_of_none, label_at, is_kind, is_wildcard, leads_to_place, is_lone_default, is_end, fits, stands_as}
use Rattle.wesl_text_reading.proofs.Filled.{no_some, of_some, no_true}
use Rattle.wesl_text_reading.proofs.Takes.{at_rows}
use Rattle.wesl_text_writable.proofs.Clear.{is_soft_sign, is_hard_before, are_hard, hard_slots_any, hard_joined, hard_followed, trailing_hard}
use Rattle.std.proofs.lemmas.Bool.{and_parts}

-- ---- which rows

-- whether a leaf has a token
abbrev is_filled : Leaf → Bool
is_filled (an_ident r) = true
is_filled an_item = true
is_filled a_name = true
is_filled a_word = true
is_filled a_custom = true
is_filled a_literal = true
is_filled f = false

-- whether what is printed by a row begins with another token, where it is told whether that holds of what comes behind
abbrev pub is_hard : Bool → Row → Bool
is_hard b nothing = b
is_hard b (sym s row) = not (is_soft_sign s)
is_hard b (may_sym s row) = is_hard b row
is_hard b (says w row) = true
is_hard b (opens row) = false
is_hard b (closes row) = true
is_hard b (own s row) = true
is_hard b (leaf f row) = is_filled f || is_hard b row
is_hard b (run k s row) = is_hard b row
is_hard b (commas k s row) = is_hard b row
is_hard b (optional ins row) = is_hard true ins && is_hard b row
is_hard b (inside k ins row) = is_hard true ins && is_hard b row
is_hard b (target row) = true
is_hard b (selectors row) = true
is_hard b (unended s row) = false
is_hard b (arrow row) = false

spanned_hard : (k : Kind) (s : Sort) (j : Kind) (r : Row) → spanned k s j ≡ Some r → is_hard false r ≡ true
spanned_hard k s j r h = at (same_kind k j) h where
  at : (b : Bool) → (if b then Some (own s nothing) else None) ≡ Some r → is_hard false r ≡ true
  at true g = ap (is_hard false) (of_some r (own s nothing) (turned g))
  at false g = absurd (no_some r g)

unary_hard : (o : UnaryOperator) → not (is_soft_sign (unary_symbol o)) ≡ true
unary_hard unary_operator.LogicalNegation = refl
unary_hard unary_operator.Negation = refl
unary_hard unary_operator.BitwiseComplement = refl
unary_hard unary_operator.AddressOf = refl
unary_hard unary_operator.Indirection = refl

-- each row of the table does
rows_hard : (s : Sort) (l : Label) (r : Row) → row_of s l ≡ Some r → is_hard false r ≡ true
rows_hard a_bare_expression (unary o) r h = ap (is_hard false) (of_some r _ (turned h)) ∙ unary_hard o
rows_hard a_bare_expression (binary o) r h = ap (is_hard false) (of_some r _ (turned h))
rows_hard a_bare_statement (assignment assignment_operator.Equal) r h = ap (is_hard false) (of_some r _ (turned h))
rows_hard a_bare_statement (assignment o) r h = ap (is_hard false) (of_some r _ (turned h))
rows_hard a_space (space x) r h = ap (is_hard false) (of_some r _ (turned h))
rows_hard an_access (access x) r h = ap (is_hard false) (of_some r _ (turned h))
rows_hard an_expression (at k zero zero) r h = spanned_hard expression_node a_bare_expression k r h
rows_hard a_statement (at k zero zero) r h = spanned_hard statement_node a_bare_statement k r h
rows_hard an_attribute (at k zero zero) r h = spanned_hard attribute_node a_bare_attribute k r h
rows_hard a_member (at k zero zero) r h = spanned_hard member_node a_bare_member k r h
rows_hard an_import (at k zero zero) r h = spanned_hard import_node a_bare_import k r h
rows_hard a_directive (at k zero zero) r h = spanned_hard directive_node a_bare_directive k r h
rows_hard a_declaration (at k zero zero) r h = spanned_hard declaration_node a_bare_declaration k r h
rows_hard s (kind k) r h = at_rows (is_hard false) (rows_of s) k r refl h
rows_hard s (at k zero zero) r h = absurd (no_some r h)
rows_hard s (at k zero (suc f)) r h = absurd (no_some r h)
rows_hard s (at k (suc a) f) r h = absurd (no_some r h)
rows_hard s l r h = absurd (no_some r h)

-- ---- slots by a test

-- a property of slots, of which there may be none
pub of_provided : (p : Slots → Bool) (b : Bool) (ss : List Slot) → p None ≡ true → p (Some ss) ≡ true → p (provided b ss) ≡ true
of_provided p true ss n h = h
of_provided p false ss n h = n

pub of_either : (p : Slots → Bool) (b : Bool) (x y : Slots) → p x ≡ true → p y ≡ true → p (if b then x else y) ≡ true
of_either p true x y h g = h
of_either p false x y h g = g

pub of_node : (p : Slots → Bool) (s : Sort) (l : Label) (c : Forest) → p None ≡ true → ((r : Row) → row_of s l ≡ Some r → p ((spells c).row r) ≡ true) → p (first_slots l c (spells c) s) ≡ true
of_node p s l c n h = by (row_of s l) h where
  by : (o : Option Row) → ((r : Row) → o ≡ Some r → p ((spells c).row r) ≡ true) → p (option_and_then (λ r. if fits l c && stands_as s l c then (spells c).row r else None) o) ≡ true
  by None g = n
  by (Some r) g = of_either p (fits l c && stands_as s l c) ((spells c).row r) None (g r refl) n

-- ---- leaves

parted_hard : (s : Symbol) (ts : List Text) → is_hard_before true (parted s ts) ≡ true
parted_hard s [] = refl
parted_hard s (t ∷ []) = refl
parted_hard s (t ∷ u ∷ us) = refl

stepped_hard : (ts : List Text) → is_hard_before true (stepped ts) ≡ true
stepped_hard [] = refl
stepped_hard (t ∷ ts) = refl

path_hard : (slashes : Bool) (o : Origin) → is_hard_before true (origin_slots slashes o) ≡ true
path_hard slashes absolute = refl
path_hard slashes (relative zero) = refl
path_hard slashes (relative (suc n)) = stepped_hard (supers (suc n))
path_hard slashes (from_package p) = hard_joined (parted is.Slash (package_words slashes p)) (signed is.ColonColon ∷ []) true ∙ parted_hard is.Slash (package_words slashes p)

-- a leaf before what begins so
leaf_hard : (f : Leaf) (l : Label) (o : Forest) → are_hard true (leaf_slots f l o) ≡ true
leaf_hard (an_ident r) (ident q t) o = of_provided (are_hard true) (same_role r q && is_name t) (named t ∷ []) refl refl
leaf_hard an_item (ident q t) o = of_provided (are_hard true) (same_role (item_role o) q && is_name t) (named t ∷ []) refl refl
leaf_hard a_name (text t) o = of_provided (are_hard true) (is_name t) (named t ∷ []) refl refl
leaf_hard a_word (text t) o = of_provided (are_hard true) (is_word t) (named t ∷ []) refl refl
leaf_hard a_custom (text t) o = of_provided (are_hard true) (is_word t && not (is_among known_attributes t)) (named t ∷ []) refl refl
leaf_hard a_literal (truth b) o = refl
leaf_hard a_literal (text t) o = of_provided (are_hard true) (is_number t) (must (number t) ∷ []) refl refl
leaf_hard a_rule (text t) o = of_provided (are_hard true) (are_words (cut dot t) && is_one_or_two (length (cut dot t))) (parted is.Period (cut dot t)) refl (parted_hard is.Period (cut dot t))
leaf_hard some_words (texts ts) o = of_provided (are_hard true) (are_words ts && nat_le 1 (length ts)) (trailing (parted is.Comma ts)) refl (trailing_hard (Some (parted is.Comma ts)) true (parted_hard is.Comma ts))
leaf_hard one_or_two (texts ts) o = of_provided (are_hard true) (are_words ts && is_one_or_two (length ts)) (trailing (parted is.Comma ts)) refl (trailing_hard (Some (parted is.Comma ts)) true (parted_hard is.Comma ts))
leaf_hard steps (texts ts) o = of_provided (are_hard true) (are_names ts) (stepped ts) refl (stepped_hard ts)
leaf_hard (a_path slashes) (path p) o = of_provided (are_hard true) (is_path slashes p) (origin_slots slashes p.origin ++ stepped p.components) refl
    (hard_joined (origin_slots slashes p.origin) (stepped p.components) true ∙ (ap (λ z. is_hard_before z (origin_slots slashes p.origin)) (stepped_hard p.components) ∙ path_hard slashes p.origin))
leaf_hard f l o = refl

-- one that has a token, before any
filled_hard : (f : Leaf) → is_filled f ≡ true → (b : Bool) (l : Label) (o : Forest) → are_hard b (leaf_slots f l o) ≡ true
filled_hard (an_ident r) e b (ident q t) o = of_provided (are_hard b) (same_role r q && is_name t) (named t ∷ []) refl refl
filled_hard an_item e b (ident q t) o = of_provided (are_hard b) (same_role (item_role o) q && is_name t) (named t ∷ []) refl refl
filled_hard a_name e b (text t) o = of_provided (are_hard b) (is_name t) (named t ∷ []) refl refl
filled_hard a_word e b (text t) o = of_provided (are_hard b) (is_word t) (named t ∷ []) refl refl
filled_hard a_custom e b (text t) o = of_provided (are_hard b) (is_word t && not (is_among known_attributes t)) (named t ∷ []) refl refl
filled_hard a_literal e b (truth x) o = refl
filled_hard a_literal e b (text t) o = of_provided (are_hard b) (is_number t) (must (number t) ∷ []) refl refl
filled_hard a_rule e b l o = absurd (no_true e)
filled_hard some_words e b l o = absurd (no_true e)
filled_hard one_or_two e b l o = absurd (no_true e)
filled_hard steps e b l o = absurd (no_true e)
filled_hard (a_path s) e b l o = absurd (no_true e)
filled_hard f e b l o = refl

-- ---- trees

-- a node, and what is printed by a row
abbrev FirstHard : Forest → Type 0
FirstHard f = (s : Sort) (b : Bool) → are_hard b ((spells f).first s) ≡ true

abbrev RowsHard : Forest → Type 0
RowsHard f = (r : Row) (b : Bool) → is_hard b r ≡ true → are_hard b ((spells f).row r) ≡ true

-- slots that begin so before any, and slots that do so before those that do
begins_so : (a c : Slots) (b : Bool) → ((z : Bool) → are_hard z a ≡ true) → are_hard b (followed a c) ≡ true
begins_so a c b h = hard_followed a c b (h (are_hard b c))

goes_so : (a c : Slots) (b : Bool) → are_hard true a ≡ true → are_hard b c ≡ true → are_hard b (followed a c) ≡ true
goes_so a c b h g = hard_followed a c b (ap (λ z. are_hard z a) g ∙ h)

pub none_hard : (r : Row) (b : Bool) → is_hard b r ≡ true → are_hard b (row_of_none r) ≡ true
none_hard nothing b h = h
none_hard (sym s row) b h = begins_so (Some (signed s ∷ [])) (row_of_none row) b (λ z. h)
none_hard (may_sym s row) b h = hard_followed (Some (may (symbol s) ∷ [])) (row_of_none row) b (none_hard row b h)
none_hard (says w row) b h = begins_so (Some (named w ∷ [])) (row_of_none row) b (λ z. refl)
none_hard (opens row) b h = absurd (no_true h)
none_hard (closes row) b h = begins_so (Some (must close_list ∷ [])) (row_of_none row) b (λ z. refl)
none_hard r b h = refl

-- nodes side by side
all_hard : (c : Forest) → FirstHard c → (s : Sort) → are_hard true ((spells c).all s) ≡ true
all_hard end h s = refl
all_hard (tree l c o) h s = begins_so ((spells (tree l c o)).first s) ((spells o).all s) true (h s)

separate_hard : (c : Forest) → FirstHard c → (s : Sort) → are_hard true ((spells c).separate s) ≡ true
separate_hard end h s = refl
separate_hard (tree l c end) h s = h s true
separate_hard (tree l c (tree m d o)) h s = begins_so ((spells (tree l c (tree m d o))).first s) (option_map (λ ss. signed is.Comma ∷ ss) ((spells (tree m d o)).separate s)) true (h s)

module _ (l : Label) (c o : Forest) (below : RowsHard c) (firsts : FirstHard c) (later : RowsHard o) where
  first_hard : FirstHard (tree l c o)
  first_hard s b = hard_slots_any ((spells (tree l c o)).first s) b (of_node (are_hard false) s l c refl (λ r e. below r false (rows_hard s l r e)))

  tree_hard : RowsHard (tree l c o)
  tree_hard nothing b h = refl
  tree_hard (sym s row) b h = begins_so (Some (signed s ∷ [])) (row_slots l c o (spells c) (spells o) row) b (λ z. h)
  tree_hard (may_sym s row) b h = hard_followed (Some (may (symbol s) ∷ [])) (row_slots l c o (spells c) (spells o) row) b (tree_hard row b h)
  tree_hard (says w row) b h = begins_so (Some (named w ∷ [])) (row_slots l c o (spells c) (spells o) row) b (λ z. refl)
  tree_hard (opens row) b h = absurd (no_true h)
  tree_hard (closes row) b h = begins_so (Some (must close_list ∷ [])) (row_slots l c o (spells c) (spells o) row) b (λ z. refl)
  tree_hard (own s row) b h = begins_so (first_slots l c (spells c) s) ((spells o).row row) b (first_hard s)
  tree_hard (leaf f row) b h = of_either (are_hard b) (is_end c) (followed (leaf_slots f l o) ((spells o).row row)) None (by (is_filled f) refl h) refl where
    by : (z : Bool) → is_filled f ≡ z → (z || is_hard b row) ≡ true → are_hard b (followed (leaf_slots f l o) ((spells o).row row)) ≡ true
    by true e g = begins_so (leaf_slots f l o) ((spells o).row row) b (λ z. filled_hard f e z l o)
    by false e g = goes_so (leaf_slots f l o) ((spells o).row row) b (leaf_hard f l o) (later row b g)
  tree_hard (run k s row) b h = of_either (are_hard b) (is_kind k (Some l)) (followed ((spells c).all s) ((spells o).row row)) None (goes_so ((spells c).all s) ((spells o).row row) b (all_hard c firsts s) (later row b h)) refl
  tree_hard (commas k s row) b h = of_either (are_hard b) (is_kind k (Some l)) (followed (option_map trailing ((spells c).separate s)) ((spells o).row row)) None
      (goes_so (option_map trailing ((spells c).separate s)) ((spells o).row row) b (trailing_hard ((spells c).separate s) true (separate_hard c firsts s)) (later row b h)) refl
  tree_hard (optional ins row) b h =
      let x : (is_hard true ins ≡ true) × (is_hard b row ≡ true) = and_parts (is_hard true ins) (is_hard b row) h in
      of_either (are_hard b) (is_kind absent (Some l) && is_end c) ((spells o).row row) (if is_kind present (Some l) then followed ((spells c).row ins) ((spells o).row row) else None) (later row b x.1)
      (of_either (are_hard b) (is_kind present (Some l)) (followed ((spells c).row ins) ((spells o).row row)) None (goes_so ((spells c).row ins) ((spells o).row row) b (below ins true x.0) (later row b x.1)) refl)
  tree_hard (inside k ins row) b h =
      let x : (is_hard true ins ≡ true) × (is_hard b row ≡ true) = and_parts (is_hard true ins) (is_hard b row) h in
      of_either (are_hard b) (is_kind k (Some l)) (followed ((spells c).row ins) ((spells o).row row)) None (goes_so ((spells c).row ins) ((spells o).row row) b (below ins true x.0) (later row b x.1)) refl
  tree_hard (target row) b h =
      of_either (are_hard b) (is_wildcard l c) (followed (Some (named (codes "_") ∷ [])) ((spells o).row row))
      (if is_tight (class_of (label_at 0 c)) && leads_to_place c then followed (first_slots l c (spells c) an_expression) ((spells o).row row) else None)
      (begins_so (Some (named (codes "_") ∷ [])) ((spells o).row row) b (λ z. refl))
      (of_either (are_hard b) (is_tight (class_of (label_at 0 c)) && leads_to_place c) (followed (first_slots l c (spells c) an_expression) ((spells o).row row)) None
      (begins_so (first_slots l c (spells c) an_expression) ((spells o).row row) b (first_hard an_expression)) refl)
  tree_hard (selectors row) b h =
      of_either (are_hard b) (not (is_kind list (Some l))) None
      (if is_lone_default c then followed (Some (alone ∷ [])) ((spells o).row row) else followed (Some (named (codes "case") ∷ [])) (followed (option_map trailing ((spells c).separate a_selector)) ((spells o).row row)))
      refl
      (of_either (are_hard b) (is_lone_default c) (followed (Some (alone ∷ [])) ((spells o).row row)) (followed (Some (named (codes "case") ∷ [])) (followed (option_map trailing ((spells c).separate a_selector)) ((spells o).row row)))
      (begins_so (Some (alone ∷ [])) ((spells o).row row) b (λ z. refl))
      (begins_so (Some (named (codes "case") ∷ [])) (followed (option_map trailing ((spells c).separate a_selector)) ((spells o).row row)) b (λ z. refl)))
  tree_hard (unended s row) b h = absurd (no_true h)
  tree_hard (arrow row) b h = absurd (no_true h)

hard : (f : Forest) → RowsHard f × FirstHard f
hard end = (none_hard, λ s b. refl)
hard (tree l c o) = by (hard c) (hard o) where
  by : RowsHard c × FirstHard c → RowsHard o × FirstHard o → RowsHard (tree l c o) × FirstHard (tree l c o)
  by x y = (tree_hard l c o x.0 x.1 y.0, first_hard l c o x.0 x.1 y.0)

-- what is printed by a row of such a kind, and for a node, begins so
pub rows_are_hard : (f : Forest) (r : Row) (b : Bool) → is_hard b r ≡ true → are_hard b ((spells f).row r) ≡ true
rows_are_hard f = (hard f).0
