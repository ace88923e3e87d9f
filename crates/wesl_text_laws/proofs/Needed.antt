-- What has slots has names: each identifier is one, but for `_` alone as the target of `=`.
use Rattle.std.proofs.Common.{◌≡◌, ℕ, zero, suc, ◌-◌, Bool, true, false, not, ◌&&◌, ◌||◌, ◌==◌, if◌then◌else◌, [], List, ◌∷◌, Option, Some, None, option_map, option_and_then, refl, sym as turned, ap, ◌∙◌, codes}
use Rattle.wesl_tree_syntax.specs.Tree.{Kind, kind, at, ident, unary, binary, assignment, space, access, end, tree, present, absent, list, type_expression, default_case, expression_node, statement_node, attribute_node, member_node, import_node, directive_node, declaration_node}
use Rattle.wesl_tree_syntax.specs.Kinds.{same_kind, same_role}
use Rattle.wesl_tree_syntax.specs.declared.statement.AssignmentOperator.TheVariants as assignment_operator
use Rattle.wesl_text_tokens.specs.declared.symbol.Symbol.TheVariants as is
use Rattle.wesl_text_tokens.specs.Tokens.{symbol, open_list, close_list}
use Rattle.wesl_text_form.specs.Slots.{Slot, must, may, alone}
use Rattle.wesl_text_form.specs.Names.{is_name}
use Rattle.wesl_text_form.specs.Operators.{class_of, is_tight}
use Rattle.wesl_text_form.specs.Productions.{Sort, an_expression, a_bare_expression, an_attribute, a_bare_attribute, a_space, an_access, an_import, a_bare_import, a_directive, a_bare_directive, a_member, a_bare_member, a_statement, a_bare_statement, a_declaration, a_bare_declaration, a_selector, Leaf, an_ident, an_item, Row, nothing, sym, may_sym, says, opens, closes, own, leaf, run, commas, optional, inside, target, selectors, unended, arrow, rows_of, row_of, spanned}
use Rattle.wesl_text_form.specs.Spelling.{Label, Forest, Slots, spells, followed, provided, named, signed, trailing, item_role, leaf_slots, first_slots, row_slots, row_of_none, with_comma, fits, stands_as, label_at, is_kind, is_wildcard, leads_to_place, is_lone_default, is_end, is_absent_at, without_last}
use Rattle.wesl_text_reading.proofs.Filled.{no_some, of_some, no_true}
use Rattle.wesl_text_reading.proofs.Takes.{at_rows}
use Rattle.wesl_text_reading.proofs.KindsAgain.{label_is}
use Rattle.wesl_text_respell.proofs.Trees.{is_fair, rows_fair}
use Rattle.wesl_text_laws.specs.Laws.{has_name, target_below, are_named}
use Rattle.wesl_text_laws.proofs.Good.{Good, good_true, good_more, good_joined, good_either, good_trailing, good_cut, good_comma}
use Rattle.std.proofs.lemmas.Bool.{and_from, and_parts}

-- ---- which rows

-- the target of `=`, where a row has one, is the tree with this number
abbrev has_target : ℕ → Row → Bool
has_target n nothing = true
has_target n (sym s row) = has_target n row
has_target n (may_sym s row) = has_target n row
has_target n (says w row) = has_target n row
has_target n (opens row) = has_target n row
has_target n (closes row) = has_target n row
has_target n (own s row) = has_target (n - 1) row
has_target n (leaf f row) = has_target (n - 1) row
has_target n (run k s row) = has_target (n - 1) row
has_target n (commas k s row) = has_target (n - 1) row
has_target n (optional ins row) = has_target 0 ins && has_target (n - 1) row
has_target n (inside k ins row) = has_target 0 ins && has_target (n - 1) row
has_target n (target row) = (n == 1) && has_target (n - 1) row
has_target n (selectors row) = has_target (n - 1) row
has_target n (unended s row) = has_target (n - 1) row
has_target n (arrow row) = has_target n row

spanned_target : (k : Kind) (s : Sort) (j : Kind) (r : Row) → spanned k s j ≡ Some r → has_target 0 r ≡ true
spanned_target k s j r h = at (same_kind k j) h where
  at : (b : Bool) → (if b then Some (own s nothing) else None) ≡ Some r → has_target 0 r ≡ true
  at true g = ap (has_target 0) (of_some r (own s nothing) (turned g))
  at false g = absurd (no_some r g)

rows_target : (s : Sort) (l : Label) (r : Row) → row_of s l ≡ Some r → has_target (target_below l) r ≡ true
rows_target a_bare_expression (unary o) r h = ap (has_target 0) (of_some r _ (turned h))
rows_target a_bare_expression (binary o) r h = ap (has_target 0) (of_some r _ (turned h))
rows_target a_bare_statement (assignment assignment_operator.Equal) r h = ap (has_target 2) (of_some r _ (turned h))
rows_target a_bare_statement (assignment o) r h = ap (has_target 0) (of_some r _ (turned h))
rows_target a_space (space x) r h = ap (has_target 0) (of_some r _ (turned h))
rows_target an_access (access x) r h = ap (has_target 0) (of_some r _ (turned h))
rows_target an_expression (at k zero zero) r h = spanned_target expression_node a_bare_expression k r h
rows_target a_statement (at k zero zero) r h = spanned_target statement_node a_bare_statement k r h
rows_target an_attribute (at k zero zero) r h = spanned_target attribute_node a_bare_attribute k r h
rows_target a_member (at k zero zero) r h = spanned_target member_node a_bare_member k r h
rows_target an_import (at k zero zero) r h = spanned_target import_node a_bare_import k r h
rows_target a_directive (at k zero zero) r h = spanned_target directive_node a_bare_directive k r h
rows_target a_declaration (at k zero zero) r h = spanned_target declaration_node a_bare_declaration k r h
rows_target s (kind k) r h = at_rows (has_target 0) (rows_of s) k r refl h
rows_target s (at k zero zero) r h = absurd (no_some r h)
rows_target s (at k zero (suc f)) r h = absurd (no_some r h)
rows_target s (at k (suc a) f) r h = absurd (no_some r h)
rows_target s l r h = absurd (no_some r h)

-- an identifier alone is no node
row_named : (s : Sort) (l : Label) (r : Row) → row_of s l ≡ Some r → has_name l ≡ true
row_named an_expression (ident q t) r h = absurd (no_some r h)
row_named s (ident q t) r h = absurd (no_some r h)
row_named s l r h = refl

-- ---- leaves

name_provided : (b n : Bool) (ss : List Slot) → Good n (provided (b && n) ss)
name_provided true true ss = refl
name_provided true false ss = tt
name_provided false n ss = tt

name_leaf : (f : Leaf) (l : Label) (o : Forest) → Good (has_name l) (leaf_slots f l o)
name_leaf (an_ident r) (ident q t) o = name_provided (same_role r q) (is_name t) (named t ∷ [])
name_leaf an_item (ident q t) o = name_provided (same_role (item_role o) q) (is_name t) (named t ∷ [])
name_leaf f (ident q t) o = tt
name_leaf f l o = good_true true (leaf_slots f l o) refl

-- ---- trees

abbrev RowsNamed : Forest → Type 0
RowsNamed f = (r : Row) (n : ℕ) → is_fair r ≡ true → has_target n r ≡ true → Good (are_named n f) ((spells f).row r)

abbrev SeparateNamed : Forest → Type 0
SeparateNamed f = (s : Sort) → Good (are_named 0 f) ((spells f).separate s)

abbrev AllNamed : Forest → Type 0
AllNamed f = (s : Sort) → Good (are_named 0 f) ((spells f).all s)

either_so : (w i b : Bool) → i ≡ true → b ≡ true → ((w || i) && b) ≡ true
either_so true i b h g = g
either_so false i b h g = and_from i b h g

module _ (l : Label) (c o : Forest) (below : RowsNamed c) (separate : SeparateNamed c) (all : AllNamed c) (later : RowsNamed o) (others : SeparateNamed o) where
  abbrev inner : Bool
  inner = has_name l && are_named (target_below l) c

  abbrev whole : ℕ → Bool
  whole n = (((n == 1) && is_wildcard l c) || inner) && are_named (n - 1) o

  first_named : (s : Sort) → Good inner (first_slots l c (spells c) s)
  first_named s = by (row_of s l) (λ x e. (row_named s l x e, below x (target_below l) (rows_fair s l x e) (rows_target s l x e))) where
    both : (a b : Bool) (x : Slots) → a ≡ true → Good b x → Good (a && b) x
    both a b None h g = tt
    both a b (Some ss) h g = and_from a b h g

    by : (q : Option Row) → ((x : Row) → q ≡ Some x → (has_name l ≡ true) × Good (are_named (target_below l) c) ((spells c).row x))
        → Good inner (option_and_then (λ r. if fits l c && stands_as s l c then (spells c).row r else None) q)
    by None f = tt
    by (Some x) f =
        let y : (has_name l ≡ true) × Good (are_named (target_below l) c) ((spells c).row x) = f x refl in
        good_either inner (fits l c && stands_as s l c) ((spells c).row x) None (λ e. both (has_name l) (are_named (target_below l) c) ((spells c).row x) y.0 y.1) (λ e. tt)

  leaf_named : (f : Leaf) → is_end c ≡ true → Good inner (leaf_slots f l o)
  leaf_named f e = good_more (has_name l) inner (leaf_slots f l o) (λ h. and_from (has_name l) (are_named (target_below l) c) h (none c e)) (name_leaf f l o) where
    none : (c : Forest) → is_end c ≡ true → are_named (target_below l) c ≡ true
    none end h = refl
    none (tree m d p) h = absurd (no_true h)

  -- one of a kind
  kind_named : (k : Kind) → is_kind k (Some l) ≡ true → are_named 0 c ≡ true → inner ≡ true
  kind_named k e h = ap (λ z. has_name z && are_named (target_below z) c) (label_is k l e) ∙ h

  own_named : (a b : Slots) (n : ℕ) → Good inner a → Good (are_named (n - 1) o) b → Good (whole n) (followed a b)
  own_named a b n h g = good_joined inner (are_named (n - 1) o) (whole n) a b (λ x y. either_so ((n == 1) && is_wildcard l c) inner (are_named (n - 1) o) x y) h g

  of_kind : (k : Kind) (a b : Slots) (n : ℕ) → is_kind k (Some l) ≡ true → Good (are_named 0 c) a → Good (are_named (n - 1) o) b → Good (whole n) (followed a b)
  of_kind k a b n e h g = own_named a b n (good_more (are_named 0 c) inner a (kind_named k e) h) g

  lone_named : is_lone_default c ≡ true → are_named 0 c ≡ true
  lone_named h = at c h where
    at : (c : Forest) → is_lone_default c ≡ true → are_named 0 c ≡ true
    at (tree (kind default_case) end end) h = refl
    at c h = absurd (no_true h)

  tree_named : RowsNamed (tree l c o)
  tree_named nothing n h t = tt
  tree_named (sym s row) n h t = good_joined true (whole n) (whole n) (Some (signed s ∷ [])) (row_slots l c o (spells c) (spells o) row) (λ a b. b) refl (tree_named row n h t)
  tree_named (may_sym s row) n h t = good_joined true (whole n) (whole n) (Some (may (symbol s) ∷ [])) (row_slots l c o (spells c) (spells o) row) (λ a b. b) refl (tree_named row n h t)
  tree_named (says w row) n h t = good_joined true (whole n) (whole n) (Some (named w ∷ [])) (row_slots l c o (spells c) (spells o) row) (λ a b. b) refl (tree_named row n h t)
  tree_named (opens row) n h t = good_joined true (whole n) (whole n) (Some (must open_list ∷ [])) (row_slots l c o (spells c) (spells o) row) (λ a b. b) refl (tree_named row n h t)
  tree_named (closes row) n h t = good_joined true (whole n) (whole n) (Some (must close_list ∷ [])) (row_slots l c o (spells c) (spells o) row) (λ a b. b) refl (tree_named row n h t)
  tree_named (own s row) n h t = own_named (first_slots l c (spells c) s) ((spells o).row row) n (first_named s) (later row (n - 1) h t)
  tree_named (leaf f row) n h t = good_either (whole n) (is_end c) (followed (leaf_slots f l o) ((spells o).row row)) None (λ e. own_named (leaf_slots f l o) ((spells o).row row) n (leaf_named f e) (later row (n - 1) h t)) (λ e. tt)
  tree_named (run k s row) n h t =
      let x : (not (same_kind k type_expression) ≡ true) × (is_fair row ≡ true) = and_parts (not (same_kind k type_expression)) (is_fair row) h in
      good_either (whole n) (is_kind k (Some l)) (followed ((spells c).all s) ((spells o).row row)) None (λ e. of_kind k ((spells c).all s) ((spells o).row row) n e (all s) (later row (n - 1) x.1 t)) (λ e. tt)
  tree_named (commas k s row) n h t =
      let x : (not (same_kind k type_expression) ≡ true) × (is_fair row ≡ true) = and_parts (not (same_kind k type_expression)) (is_fair row) h in
      good_either (whole n) (is_kind k (Some l)) (followed (option_map trailing ((spells c).separate s)) ((spells o).row row)) None
      (λ e. of_kind k (option_map trailing ((spells c).separate s)) ((spells o).row row) n e (good_trailing (are_named 0 c) ((spells c).separate s) (separate s)) (later row (n - 1) x.1 t)) (λ e. tt)
  tree_named (optional ins row) n h t =
      let x : (is_fair ins ≡ true) × (is_fair row ≡ true) = and_parts (is_fair ins) (is_fair row) h in
      let u : (has_target 0 ins ≡ true) × (has_target (n - 1) row ≡ true) = and_parts (has_target 0 ins) (has_target (n - 1) row) t in
      good_either (whole n) (is_kind absent (Some l) && is_end c) ((spells o).row row) (if is_kind present (Some l) then followed ((spells c).row ins) ((spells o).row row) else None)
      (λ e. let y : (is_kind absent (Some l) ≡ true) × (is_end c ≡ true) = and_parts (is_kind absent (Some l)) (is_end c) e in
      good_more (are_named (n - 1) o) (whole n) ((spells o).row row) (λ g. either_so ((n == 1) && is_wildcard l c) inner (are_named (n - 1) o) (kind_named absent y.0 (nothing_there c y.1)) g) (later row (n - 1) x.1 u.1))
      (λ e. good_either (whole n) (is_kind present (Some l)) (followed ((spells c).row ins) ((spells o).row row)) None
      (λ g. of_kind present ((spells c).row ins) ((spells o).row row) n g (below ins 0 x.0 u.0) (later row (n - 1) x.1 u.1)) (λ g. tt)) where
        nothing_there : (c : Forest) → is_end c ≡ true → are_named 0 c ≡ true
        nothing_there end h = refl
        nothing_there (tree m d p) h = absurd (no_true h)
  tree_named (inside k ins row) n h t =
      let x : (not (same_kind k type_expression) ≡ true) × ((is_fair ins && is_fair row) ≡ true) = and_parts (not (same_kind k type_expression)) (is_fair ins && is_fair row) h in
      let y : (is_fair ins ≡ true) × (is_fair row ≡ true) = and_parts (is_fair ins) (is_fair row) x.1 in
      let u : (has_target 0 ins ≡ true) × (has_target (n - 1) row ≡ true) = and_parts (has_target 0 ins) (has_target (n - 1) row) t in
      good_either (whole n) (is_kind k (Some l)) (followed ((spells c).row ins) ((spells o).row row)) None (λ e. of_kind k ((spells c).row ins) ((spells o).row row) n e (below ins 0 y.0 u.0) (later row (n - 1) y.1 u.1)) (λ e. tt)
  tree_named (target row) n h t =
      let u : ((n == 1) ≡ true) × (has_target (n - 1) row ≡ true) = and_parts (n == 1) (has_target (n - 1) row) t in
      good_either (whole n) (is_wildcard l c) (followed (Some (named (codes "_") ∷ [])) ((spells o).row row))
      (if is_tight (class_of (label_at 0 c)) && leads_to_place c then followed (first_slots l c (spells c) an_expression) ((spells o).row row) else None)
      (λ e. good_joined true (are_named (n - 1) o) (whole n) (Some (named (codes "_") ∷ [])) ((spells o).row row) (λ a b. ap (λ z. (z || inner) && are_named (n - 1) o) (and_from (n == 1) (is_wildcard l c) u.0 e) ∙ b) refl (later row (n - 1) h u.1))
      (λ e. good_either (whole n) (is_tight (class_of (label_at 0 c)) && leads_to_place c) (followed (first_slots l c (spells c) an_expression) ((spells o).row row)) None
      (λ g. own_named (first_slots l c (spells c) an_expression) ((spells o).row row) n (first_named an_expression) (later row (n - 1) h u.1)) (λ g. tt))
  tree_named (selectors row) n h t =
      good_either (whole n) (not (is_kind list (Some l))) None
      (if is_lone_default c then followed (Some (alone ∷ [])) ((spells o).row row) else followed (Some (named (codes "case") ∷ [])) (followed (option_map trailing ((spells c).separate a_selector)) ((spells o).row row)))
      (λ e. tt)
      (λ e. good_either (whole n) (is_lone_default c) (followed (Some (alone ∷ [])) ((spells o).row row)) (followed (Some (named (codes "case") ∷ [])) (followed (option_map trailing ((spells c).separate a_selector)) ((spells o).row row)))
      (λ g. of_kind list (Some (alone ∷ [])) ((spells o).row row) n (of_not (is_kind list (Some l)) e) (lone_named g) (later row (n - 1) h t))
      (λ g. good_joined true (whole n) (whole n) (Some (named (codes "case") ∷ [])) (followed (option_map trailing ((spells c).separate a_selector)) ((spells o).row row)) (λ a b. b) refl
      (of_kind list (option_map trailing ((spells c).separate a_selector)) ((spells o).row row) n (of_not (is_kind list (Some l)) e) (good_trailing (are_named 0 c) ((spells c).separate a_selector) (separate a_selector)) (later row (n - 1) h t)))) where
        of_not : (b : Bool) → not b ≡ false → b ≡ true
        of_not true g = refl
        of_not false g = absurd (no_true (turned g))
  tree_named (unended a_statement row) n h t = own_named (option_map without_last (first_slots l c (spells c) a_statement)) ((spells o).row row) n (good_cut inner (first_slots l c (spells c) a_statement) (first_named a_statement)) (later row (n - 1) h t)
  tree_named (unended s row) n h t = absurd (no_true h)
  tree_named (arrow row) n h t =
      good_either (whole n) (is_absent_at 0 o) (if is_end c then row_slots l c o (spells c) (spells o) row else None) (followed (Some (signed is.Arrow ∷ [])) (row_slots l c o (spells c) (spells o) row))
      (λ e. good_either (whole n) (is_end c) (row_slots l c o (spells c) (spells o) row) None (λ g. tree_named row n h t) (λ g. tt))
      (λ e. good_joined true (whole n) (whole n) (Some (signed is.Arrow ∷ [])) (row_slots l c o (spells c) (spells o) row) (λ a b. b) refl (tree_named row n h t))

  separate_named : SeparateNamed (tree l c o)
  separate_named s = by o (others s) where
    by : (o : Forest) → Good (are_named 0 o) ((spells o).separate s) → Good (inner && are_named 0 o) (with_comma (first_slots l c (spells c) s) o ((spells o).separate s))
    by end h = good_more inner (inner && true) (first_slots l c (spells c) s) (λ e. and_from inner true e refl) (first_named s)
    by (tree m d p) h = good_joined inner (are_named 0 (tree m d p)) (inner && are_named 0 (tree m d p)) (first_slots l c (spells c) s) (option_map (λ ss. signed is.Comma ∷ ss) ((spells (tree m d p)).separate s))
        (λ x y. and_from inner (are_named 0 (tree m d p)) x y) (first_named s) (good_comma (are_named 0 (tree m d p)) ((spells (tree m d p)).separate s) h)

record TreesNamed (f : Forest) : Type 0 where
  pub row : RowsNamed f
  pub separate : SeparateNamed f
  pub all : AllNamed f

trees_named : (f : Forest) → TreesNamed f
trees_named end = record { row = λ r n h t. good_true true (row_of_none r) refl; separate = λ s. refl; all = λ s. refl }
trees_named (tree l c o) = by (trees_named c) (trees_named o) where
  by : TreesNamed c → TreesNamed o → TreesNamed (tree l c o)
  by x y = record {
    row = tree_named l c o x.row x.separate x.all y.row y.separate;
    separate = separate_named l c o x.row x.separate x.all y.row y.separate;
    all = λ s. own_named l c o x.row x.separate x.all y.row y.separate (first_slots l c (spells c) s) ((spells o).all s) 0 (first_named l c o x.row x.separate x.all y.row y.separate s) (y.all s);
  }

-- what has slots by a row
pub rows_are_named : (f : Forest) (r : Row) → is_fair r ≡ true → has_target 0 r ≡ true → Good (are_named 0 f) ((spells f).row r)
rows_are_named f r h t = (trees_named f).row r 0 h t
