-- What is printed for trees with other names is like what is printed for the trees.
use Rattle.std.proofs.Common.{◌≡◌, zero, suc, Bool, true, false, not, ◌&&◌, if◌then◌else◌, [], ◌∷◌, Some, None, option_map, refl, sym as turned, ap, ap₂, subst, codes}
use Rattle.wesl_tree_syntax.specs.Tree.{Kind, kind, at, unary, binary, assignment, space, access, end, tree, present, absent, list, type_expression, expression_node, statement_node, attribute_node, member_node, import_node, directive_node, declaration_node}
use Rattle.wesl_tree_syntax.specs.Kinds.{same_kind}
use Rattle.wesl_tree_syntax.specs.declared.statement.AssignmentOperator.TheVariants as assignment_operator
use Rattle.wesl_text_tokens.specs.declared.symbol.Symbol.TheVariants as is
use Rattle.wesl_text_tokens.specs.Tokens.{symbol, open_list, close_list}
use Rattle.wesl_text_form.specs.Slots.{must, may, alone}
use Rattle.wesl_text_form.specs.Operators.{class_of, is_tight}
use Rattle.wesl_text_form.specs.Productions.{Sort, an_expression, a_bare_expression, an_attribute, a_bare_attribute, a_space, an_access, an_import, a_bare_import, a_directive, a_bare_directive, a_member, a_bare_member, a_statement, a_bare_statement, a_declaration, a_bare_declaration, a_selector, Leaf, Row, nothing, sym, may_sym, says, opens, closes, own, leaf, run, commas, optional, inside, target, selectors, unended, arrow, rows_of, row_of, spanned}
use Rattle.wesl_text_form.specs.Spelling.{Label, Forest, Slots, spells, followed, named, signed, trailing, leaf_slots, first_slots, row_slots, row_of_none, with_comma, label_at, is_kind, is_wildcard, leads_to_place, is_lone_default, is_end, is_absent_at, without_last}
use Rattle.wesl_text_reading.proofs.Filled.{no_some, of_some, no_true}
use Rattle.wesl_text_reading.proofs.Takes.{at_rows}
use Rattle.wesl_text_respell.specs.Respelled.{IsRespelled, ends, same, renamed, unqualified, discards}
use Rattle.wesl_text_respell.proofs.Ended.{nodes_are_ended}
use Rattle.wesl_text_respell.proofs.Related.{none, like_self, Follows, follows_self, follows_joined, follows_trailing, follows_comma, follows_cut, follows_either}
use Rattle.std.proofs.lemmas.Bool.{and_parts}
use Rattle.wesl_text_reading.proofs.Classes.{denied}
use Rattle.wesl_text_reading.proofs.RowReads.{target_slots}

-- ---- which rows

-- no part is a list or a body that is a type, and only statements stand without their `;`
abbrev pub is_fair : Row → Bool
is_fair nothing = true
is_fair (sym s row) = is_fair row
is_fair (may_sym s row) = is_fair row
is_fair (says w row) = is_fair row
is_fair (opens row) = is_fair row
is_fair (closes row) = is_fair row
is_fair (own s row) = is_fair row
is_fair (leaf f row) = is_fair row
is_fair (run k s row) = not (same_kind k type_expression) && is_fair row
is_fair (commas k s row) = not (same_kind k type_expression) && is_fair row
is_fair (optional ins row) = is_fair ins && is_fair row
is_fair (inside k ins row) = not (same_kind k type_expression) && (is_fair ins && is_fair row)
is_fair (target row) = is_fair row
is_fair (selectors row) = is_fair row
is_fair (unended a_statement row) = is_fair row
is_fair (unended s row) = false
is_fair (arrow row) = is_fair row

spanned_fair : (k : Kind) (s : Sort) (j : Kind) (r : Row) → spanned k s j ≡ Some r → is_fair r ≡ true
spanned_fair k s j r h = at (same_kind k j) h where
  at : (b : Bool) → (if b then Some (own s nothing) else None) ≡ Some r → is_fair r ≡ true
  at true g = ap is_fair (of_some r (own s nothing) (turned g))
  at false g = absurd (no_some r g)

pub rows_fair : (s : Sort) (l : Label) (r : Row) → row_of s l ≡ Some r → is_fair r ≡ true
rows_fair a_bare_expression (unary o) r h = ap is_fair (of_some r _ (turned h))
rows_fair a_bare_expression (binary o) r h = ap is_fair (of_some r _ (turned h))
rows_fair a_bare_statement (assignment assignment_operator.Equal) r h = ap is_fair (of_some r _ (turned h))
rows_fair a_bare_statement (assignment o) r h = ap is_fair (of_some r _ (turned h))
rows_fair a_space (space x) r h = ap is_fair (of_some r _ (turned h))
rows_fair an_access (access x) r h = ap is_fair (of_some r _ (turned h))
rows_fair an_expression (at k zero zero) r h = spanned_fair expression_node a_bare_expression k r h
rows_fair a_statement (at k zero zero) r h = spanned_fair statement_node a_bare_statement k r h
rows_fair an_attribute (at k zero zero) r h = spanned_fair attribute_node a_bare_attribute k r h
rows_fair a_member (at k zero zero) r h = spanned_fair member_node a_bare_member k r h
rows_fair an_import (at k zero zero) r h = spanned_fair import_node a_bare_import k r h
rows_fair a_directive (at k zero zero) r h = spanned_fair directive_node a_bare_directive k r h
rows_fair a_declaration (at k zero zero) r h = spanned_fair declaration_node a_bare_declaration k r h
rows_fair s (kind k) r h = at_rows is_fair (rows_of s) k r refl h
rows_fair s (at k zero zero) r h = absurd (no_some r h)
rows_fair s (at k zero (suc f)) r h = absurd (no_some r h)
rows_fair s (at k (suc a) f) r h = absurd (no_some r h)
rows_fair s l r h = absurd (no_some r h)

-- ---- what holds of trees

pub record TreesFollow (f g : Forest) : Type 0 where
  pub row : (r : Row) → is_fair r ≡ true → Follows ((spells f).row r) ((spells g).row r)
  pub first : (s : Sort) → Follows ((spells f).first s) ((spells g).first s)
  pub all : (s : Sort) → Follows ((spells f).all s) ((spells g).all s)
  pub separate : (s : Sort) → Follows ((spells f).separate s) ((spells g).separate s)

pub none_follow : TreesFollow end end
none_follow = record { row = λ r h. follows_self (row_of_none r); first = λ s. tt; all = λ s. none; separate = λ s. none }

-- ---- the target of an assignment

place_first : (w t : Bool) (a b x : Slots) → (if w then followed a x else if t then followed b x else None) ≡ followed (if w then a else if t then b else None) x
place_first true t a b x = refl
place_first false true a b x = refl
place_first false false a b x = refl

pub target_is : (l : Label) (c o : Forest) (row : Row) → row_slots l c o (spells c) (spells o) (target row) ≡ followed (target_slots l c) ((spells o).row row)
target_is l c o row = place_first (is_wildcard l c) (is_tight (class_of (label_at 0 c)) && leads_to_place c) (Some (named (codes "_") ∷ [])) (first_slots l c (spells c) an_expression) ((spells o).row row)

-- ---- one tree, by what is known of its label

module _ (l m : Label) (c d o p : Forest) (firsts : (s : Sort) → Follows (first_slots l c (spells c) s) (first_slots m d (spells d) s))
    (kinds : (k : Kind) → is_kind k (Some m) ≡ is_kind k (Some l)) (leaves : (f : Leaf) → Follows (leaf_slots f l o) (leaf_slots f m p))
    (inner : (k : Kind) → is_kind k (Some l) ≡ true → same_kind k type_expression ≡ false → TreesFollow c d)
    (ended : is_end d ≡ is_end c) (lone : is_lone_default d ≡ is_lone_default c) (targets : Follows (target_slots l c) (target_slots m d)) (next : is_absent_at 0 p ≡ is_absent_at 0 o) (later : TreesFollow o p) where
  tree_row : (r : Row) → is_fair r ≡ true → Follows (row_slots l c o (spells c) (spells o) r) (row_slots m d p (spells d) (spells p) r)
  tree_row nothing h = tt
  tree_row (sym s row) h = follows_joined (Some (signed s ∷ [])) (Some (signed s ∷ [])) (row_slots l c o (spells c) (spells o) row) (row_slots m d p (spells d) (spells p) row) (like_self (signed s ∷ [])) (tree_row row h)
  tree_row (may_sym s row) h = follows_joined (Some (may (symbol s) ∷ [])) (Some (may (symbol s) ∷ [])) (row_slots l c o (spells c) (spells o) row) (row_slots m d p (spells d) (spells p) row) (like_self (may (symbol s) ∷ [])) (tree_row row h)
  tree_row (says w row) h = follows_joined (Some (named w ∷ [])) (Some (named w ∷ [])) (row_slots l c o (spells c) (spells o) row) (row_slots m d p (spells d) (spells p) row) (like_self (named w ∷ [])) (tree_row row h)
  tree_row (opens row) h = follows_joined (Some (must open_list ∷ [])) (Some (must open_list ∷ [])) (row_slots l c o (spells c) (spells o) row) (row_slots m d p (spells d) (spells p) row) (like_self (must open_list ∷ [])) (tree_row row h)
  tree_row (closes row) h = follows_joined (Some (must close_list ∷ [])) (Some (must close_list ∷ [])) (row_slots l c o (spells c) (spells o) row) (row_slots m d p (spells d) (spells p) row) (like_self (must close_list ∷ [])) (tree_row row h)
  tree_row (own s row) h = follows_joined (first_slots l c (spells c) s) (first_slots m d (spells d) s) ((spells o).row row) ((spells p).row row) (firsts s) (later.row row h)
  tree_row (leaf f row) h =
      follows_either (is_end c) (is_end d) (followed (leaf_slots f l o) ((spells o).row row)) None (followed (leaf_slots f m p) ((spells p).row row)) None ended
      (λ e. follows_joined (leaf_slots f l o) (leaf_slots f m p) ((spells o).row row) ((spells p).row row) (leaves f) (later.row row h)) (λ e. tt)
  tree_row (run k s row) h =
      let x : (not (same_kind k type_expression) ≡ true) × (is_fair row ≡ true) = and_parts (not (same_kind k type_expression)) (is_fair row) h in
      follows_either (is_kind k (Some l)) (is_kind k (Some m)) (followed ((spells c).all s) ((spells o).row row)) None (followed ((spells d).all s) ((spells p).row row)) None (kinds k)
      (λ e. follows_joined ((spells c).all s) ((spells d).all s) ((spells o).row row) ((spells p).row row) ((inner k e (denied (same_kind k type_expression) x.0)).all s) (later.row row x.1)) (λ e. tt)
  tree_row (commas k s row) h =
      let x : (not (same_kind k type_expression) ≡ true) × (is_fair row ≡ true) = and_parts (not (same_kind k type_expression)) (is_fair row) h in
      follows_either (is_kind k (Some l)) (is_kind k (Some m)) (followed (option_map trailing ((spells c).separate s)) ((spells o).row row)) None (followed (option_map trailing ((spells d).separate s)) ((spells p).row row)) None (kinds k)
      (λ e. follows_joined (option_map trailing ((spells c).separate s)) (option_map trailing ((spells d).separate s)) ((spells o).row row) ((spells p).row row)
      (follows_trailing ((spells c).separate s) ((spells d).separate s) ((inner k e (denied (same_kind k type_expression) x.0)).separate s)) (later.row row x.1)) (λ e. tt)
  tree_row (optional ins row) h =
      let x : (is_fair ins ≡ true) × (is_fair row ≡ true) = and_parts (is_fair ins) (is_fair row) h in
      follows_either (is_kind absent (Some l) && is_end c) (is_kind absent (Some m) && is_end d)
      ((spells o).row row) (if is_kind present (Some l) then followed ((spells c).row ins) ((spells o).row row) else None)
      ((spells p).row row) (if is_kind present (Some m) then followed ((spells d).row ins) ((spells p).row row) else None)
      (ap₂ (λ a b. a && b) (kinds absent) ended) (λ e. later.row row x.1)
      (λ e. follows_either (is_kind present (Some l)) (is_kind present (Some m)) (followed ((spells c).row ins) ((spells o).row row)) None (followed ((spells d).row ins) ((spells p).row row)) None (kinds present)
      (λ g. follows_joined ((spells c).row ins) ((spells d).row ins) ((spells o).row row) ((spells p).row row) ((inner present g refl).row ins x.0) (later.row row x.1)) (λ g. tt))
  tree_row (inside k ins row) h =
      let x : (not (same_kind k type_expression) ≡ true) × ((is_fair ins && is_fair row) ≡ true) = and_parts (not (same_kind k type_expression)) (is_fair ins && is_fair row) h in
      let y : (is_fair ins ≡ true) × (is_fair row ≡ true) = and_parts (is_fair ins) (is_fair row) x.1 in
      follows_either (is_kind k (Some l)) (is_kind k (Some m)) (followed ((spells c).row ins) ((spells o).row row)) None (followed ((spells d).row ins) ((spells p).row row)) None (kinds k)
      (λ e. follows_joined ((spells c).row ins) ((spells d).row ins) ((spells o).row row) ((spells p).row row) ((inner k e (denied (same_kind k type_expression) x.0)).row ins y.0) (later.row row y.1)) (λ e. tt)
  tree_row (target row) h =
      subst (λ z. Follows z (row_slots m d p (spells d) (spells p) (target row))) (turned (target_is l c o row))
      (subst (λ z. Follows (followed (target_slots l c) ((spells o).row row)) z) (turned (target_is m d p row))
      (follows_joined (target_slots l c) (target_slots m d) ((spells o).row row) ((spells p).row row) targets (later.row row h)))
  tree_row (selectors row) h =
      follows_either (not (is_kind list (Some l))) (not (is_kind list (Some m))) None
      (if is_lone_default c then followed (Some (alone ∷ [])) ((spells o).row row) else followed (Some (named (codes "case") ∷ [])) (followed (option_map trailing ((spells c).separate a_selector)) ((spells o).row row)))
      None
      (if is_lone_default d then followed (Some (alone ∷ [])) ((spells p).row row) else followed (Some (named (codes "case") ∷ [])) (followed (option_map trailing ((spells d).separate a_selector)) ((spells p).row row)))
      (ap not (kinds list)) (λ e. tt)
      (λ e. follows_either (is_lone_default c) (is_lone_default d) (followed (Some (alone ∷ [])) ((spells o).row row)) (followed (Some (named (codes "case") ∷ [])) (followed (option_map trailing ((spells c).separate a_selector)) ((spells o).row row)))
      (followed (Some (alone ∷ [])) ((spells p).row row)) (followed (Some (named (codes "case") ∷ [])) (followed (option_map trailing ((spells d).separate a_selector)) ((spells p).row row))) lone
      (λ g. follows_joined (Some (alone ∷ [])) (Some (alone ∷ [])) ((spells o).row row) ((spells p).row row) (like_self (alone ∷ [])) (later.row row h))
      (λ g. follows_joined (Some (named (codes "case") ∷ [])) (Some (named (codes "case") ∷ [])) (followed (option_map trailing ((spells c).separate a_selector)) ((spells o).row row)) (followed (option_map trailing ((spells d).separate a_selector)) ((spells p).row row)) (like_self (named (codes "case") ∷ []))
      (follows_joined (option_map trailing ((spells c).separate a_selector)) (option_map trailing ((spells d).separate a_selector)) ((spells o).row row) ((spells p).row row)
      (follows_trailing ((spells c).separate a_selector) ((spells d).separate a_selector) ((inner list (of_not (is_kind list (Some l)) e) refl).separate a_selector)) (later.row row h)))) where
        of_not : (b : Bool) → not b ≡ false → b ≡ true
        of_not true g = refl
        of_not false g = absurd (no_true (turned g))
  tree_row (unended a_statement row) h =
      follows_joined (option_map without_last (first_slots l c (spells c) a_statement)) (option_map without_last (first_slots m d (spells d) a_statement)) ((spells o).row row) ((spells p).row row)
      (follows_cut (first_slots l c (spells c) a_statement) (first_slots m d (spells d) a_statement) (nodes_are_ended a_statement l c false refl) (firsts a_statement)) (later.row row h)
  tree_row (unended s row) h = absurd (no_true h)
  tree_row (arrow row) h =
      follows_either (is_absent_at 0 o) (is_absent_at 0 p) (if is_end c then row_slots l c o (spells c) (spells o) row else None) (followed (Some (signed is.Arrow ∷ [])) (row_slots l c o (spells c) (spells o) row))
      (if is_end d then row_slots m d p (spells d) (spells p) row else None) (followed (Some (signed is.Arrow ∷ [])) (row_slots m d p (spells d) (spells p) row)) next
      (λ e. follows_either (is_end c) (is_end d) (row_slots l c o (spells c) (spells o) row) None (row_slots m d p (spells d) (spells p) row) None ended (λ g. tree_row row h) (λ g. tt))
      (λ e. follows_joined (Some (signed is.Arrow ∷ [])) (Some (signed is.Arrow ∷ [])) (row_slots l c o (spells c) (spells o) row) (row_slots m d p (spells d) (spells p) row) (like_self (signed is.Arrow ∷ [])) (tree_row row h))

  pub tree_follows : IsRespelled o p → TreesFollow (tree l c o) (tree m d p)
  tree_follows r = record {
    row = tree_row;
    first = firsts;
    all = λ s. follows_joined (first_slots l c (spells c) s) (first_slots m d (spells d) s) ((spells o).all s) ((spells p).all s) (firsts s) (later.all s);
    separate = λ s. by s r (later.separate s);
  } where
    by : {o p : Forest} (s : Sort) → IsRespelled o p → Follows ((spells o).separate s) ((spells p).separate s) → Follows (with_comma (first_slots l c (spells c) s) o ((spells o).separate s)) (with_comma (first_slots m d (spells d) s) p ((spells p).separate s))
    by s ends q = firsts s
    by {o = o} {p = p} s (same k a b) q = follows_joined (first_slots l c (spells c) s) (first_slots m d (spells d) s) (option_map (λ ss. signed is.Comma ∷ ss) ((spells o).separate s)) (option_map (λ ss. signed is.Comma ∷ ss) ((spells p).separate s)) (firsts s) (follows_comma ((spells o).separate s) ((spells p).separate s) q)
    by {o = o} {p = p} s (renamed k x y n a b) q = follows_joined (first_slots l c (spells c) s) (first_slots m d (spells d) s) (option_map (λ ss. signed is.Comma ∷ ss) ((spells o).separate s)) (option_map (λ ss. signed is.Comma ∷ ss) ((spells p).separate s)) (firsts s) (follows_comma ((spells o).separate s) ((spells p).separate s) q)
    by {o = o} {p = p} s (unqualified k a b) q = follows_joined (first_slots l c (spells c) s) (first_slots m d (spells d) s) (option_map (λ ss. signed is.Comma ∷ ss) ((spells o).separate s)) (option_map (λ ss. signed is.Comma ∷ ss) ((spells p).separate s)) (firsts s) (follows_comma ((spells o).separate s) ((spells p).separate s) q)
    by {o = o} {p = p} s (discards k a b e) q = follows_joined (first_slots l c (spells c) s) (first_slots m d (spells d) s) (option_map (λ ss. signed is.Comma ∷ ss) ((spells o).separate s)) (option_map (λ ss. signed is.Comma ∷ ss) ((spells p).separate s)) (firsts s) (follows_comma ((spells o).separate s) ((spells p).separate s) q)
