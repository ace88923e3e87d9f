-- A row is read where each of its parts is.
use Rattle.std.proofs.Common.{◌≡◌, ◌⊎◌, ℕ, Bool, true, false, not, ◌&&◌, if◌then◌else◌, List, [], ◌∷◌, length, Some, None, option_and_then, option_map, refl, sym as turned, inl, inr, ap, ◌∙◌, subst, codes}
use Rattle.wesl_tree_names.specs.Path.{Text}
use Rattle.wesl_tree_syntax.specs.Tree.{kind, end, tree, TreeOf, before, leaf as tree_leaf, branch, present, absent, list}
use Rattle.wesl_text_tokens.specs.declared.symbol.Symbol.TheVariants as is
use Rattle.wesl_text_tokens.specs.Tokens.{Token, name, symbol, open_list, close_list}
use Rattle.wesl_text_form.specs.Slots.{must, may, alone, behind_token, behind_if_there}
use Rattle.wesl_text_form.specs.Productions.{Sort, a_selector, an_expression, Row, nothing, sym, may_sym, says, opens, closes, own, leaf, run, commas, optional, inside, target, selectors, unended, arrow}
use Rattle.wesl_text_form.specs.Operators.{class_of, is_tight}
use Rattle.wesl_text_form.specs.Spelling.{Label, Forest, Slots, spells, followed, named, signed, is_absent_at, trailing, leaf_slots, first_slots, row_slots, row_of_none, label_at, is_end, is_kind, is_wildcard, leads_to_place, is_lone_default, without_last}
use Rattle.wesl_text_reading.specs.Leaves.{Read, after, where_so, read_leaf}
use Rattle.wesl_text_reading.specs.FirstTokens.{begins_sign, behind_first}
use Rattle.wesl_text_reading.specs.Reading.{Reader, node_of, and_others, all_of, separate_of, begins_child, begins_row, read_target, read_selectors, read_row}
use Rattle.wesl_text_reading.proofs.Filled.{no_some, of_some, fill, parts, both, one, stands}
use Rattle.wesl_text_reading.proofs.Takes.{chosen, where_true}
use Rattle.wesl_text_reading.proofs.KindsAgain.{label_is, end_is}
use Rattle.wesl_text_reading.proofs.Within.{Within, within_below}
use Rattle.std.proofs.lemmas.Bool.{and_parts}

-- the slots of a target, and of selectors
abbrev pub target_slots : Label → Forest → Slots
target_slots l c = if is_wildcard l c then Some (named (codes "_") ∷ []) else if is_tight (class_of (label_at 0 c)) && leads_to_place c then first_slots l c (spells c) an_expression else None

abbrev pub selector_slots : Forest → Slots
selector_slots c = if is_lone_default c then Some (alone ∷ []) else followed (Some (named (codes "case") ∷ [])) (option_map trailing ((spells c).separate a_selector))

-- what was read, and others behind it
pub joined : {A : Type 0} (made : A → TreeOf Text) (r : Read A) (x : A) (vs : List Token) (rest : List Token → Read Forest) (o : Forest) (us : List Token)
    → r ≡ Some (x, vs) → rest vs ≡ Some (o, us) → after r (λ a ws. and_others (made a) (rest ws)) ≡ Some (before (made x) o, us)
joined made r x vs rest o us e g = ap (λ z. after z (λ a ws. and_others (made a) (rest ws))) e ∙ ap (λ z. and_others (made x) z) g

module _ (child part : Sort → Reader) (n : ℕ) where
  -- tokens that fill a row, with what may come behind it behind them
  abbrev pub Rest : (List Token → Type 0) → Row → List Token → Type 0
  Rest C row vs = (f : Forest) × (us : List Token) × (fill ((spells f).row row) vs ≡ Some us) × Within n f × C us

  -- each part of a row is read where the others and what may come come behind it
  abbrev pub RowOk : (List Token → Type 0) → Row → Type 0
  RowOk C nothing = Unit {0}
  RowOk C (sym s row) = RowOk C row
  RowOk C (may_sym s row) = RowOk C row
  RowOk C (says w row) = RowOk C row
  RowOk C (opens row) = RowOk C row
  RowOk C (closes row) = RowOk C row
  RowOk C (own s row) = ((l : Label) (c : Forest) (ts vs : List Token) → fill (first_slots l c (spells c) s) ts ≡ Some vs → Within n (tree l c end) → Rest C row vs → child s ts ≡ Some (node_of l c, vs)) × RowOk C row
  RowOk C (leaf f row) = ((l : Label) (o : Forest) (ts vs us : List Token) → fill (leaf_slots f l o) ts ≡ Some vs → fill ((spells o).row row) vs ≡ Some us → C us → read_leaf f ts ≡ Some (l, vs)) × RowOk C row
  RowOk C (run k s row) = ((g : Forest) (ts vs : List Token) → fill ((spells g).all s) ts ≡ Some vs → Within n g → Rest C row vs → all_of (begins_child child s) (child s) (length ts) ts ≡ Some (g, vs)) × RowOk C row
  RowOk C (commas k s row) = ((g : Forest) (ts vs : List Token) → fill (option_map trailing ((spells g).separate s)) ts ≡ Some vs → Within n g → Rest C row vs → separate_of (begins_child child s) (child s) (length ts) ts ≡ Some (g, vs)) × RowOk C row
  RowOk C (optional ins row) = ((vs : List Token) → Rest C row vs → begins_row child ins vs ≡ false)
      × ((f : Forest) (ts vs : List Token) → fill ((spells f).row ins) ts ≡ Some vs → Within n f → Rest C row vs → begins_row child ins ts ≡ true)
      × RowOk (Rest C row) ins × RowOk C row
  RowOk C (inside k ins row) = ((c : Forest) (ts vs : List Token) → fill ((spells c).row ins) ts ≡ Some vs → Within n (tree (kind k) c end) → Rest C row vs → read_row child part ins ts ≡ Some (c, vs)) × RowOk C row
  RowOk C (target row) = ((l : Label) (c : Forest) (ts vs : List Token) → fill (target_slots l c) ts ≡ Some vs → Within n (tree l c end) → Rest C row vs → read_target child ts ≡ Some (node_of l c, vs)) × RowOk C row
  RowOk C (selectors row) = ((c : Forest) (ts vs : List Token) → fill (selector_slots c) ts ≡ Some vs → Within n c → Rest C row vs → read_selectors child ts ≡ Some (c, vs)) × RowOk C row
  RowOk C (unended s row) = ((l : Label) (c : Forest) (ts vs : List Token) → fill (option_map without_last (first_slots l c (spells c) s)) ts ≡ Some vs → Within n (tree l c end) → Rest C row vs → part s ts ≡ Some (node_of l c, vs)) × RowOk C row
  RowOk C (arrow (run k s row)) = ((vs : List Token) → Rest C row vs → begins_sign is.Arrow vs ≡ false)
      × ((g f : Forest) (ts vs us : List Token) → fill ((spells g).all s) ts ≡ Some vs → Within n g → is_absent_at 0 f ≡ false → fill ((spells f).row row) vs ≡ Some us → Within n f → C us → all_of (begins_child child s) (child s) (length ts) ts ≡ Some (g, vs))
      × RowOk C row
  RowOk C (arrow row) = ⊥

  -- what is promised of the reading of rows
  abbrev pub RowsRead : Forest → Type 1
  RowsRead f = (r : Row) (C : List Token → Type 0) → RowOk C r → (ts us : List Token) → fill ((spells f).row r) ts ≡ Some us → Within n f → C us → read_row child part r ts ≡ Some (f, us)

  -- a token that must stand
  past : (t : Token) (b : Slots) (row : Row) (f : Forest) (ts us : List Token) → fill (followed (Some (must t ∷ [])) b) ts ≡ Some us
      → ((vs : List Token) → fill b vs ≡ Some us → read_row child part row vs ≡ Some (f, us)) → option_and_then (read_row child part row) (behind_token t ts) ≡ Some (f, us)
  past t b row f ts us h k =
      let x : (vs : List Token) × (fill (Some (must t ∷ [])) ts ≡ Some vs) × (fill b vs ≡ Some us) = parts (Some (must t ∷ [])) b ts us h in
      ap (λ z. option_and_then (read_row child part row) z) (one (must t) ts x.0 x.1) ∙ k x.0 x.2

  -- one that may stand
  past_if : (t : Token) (b : Slots) (row : Row) (f : Forest) (ts us : List Token) → fill (followed (Some (may t ∷ [])) b) ts ≡ Some us
      → ((vs : List Token) → fill b vs ≡ Some us → read_row child part row vs ≡ Some (f, us)) → read_row child part row (behind_if_there t ts) ≡ Some (f, us)
  past_if t b row f ts us h k =
      let x : (vs : List Token) × (fill (Some (may t ∷ [])) ts ≡ Some vs) × (fill b vs ≡ Some us) = parts (Some (may t ∷ [])) b ts us h in
      ap (λ z. read_row child part row z) (of_some (behind_if_there t ts) x.0 (one (may t) ts x.0 x.1)) ∙ k x.0 x.2

  end_reads : (r : Row) (C : List Token → Type 0) → RowOk C r → (ts us : List Token) → fill (row_of_none r) ts ≡ Some us → read_row child part r ts ≡ Some (end, us)
  end_reads nothing C ok ts us h = ap (λ z. Some (end, z)) (of_some ts us h)
  end_reads (sym s row) C ok ts us h = past (symbol s) (row_of_none row) row end ts us h (λ vs g. end_reads row C ok vs us g)
  end_reads (may_sym s row) C ok ts us h = past_if (symbol s) (row_of_none row) row end ts us h (λ vs g. end_reads row C ok vs us g)
  end_reads (says w row) C ok ts us h = past (name w) (row_of_none row) row end ts us h (λ vs g. end_reads row C ok vs us g)
  end_reads (opens row) C ok ts us h = past open_list (row_of_none row) row end ts us h (λ vs g. end_reads row C ok vs us g)
  end_reads (closes row) C ok ts us h = past close_list (row_of_none row) row end ts us h (λ vs g. end_reads row C ok vs us g)
  end_reads r C ok ts us h = absurd (no_some us h)

  module _ (l : Label) (c o : Forest) (below : RowsRead c) (later : RowsRead o) where
    tree_reads : RowsRead (tree l c o)
    tree_reads nothing C ok ts us h w cu = absurd (no_some us h)
    tree_reads (sym s row) C ok ts us h w cu = past (symbol s) (row_slots l c o (spells c) (spells o) row) row (tree l c o) ts us h (λ vs g. tree_reads row C ok vs us g w cu)
    tree_reads (may_sym s row) C ok ts us h w cu = past_if (symbol s) (row_slots l c o (spells c) (spells o) row) row (tree l c o) ts us h (λ vs g. tree_reads row C ok vs us g w cu)
    tree_reads (says t row) C ok ts us h w cu = past (name t) (row_slots l c o (spells c) (spells o) row) row (tree l c o) ts us h (λ vs g. tree_reads row C ok vs us g w cu)
    tree_reads (opens row) C ok ts us h w cu = past open_list (row_slots l c o (spells c) (spells o) row) row (tree l c o) ts us h (λ vs g. tree_reads row C ok vs us g w cu)
    tree_reads (closes row) C ok ts us h w cu = past close_list (row_slots l c o (spells c) (spells o) row) row (tree l c o) ts us h (λ vs g. tree_reads row C ok vs us g w cu)
    tree_reads (own s row) C ok ts us h w cu =
        let x : (vs : List Token) × (fill (first_slots l c (spells c) s) ts ≡ Some vs) × (fill ((spells o).row row) vs ≡ Some us) = parts (first_slots l c (spells c) s) ((spells o).row row) ts us h in
        joined (λ t. t) (child s ts) (node_of l c) x.0 (read_row child part row) o us (ok.0 l c ts x.0 x.1 (w.0, tt) (o, us, x.2, w.1, cu)) (later row C ok.1 x.0 us x.2 w.1 cu)
    tree_reads (leaf f row) C ok ts us h w cu =
        let y : (is_end c ≡ true) × (fill (followed (leaf_slots f l o) ((spells o).row row)) ts ≡ Some us) = where_true (is_end c) (followed (leaf_slots f l o) ((spells o).row row)) ts us h in
        let x : (vs : List Token) × (fill (leaf_slots f l o) ts ≡ Some vs) × (fill ((spells o).row row) vs ≡ Some us) = parts (leaf_slots f l o) ((spells o).row row) ts us y.1 in
        joined (λ t. tree_leaf t) (read_leaf f ts) l x.0 (read_row child part row) o us (ok.0 l o ts x.0 us x.1 x.2 cu) (later row C ok.1 x.0 us x.2 w.1 cu)
        ∙ ap (λ z. Some (tree l z o, us)) (turned (end_is c y.0))
    tree_reads (run k s row) C ok ts us h w cu =
        let y : (is_kind k (Some l) ≡ true) × (fill (followed ((spells c).all s) ((spells o).row row)) ts ≡ Some us) = where_true (is_kind k (Some l)) (followed ((spells c).all s) ((spells o).row row)) ts us h in
        let x : (vs : List Token) × (fill ((spells c).all s) ts ≡ Some vs) × (fill ((spells o).row row) vs ≡ Some us) = parts ((spells c).all s) ((spells o).row row) ts us y.1 in
        joined (λ f. node_of (kind k) f) (all_of (begins_child child s) (child s) (length ts) ts) c x.0 (read_row child part row) o us
        (ok.0 c ts x.0 x.1 (within_below l c o n w) (o, us, x.2, w.1, cu)) (later row C ok.1 x.0 us x.2 w.1 cu)
        ∙ ap (λ z. Some (tree z c o, us)) (turned (label_is k l y.0))
    tree_reads (commas k s row) C ok ts us h w cu =
        let y : (is_kind k (Some l) ≡ true) × (fill (followed (option_map trailing ((spells c).separate s)) ((spells o).row row)) ts ≡ Some us) = where_true (is_kind k (Some l)) (followed (option_map trailing ((spells c).separate s)) ((spells o).row row)) ts us h in
        let x : (vs : List Token) × (fill (option_map trailing ((spells c).separate s)) ts ≡ Some vs) × (fill ((spells o).row row) vs ≡ Some us) = parts (option_map trailing ((spells c).separate s)) ((spells o).row row) ts us y.1 in
        joined (λ f. node_of (kind k) f) (separate_of (begins_child child s) (child s) (length ts) ts) c x.0 (read_row child part row) o us
        (ok.0 c ts x.0 x.1 (within_below l c o n w) (o, us, x.2, w.1, cu)) (later row C ok.1 x.0 us x.2 w.1 cu)
        ∙ ap (λ z. Some (tree z c o, us)) (turned (label_is k l y.0))
    tree_reads (optional ins row) C ok ts us h w cu = at (chosen (is_kind absent (Some l) && is_end c) ((spells o).row row) (if is_kind present (Some l) then followed ((spells c).row ins) ((spells o).row row) else None) ts us h) where
      at : (((is_kind absent (Some l) && is_end c) ≡ true) × (fill ((spells o).row row) ts ≡ Some us)) ⊎ (((is_kind absent (Some l) && is_end c) ≡ false) × (fill (if is_kind present (Some l) then followed ((spells c).row ins) ((spells o).row row) else None) ts ≡ Some us)) → read_row child part (optional ins row) ts ≡ Some (tree l c o, us)
      at (inl x) =
          let y : (is_kind absent (Some l) ≡ true) × (is_end c ≡ true) = and_parts (is_kind absent (Some l)) (is_end c) x.0 in
          ap (λ b. elim b as (λ _. Read Forest) [ false ↦ and_others (branch absent []) (read_row child part row ts) | true ↦ after (read_row child part ins ts) (λ f us. and_others (node_of (kind present) f) (read_row child part row us)) ]) (ok.0 ts (o, us, x.1, w.1, cu))
          ∙ (ap (λ z. and_others (branch absent []) z) (later row C ok.3 ts us x.1 w.1 cu)
          ∙ (ap (λ z. Some (tree z end o, us)) (turned (label_is absent l y.0)) ∙ ap (λ z. Some (tree l z o, us)) (turned (end_is c y.1))))
      at (inr x) =
          let y : (is_kind present (Some l) ≡ true) × (fill (followed ((spells c).row ins) ((spells o).row row)) ts ≡ Some us) = where_true (is_kind present (Some l)) (followed ((spells c).row ins) ((spells o).row row)) ts us x.1 in
          let z : (vs : List Token) × (fill ((spells c).row ins) ts ≡ Some vs) × (fill ((spells o).row row) vs ≡ Some us) = parts ((spells c).row ins) ((spells o).row row) ts us y.1 in
          ap (λ b. elim b as (λ _. Read Forest) [ false ↦ and_others (branch absent []) (read_row child part row ts) | true ↦ after (read_row child part ins ts) (λ f us. and_others (node_of (kind present) f) (read_row child part row us)) ]) (ok.1 c ts z.0 z.1 (within_below l c o n w) (o, us, z.2, w.1, cu))
          ∙ (joined (λ f. node_of (kind present) f) (read_row child part ins ts) c z.0 (read_row child part row) o us (below ins (Rest C row) ok.2 ts z.0 z.1 (within_below l c o n w) (o, us, z.2, w.1, cu)) (later row C ok.3 z.0 us z.2 w.1 cu)
          ∙ ap (λ z. Some (tree z c o, us)) (turned (label_is present l y.0)))
    tree_reads (inside k ins row) C ok ts us h w cu =
        let y : (is_kind k (Some l) ≡ true) × (fill (followed ((spells c).row ins) ((spells o).row row)) ts ≡ Some us) = where_true (is_kind k (Some l)) (followed ((spells c).row ins) ((spells o).row row)) ts us h in
        let x : (vs : List Token) × (fill ((spells c).row ins) ts ≡ Some vs) × (fill ((spells o).row row) vs ≡ Some us) = parts ((spells c).row ins) ((spells o).row row) ts us y.1 in
        joined (λ f. node_of (kind k) f) (read_row child part ins ts) c x.0 (read_row child part row) o us
        (ok.0 c ts x.0 x.1 (subst (λ z. Within n (tree z c end)) (label_is k l y.0) (w.0, tt)) (o, us, x.2, w.1, cu)) (later row C ok.1 x.0 us x.2 w.1 cu)
        ∙ ap (λ z. Some (tree z c o, us)) (turned (label_is k l y.0))
    tree_reads (target row) C ok ts us h w cu =
        let x : (vs : List Token) × (fill (target_slots l c) ts ≡ Some vs) × (fill ((spells o).row row) vs ≡ Some us) = parts (target_slots l c) ((spells o).row row) ts us (as_one (is_wildcard l c) (is_tight (class_of (label_at 0 c)) && leads_to_place c) h) in
        joined (λ t. t) (read_target child ts) (node_of l c) x.0 (read_row child part row) o us (ok.0 l c ts x.0 x.1 (w.0, tt) (o, us, x.2, w.1, cu)) (later row C ok.1 x.0 us x.2 w.1 cu) where
          as_one : (a b : Bool) → fill (if a then followed (Some (named (codes "_") ∷ [])) ((spells o).row row) else if b then followed (first_slots l c (spells c) an_expression) ((spells o).row row) else None) ts ≡ Some us
              → fill (followed (if a then Some (named (codes "_") ∷ []) else if b then first_slots l c (spells c) an_expression else None) ((spells o).row row)) ts ≡ Some us
          as_one true b g = g
          as_one false true g = g
          as_one false false g = g
    tree_reads (selectors row) C ok ts us h w cu = at (is_kind list (Some l)) refl (as_one (is_kind list (Some l)) (is_lone_default c) h) where
      as_one : (a b : Bool) → fill (if not a then None else if b then followed (Some (alone ∷ [])) ((spells o).row row) else followed (Some (named (codes "case") ∷ [])) (followed (option_map trailing ((spells c).separate a_selector)) ((spells o).row row))) ts ≡ Some us
          → (vs : List Token) × (a ≡ true) × (fill (if b then Some (alone ∷ []) else followed (Some (named (codes "case") ∷ [])) (option_map trailing ((spells c).separate a_selector))) ts ≡ Some vs) × (fill ((spells o).row row) vs ≡ Some us)
      as_one false b g = absurd (no_some us g)
      as_one true true g = let x : (vs : List Token) × (fill (Some (alone ∷ [])) ts ≡ Some vs) × (fill ((spells o).row row) vs ≡ Some us) = parts (Some (alone ∷ [])) ((spells o).row row) ts us g in (x.0, refl, x.1, x.2)
      as_one true false g =
          let x : (vs : List Token) × (fill (Some (named (codes "case") ∷ [])) ts ≡ Some vs) × (fill (followed (option_map trailing ((spells c).separate a_selector)) ((spells o).row row)) vs ≡ Some us) = parts (Some (named (codes "case") ∷ [])) (followed (option_map trailing ((spells c).separate a_selector)) ((spells o).row row)) ts us g in
          let y : (ws : List Token) × (fill (option_map trailing ((spells c).separate a_selector)) x.0 ≡ Some ws) × (fill ((spells o).row row) ws ≡ Some us) = parts (option_map trailing ((spells c).separate a_selector)) ((spells o).row row) x.0 us x.2 in
          (y.0, refl, both (Some (named (codes "case") ∷ [])) (option_map trailing ((spells c).separate a_selector)) ts x.0 y.0 x.1 y.1, y.2)

      at : (b : Bool) → is_kind list (Some l) ≡ b → (vs : List Token) × (is_kind list (Some l) ≡ true) × (fill (selector_slots c) ts ≡ Some vs) × (fill ((spells o).row row) vs ≡ Some us) → read_row child part (selectors row) ts ≡ Some (tree l c o, us)
      at b e x =
          joined (λ f. node_of (kind list) f) (read_selectors child ts) c x.0 (read_row child part row) o us (ok.0 c ts x.0 x.2 (within_below l c o n w) (o, us, x.3, w.1, cu)) (later row C ok.1 x.0 us x.3 w.1 cu)
          ∙ ap (λ z. Some (tree z c o, us)) (turned (label_is list l x.1))
    tree_reads (unended s row) C ok ts us h w cu =
        let x : (vs : List Token) × (fill (option_map without_last (first_slots l c (spells c) s)) ts ≡ Some vs) × (fill ((spells o).row row) vs ≡ Some us) = parts (option_map without_last (first_slots l c (spells c) s)) ((spells o).row row) ts us h in
        joined (λ t. t) (part s ts) (node_of l c) x.0 (read_row child part row) o us (ok.0 l c ts x.0 x.1 (w.0, tt) (o, us, x.2, w.1, cu)) (later row C ok.1 x.0 us x.2 w.1 cu)
    tree_reads (arrow (run k s row)) C ok ts us h w cu = at (chosen (is_absent_at 0 o) (if is_end c then row_slots l c o (spells c) (spells o) (run k s row) else None) (followed (Some (signed is.Arrow ∷ [])) (row_slots l c o (spells c) (spells o) (run k s row))) ts us h) where
      run_parts : (ts : List Token) → fill (row_slots l c o (spells c) (spells o) (run k s row)) ts ≡ Some us → (vs : List Token) × (is_kind k (Some l) ≡ true) × (fill ((spells c).all s) ts ≡ Some vs) × (fill ((spells o).row row) vs ≡ Some us)
      run_parts ts g =
          let z : (is_kind k (Some l) ≡ true) × (fill (followed ((spells c).all s) ((spells o).row row)) ts ≡ Some us) = where_true (is_kind k (Some l)) (followed ((spells c).all s) ((spells o).row row)) ts us g in
          let p : (vs : List Token) × (fill ((spells c).all s) ts ≡ Some vs) × (fill ((spells o).row row) vs ≡ Some us) = parts ((spells c).all s) ((spells o).row row) ts us z.1 in
          (p.0, z.0, p.1, p.2)

      at : ((is_absent_at 0 o ≡ true) × (fill (if is_end c then row_slots l c o (spells c) (spells o) (run k s row) else None) ts ≡ Some us)) ⊎ ((is_absent_at 0 o ≡ false) × (fill (followed (Some (signed is.Arrow ∷ [])) (row_slots l c o (spells c) (spells o) (run k s row))) ts ≡ Some us)) → read_row child part (arrow (run k s row)) ts ≡ Some (tree l c o, us)
      at (inl x) =
          let y : (is_end c ≡ true) × (fill (row_slots l c o (spells c) (spells o) (run k s row)) ts ≡ Some us) = where_true (is_end c) (row_slots l c o (spells c) (spells o) (run k s row)) ts us x.1 in
          let p : (vs : List Token) × (is_kind k (Some l) ≡ true) × (fill ((spells c).all s) ts ≡ Some vs) × (fill ((spells o).row row) vs ≡ Some us) = run_parts ts y.1 in
          let q : ts ≡ p.0 = of_some ts p.0 (ap (λ a. fill ((spells a).all s) ts) (turned (end_is c y.0)) ∙ p.2) in
          let g : fill ((spells o).row row) ts ≡ Some us = ap (λ a. fill ((spells o).row row) a) q ∙ p.3 in
          ap (λ b. elim b as (λ _. Read Forest) [
            | false ↦ after (read_row child part row ts) (λ f us. where_so (is_absent_at 0 f) (before (branch k []) f) us)
            | true ↦ after (read_row child part (run k s row) (behind_first ts)) (λ f us. where_so (not (is_absent_at 1 f)) f us)
          ]) (ok.0 ts (o, us, g, w.1, cu))
          ∙ (ap (λ a. after a (λ f us. where_so (is_absent_at 0 f) (before (branch k []) f) us)) (later row C ok.2 ts us g w.1 cu)
          ∙ (ap (λ b. if b then Some (tree (kind k) end o, us) else None) x.0
          ∙ (ap (λ a. Some (tree a end o, us)) (turned (label_is k l p.1)) ∙ ap (λ a. Some (tree l a o, us)) (turned (end_is c y.0)))))
      at (inr x) =
          let p : (vs : List Token) × (fill (Some (signed is.Arrow ∷ [])) ts ≡ Some vs) × (fill (row_slots l c o (spells c) (spells o) (run k s row)) vs ≡ Some us) = parts (Some (signed is.Arrow ∷ [])) (row_slots l c o (spells c) (spells o) (run k s row)) ts us x.1 in
          let q : ts ≡ symbol is.Arrow ∷ p.0 = stands (symbol is.Arrow) ts p.0 (one (signed is.Arrow) ts p.0 p.1) in
          let z : (vs : List Token) × (is_kind k (Some l) ≡ true) × (fill ((spells c).all s) p.0 ≡ Some vs) × (fill ((spells o).row row) vs ≡ Some us) = run_parts p.0 p.2 in
          ap (λ a. read_row child part (arrow (run k s row)) a) q
          ∙ (ap (λ a. after a (λ f us. where_so (not (is_absent_at 1 f)) f us)) (joined (λ f. node_of (kind k) f) (all_of (begins_child child s) (child s) (length p.0) p.0) c z.0 (read_row child part row) o us
          (ok.1 c o p.0 z.0 us z.2 (within_below l c o n w) x.0 z.3 w.1 cu) (later row C ok.2 z.0 us z.3 w.1 cu)
          ∙ ap (λ a. Some (tree a c o, us)) (turned (label_is k l z.1)))
          ∙ ap (λ b. if not b then Some (tree l c o, us) else None) x.0)
    tree_reads (arrow row) C ok ts us h w cu = absurd ok

  -- a row is read where each of its parts is
  pub row_reads : (f : Forest) → RowsRead f
  row_reads end r C ok ts us h w cu = end_reads r C ok ts us h
  row_reads (tree l c o) r C ok ts us h w cu = tree_reads l c o (λ a b d x y z v u. row_reads c a b d x y z v u) (λ a b d x y z v u. row_reads o a b d x y z v u) r C ok ts us h w cu
