-- Attributes before a word or another part of a row.
use Rattle.std.proofs.Common.{◌≡◌, ◌⊎◌, ℕ, true, false, List, [], ◌∷◌, length, Some, None, sym as turned, inl, inr, ap, ◌∙◌, subst, le_refl}
use Rattle.wesl_tree_names.specs.Path.{Text}
use Rattle.wesl_tree_syntax.specs.Tree.{end, tree, attributes}
use Rattle.wesl_text_tokens.specs.declared.symbol.Symbol.TheVariants as is
use Rattle.wesl_text_tokens.specs.Tokens.{Token, name, symbol}
use Rattle.wesl_text_form.specs.Productions.{Sort, an_attribute, Row, says, attrs}
use Rattle.wesl_text_form.specs.Spelling.{Label, Forest, spells, followed, first_slots, is_kind}
use Rattle.wesl_text_reading.specs.FirstTokens.{begins_sign}
use Rattle.wesl_text_reading.specs.Reading.{Reader, behind_attributes, begins_child, all_of, read_part}
use Rattle.wesl_text_reading.proofs.Filled.{no_some, of_some, fill, parts}
use Rattle.wesl_text_reading.proofs.Takes.{where_true}
use Rattle.wesl_text_reading.proofs.Within.{Within, within_below}
use Rattle.wesl_text_reading.proofs.RowReads.{RowOk}
use Rattle.wesl_text_reading.proofs.Loops.{Last, all_reads}
use Rattle.wesl_text_reading.proofs.Complete.{ReadsSort}
use Rattle.wesl_text_reading.proofs.Attributes.{row_word}
use Rattle.wesl_text_reading.proofs.Runs.{Unopened, attribute_at, attributes_read}

-- neither a further attribute nor `(` comes first
abbrev pub Apart : List Token → Type 0
Apart vs = (begins_sign is.At vs ≡ false) × (begins_sign is.ParenLeft vs ≡ false)

-- a word is apart from attributes before it
pub word_apart : (f : Forest) (w : Text) (row : Row) (ts us : List Token) → fill ((spells f).row (says w row)) ts ≡ Some us → Apart ts
word_apart f w row ts us h = let y : (vs : List Token) × (ts ≡ name w ∷ vs) × (fill ((spells f).row row) vs ≡ Some us) = row_word f w row ts us h in
    (ap (λ z. begins_sign is.At z) y.1, ap (λ z. begins_sign is.ParenLeft z) y.1)

module _ (child : Sort → Reader) (n : ℕ) (one_attribute : ReadsSort child n an_attribute Unopened (child an_attribute)) where
  -- attributes, and a row that is apart from them
  pub attrs_ok : (C : List Token → Type 0) (row : Row) → ((f : Forest) (vs us : List Token) → fill ((spells f).row row) vs ≡ Some us → Within n f → C us → Apart vs) → RowOk child (read_part child) n C row → RowOk child (read_part child) n C (attrs row)
  attrs_ok C row apart ok = ((λ g ts vs h w rest. let x : Apart vs = apart rest.0 vs rest.1 rest.2 rest.3 rest.4 in attributes_read child n one_attribute g ts vs h w x.0 x.1), ok)

  -- what stands behind attributes
  pub behind_them : (f : Forest) (row : Row) (ts us : List Token) → fill ((spells f).row (attrs row)) ts ≡ Some us → Within n f → ((o : Forest) (vs : List Token) → fill ((spells o).row row) vs ≡ Some us → Within n o → Apart vs)
      → (o : Forest) × (vs : List Token) × (behind_attributes child ts ≡ vs) × (fill ((spells o).row row) vs ≡ Some us) × Within n o
  behind_them end row ts us h w apart = absurd (no_some us h)
  behind_them (tree l c o) row ts us h w apart =
      let y : (is_kind attributes (Some l) ≡ true) × (fill (followed ((spells c).all an_attribute) ((spells o).row row)) ts ≡ Some us) = where_true (is_kind attributes (Some l)) (followed ((spells c).all an_attribute) ((spells o).row row)) ts us h in
      let x : (vs : List Token) × (fill ((spells c).all an_attribute) ts ≡ Some vs) × (fill ((spells o).row row) vs ≡ Some us) = parts ((spells c).all an_attribute) ((spells o).row row) ts us y.1 in
      let a : Apart x.0 = apart o x.0 x.2 w.1 in
      (o, x.0, ap (λ z. elim z as (λ _. List Token) [ None ↦ [] | Some x ↦ x.1 ]) (attributes_read child n one_attribute c ts x.0 x.1 (within_below l c o n w) a.0 a.1), x.2, w.1)

  -- and of a word behind them
  pub word_behind : (f : Forest) (w : Text) (row : Row) (ts us : List Token) → fill ((spells f).row (attrs (says w row))) ts ≡ Some us → Within n f → (o : Forest) × (vs : List Token) × (behind_attributes child ts ≡ name w ∷ vs) × (fill ((spells o).row row) vs ≡ Some us)
  word_behind f w row ts us h v =
      let x : (o : Forest) × (vs : List Token) × (behind_attributes child ts ≡ vs) × (fill ((spells o).row (says w row)) vs ≡ Some us) × Within n o = behind_them f (says w row) ts us h v (λ o vs g u. word_apart o w row vs us g) in
      let y : (vs : List Token) × (x.1 ≡ name w ∷ vs) × (fill ((spells x.0).row row) vs ≡ Some us) = row_word x.0 w row x.1 us x.3 in
      (x.0, y.0, x.2 ∙ y.1, y.2)

  pub worded_ok : (C : List Token → Type 0) (w : Text) (row : Row) → RowOk child (read_part child) n C row → RowOk child (read_part child) n C (attrs (says w row))
  worded_ok C w row ok = attrs_ok C (says w row) (λ f vs us g u c. word_apart f w row vs us g) ok

-- a row with attributes begins with `@`, or with what is behind them
pub attrs_first : (f : Forest) (row : Row) (ts us : List Token) → fill ((spells f).row (attrs row)) ts ≡ Some us → ((vs : List Token) × (ts ≡ symbol is.At ∷ vs)) ⊎ ((o : Forest) × (fill ((spells o).row row) ts ≡ Some us))
attrs_first end row ts us h = absurd (no_some us h)
attrs_first (tree l c o) row ts us h =
    let y : (is_kind attributes (Some l) ≡ true) × (fill (followed ((spells c).all an_attribute) ((spells o).row row)) ts ≡ Some us) = where_true (is_kind attributes (Some l)) (followed ((spells c).all an_attribute) ((spells o).row row)) ts us h in
    let x : (vs : List Token) × (fill ((spells c).all an_attribute) ts ≡ Some vs) × (fill ((spells o).row row) vs ≡ Some us) = parts ((spells c).all an_attribute) ((spells o).row row) ts us y.1 in
    by c x.0 x.1 x.2 where
      by : (c : Forest) (vs : List Token) → fill ((spells c).all an_attribute) ts ≡ Some vs → fill ((spells o).row row) vs ≡ Some us → ((vs : List Token) × (ts ≡ symbol is.At ∷ vs)) ⊎ ((o : Forest) × (fill ((spells o).row row) ts ≡ Some us))
      by end vs g k = inr (o, subst (λ z. fill ((spells o).row row) z ≡ Some us) (turned (of_some ts vs g)) k)
      by (tree m d p) vs g k =
          let z : (ws : List Token) × (fill (first_slots m d (spells d) an_attribute) ts ≡ Some ws) × (fill ((spells p).all an_attribute) ws ≡ Some vs) = parts (first_slots m d (spells d) an_attribute) ((spells p).all an_attribute) ts vs g in
          inl (attribute_at m d ts z.0 z.1)

-- nodes of a sort, one behind the other, where what may come behind one is what another begins with
module _ (child : Sort → Reader) (n : ℕ) (s : Sort) (B : List Token → Type 0)
    (item : ReadsSort child n s B (child s))
    (starts : (l : Label) (c : Forest) (ts us : List Token) → fill (first_slots l c (spells c) s) ts ≡ Some us → Within n (tree l c end) → begins_child child s ts ≡ true)
    (next : (l : Label) (c : Forest) (ts us : List Token) → fill (first_slots l c (spells c) s) ts ≡ Some us → Within n (tree l c end) → B ts) where
  last_any : (g : Forest) (us : List Token) → B us → Last (begins_child child s) (child s) s n (λ l c us. B us) (λ l c ts us h w e. item l c ts us h w e) (λ l c ts us h w. starts l c ts us h w) (λ k d l c ts us h w. next l c ts us h w) g us
  last_any end us e = tt
  last_any (tree l c end) us e = e
  last_any (tree l c (tree k d o)) us e = last_any (tree k d o) us e

  pub run_reads : (g : Forest) (ts us : List Token) → fill ((spells g).all s) ts ≡ Some us → Within n g → begins_child child s us ≡ false → B us → all_of (begins_child child s) (child s) (length ts) ts ≡ Some (g, us)
  run_reads g ts us h w a e =
      all_reads (begins_child child s) (child s) s n (λ l c us. B us) (λ l c ts us h w e. item l c ts us h w e) (λ l c ts us h w. starts l c ts us h w) (λ k d l c ts us h w. next l c ts us h w)
      g (length ts) ts us (le_refl (length ts)) h w a (last_any g us e)
