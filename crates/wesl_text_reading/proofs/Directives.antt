-- Directives are read.
use Rattle.std.proofs.Common.{◌≡◌, ℕ, zero, suc, Bool, true, false, ◌&&◌, if◌then◌else◌, nat_le, List, [], ◌∷◌, ◌++◌, length, Some, None, refl, sym as turned, inl, inr, ap, ◌∙◌, subst, codes}
use Rattle.wesl_tree_names.specs.Path.{Text}
use Rattle.wesl_tree_syntax.specs.Tree.{Kind, kind, at, texts, end, tree, directive_node}
use Rattle.wesl_tree_syntax.specs.Kinds.{same_kind}
use Rattle.wesl_text_tokens.specs.declared.symbol.Symbol.TheVariants as is
use Rattle.wesl_text_tokens.specs.Symbols.{look_up}
use Rattle.wesl_text_tokens.specs.Tokens.{Token, name, symbol}
use Rattle.wesl_text_form.specs.Slots.{may, behind_if_there, left}
use Rattle.wesl_text_form.specs.Names.{are_words}
use Rattle.wesl_text_form.specs.Productions.{Sort, an_attribute, a_directive, a_bare_directive, a_word, a_rule, some_words, Row, nothing, sym, may_sym, says, own, leaf, attrs, row_of, rows_of_bare_directive}
use Rattle.wesl_text_form.specs.Spelling.{Label, Forest, spells, signed, trailing, parted, leaf_slots, first_slots, fits, stands_as}
use Rattle.wesl_text_reading.specs.Leaves.{read_leaf, words}
use Rattle.wesl_text_reading.specs.FirstTokens.{words_of_directives, by_word, labelled, begins_sign}
use Rattle.wesl_text_reading.specs.Reading.{Reader, node_of, node, any, read_part, ranked, at_level, reading}
use Rattle.wesl_text_reading.proofs.Filled.{no_some, of_some, no_true, fill}
use Rattle.wesl_text_reading.proofs.Takes.{where_true, first_parts}
use Rattle.wesl_text_reading.proofs.KindsAgain.{kind_is}
use Rattle.wesl_text_reading.proofs.Within.{Within, within_below}
use Rattle.wesl_text_reading.proofs.RowReads.{RowOk, row_reads}
use Rattle.wesl_text_reading.proofs.Types.{must_first}
use Rattle.wesl_text_reading.proofs.Chains.{row_token}
use Rattle.wesl_text_reading.proofs.Operands.{InRows, in_rows}
use Rattle.wesl_text_reading.proofs.Complete.{ReadsSort, node_from, node_by}
use Rattle.wesl_text_reading.proofs.Attributes.{word_reads, rule_reads}
use Rattle.wesl_text_reading.proofs.Runs.{Unopened, attributes_at}
use Rattle.wesl_text_reading.proofs.Worded.{word_behind, worded_ok}
use Rattle.wesl_text_reading.proofs.KindsRead.{row_may}
use Rattle.std.proofs.lemmas.Bool.{and_parts}

-- ---- words with commas between, before `;`

one_word : (a : Text) (us xs : List Token) → behind_if_there (symbol is.Comma) us ≡ symbol is.Semicolon ∷ xs → words (name a ∷ us) ≡ (a ∷ [], symbol is.Semicolon ∷ xs)
one_word a [] xs e = ap (λ z. words (name a ∷ z)) e
one_word a (name t ∷ us) xs e = ap (λ z. words (name a ∷ z)) e
one_word a (symbol is.Comma ∷ us) xs e = ap (λ z. words (name a ∷ symbol is.Comma ∷ z)) e
one_word a (u ∷ us) xs e = ap (λ z. words (name a ∷ z)) e

all_words : (a : Text) (ws : List Text) (ts vs xs : List Token) → left (parted is.Comma (a ∷ ws) ++ may (symbol is.Comma) ∷ []) ts ≡ Some vs → vs ≡ symbol is.Semicolon ∷ xs → (us : List Token) × (ts ≡ name a ∷ us) × (words ts ≡ (a ∷ ws, symbol is.Semicolon ∷ xs))
all_words a [] ts vs xs h q =
    let y : (us : List Token) × (ts ≡ name a ∷ us) × (left (may (symbol is.Comma) ∷ []) us ≡ Some vs) = must_first (name a) (may (symbol is.Comma) ∷ []) ts vs h in
    (y.0, y.1, ap words y.1 ∙ one_word a y.0 xs (of_some (behind_if_there (symbol is.Comma) y.0) vs y.2 ∙ q))
all_words a (b ∷ ws) ts vs xs h q =
    let y : (us : List Token) × (ts ≡ name a ∷ us) × (left (signed is.Comma ∷ parted is.Comma (b ∷ ws) ++ may (symbol is.Comma) ∷ []) us ≡ Some vs) = must_first (name a) (signed is.Comma ∷ parted is.Comma (b ∷ ws) ++ may (symbol is.Comma) ∷ []) ts vs h in
    let z : (us : List Token) × (y.0 ≡ symbol is.Comma ∷ us) × (left (parted is.Comma (b ∷ ws) ++ may (symbol is.Comma) ∷ []) us ≡ Some vs) = must_first (symbol is.Comma) (parted is.Comma (b ∷ ws) ++ may (symbol is.Comma) ∷ []) y.0 vs y.2 in
    let u : (us : List Token) × (z.0 ≡ name b ∷ us) × (words z.0 ≡ (b ∷ ws, symbol is.Semicolon ∷ xs)) = all_words b ws z.0 vs xs z.2 q in
    (y.0, y.1, ap words (y.1 ∙ ap (λ s. name a ∷ s) z.1) ∙ ap (λ s. let p : List Text × List Token = (a ∷ s.0, s.1) in p) u.2)

some_words_read : (l : Label) (o : Forest) (ts vs xs : List Token) → fill (leaf_slots some_words l o) ts ≡ Some vs → vs ≡ symbol is.Semicolon ∷ xs → read_leaf some_words ts ≡ Some (l, vs)
some_words_read (texts ws) o ts vs xs h q =
    let x : ((are_words ws && nat_le 1 (length ws)) ≡ true) × (fill (Some (trailing (parted is.Comma ws))) ts ≡ Some vs) = where_true (are_words ws && nat_le 1 (length ws)) (Some (trailing (parted is.Comma ws))) ts vs h in
    by ws (and_parts (are_words ws) (nat_le 1 (length ws)) x.0).1 x.1 where
      with_words : (a : Text) (ws : List Text) → left (parted is.Comma (a ∷ ws) ++ may (symbol is.Comma) ∷ []) ts ≡ Some vs → read_leaf some_words ts ≡ Some (texts (a ∷ ws), vs)
      with_words a ws g =
          let u : (us : List Token) × (ts ≡ name a ∷ us) × (words ts ≡ (a ∷ ws, symbol is.Semicolon ∷ xs)) = all_words a ws ts vs xs g q in
          ap (λ z. read_leaf some_words z) u.1 ∙ (ap (λ z. let p : List Text × List Token = words z in Some (texts p.0, p.1)) (turned u.1) ∙ (ap (λ z. Some (texts z.0, z.1)) u.2 ∙ ap (λ z. Some (texts (a ∷ ws), z)) (turned q)))

      by : (ws : List Text) → nat_le 1 (length ws) ≡ true → left (trailing (parted is.Comma ws)) ts ≡ Some vs → read_leaf some_words ts ≡ Some (texts ws, vs)
      by [] i g = absurd (no_true i)
      by (a ∷ []) i g = with_words a [] g
      by (a ∷ b ∷ ws) i g = with_words a (b ∷ ws) g
some_words_read (kind k) o ts vs xs h q = absurd (no_some vs h)
some_words_read l o ts vs xs h q = absurd (no_some vs h)

-- no `.` comes before what closes
no_period : (vs ws xs : List Token) → behind_if_there (symbol is.Comma) vs ≡ ws → ws ≡ symbol is.ParenRight ∷ xs → begins_sign is.Period vs ≡ false
no_period [] ws xs e g = refl
no_period (name t ∷ vs) ws xs e g = refl
no_period (symbol is.Comma ∷ vs) ws xs e g = refl
no_period (v ∷ vs) ws xs e g = ap (λ z. begins_sign is.Period z) (e ∙ g)

module _ (child : Sort → Reader) (n : ℕ) where
  abbrev Always : List Token → Type 0
  Always us = Unit {0}

  abbrev end_row : Row
  end_row = may_sym is.Comma (sym is.ParenRight (sym is.Semicolon nothing))

  abbrev pub rule_row : Row
  rule_row = sym is.ParenLeft (leaf a_word (sym is.Comma (leaf a_rule end_row)))

  abbrev pub words_row : Row
  words_row = leaf some_words (sym is.Semicolon nothing)

  rule_ok : RowOk child (read_part child) n Always rule_row
  rule_ok = (
    (λ l o ts vs us h g cu. word_reads l o ts vs h),
    (
      (λ l o ts vs us h g cu.
          let x : (ws : List Token) × (behind_if_there (symbol is.Comma) vs ≡ ws) × (fill ((spells o).row (sym is.ParenRight (sym is.Semicolon nothing))) ws ≡ Some us) = row_may o is.Comma (sym is.ParenRight (sym is.Semicolon nothing)) vs us g in
          let y : (xs : List Token) × (x.0 ≡ symbol is.ParenRight ∷ xs) × (fill ((spells o).row (sym is.Semicolon nothing)) xs ≡ Some us) = row_token o is.ParenRight (sym is.Semicolon nothing) x.0 us x.2 in
          rule_reads l o ts vs h (no_period vs x.0 y.0 x.1 y.1)),
      tt,
    ),
  )

  words_ok : RowOk child (read_part child) n Always words_row
  words_ok = ((λ l o ts vs us h g cu. let x : (xs : List Token) × (vs ≡ symbol is.Semicolon ∷ xs) × (fill ((spells o).row nothing) xs ≡ Some us) = row_token o is.Semicolon nothing vs us g in some_words_read l o ts vs x.0 h x.1), tt)

  module _ (one_attribute : ReadsSort child n an_attribute Unopened (child an_attribute)) where
    known_directive : (k : Kind) (w : Text) (row : Row) (c : Forest) (r : Row) (ts us : List Token) → labelled kind (look_up w words_of_directives) ≡ Some (kind k) → attrs (says w row) ≡ r → row_of {I = Text} a_bare_directive (kind k) ≡ Some r → (fits (kind k) c && stands_as a_bare_directive (kind k) c) ≡ true
        → fill ((spells c).row r) ts ≡ Some us → RowOk child (read_part child) n Always row → Within n c → node child a_bare_directive ts ≡ Some (node_of (kind k) c, us)
    known_directive k w row c r ts us e q o f h ok v =
        let g : fill ((spells c).row (attrs (says w row))) ts ≡ Some us = subst (λ z. fill ((spells c).row z) ts ≡ Some us) (turned q) h in
        node_from child a_bare_directive (kind k) c (attrs (says w row)) ts us (o ∙ ap (λ z. Some z) (turned q)) f (ap (λ z. labelled kind (by_word words_of_directives z)) (word_behind child n one_attribute c w row ts us g v).2 ∙ e)
        (row_reads child (read_part child) n c (attrs (says w row)) Always (worded_ok child n one_attribute Always w row ok) ts us g v tt)

    of_row : (k : Kind) (c : Forest) (r : Row) (ts us : List Token) → row_of {I = Text} a_bare_directive (kind k) ≡ Some r → (fits (kind k) c && stands_as a_bare_directive (kind k) c) ≡ true → fill ((spells c).row r) ts ≡ Some us → Within n c
        → InRows rows_of_bare_directive k r → node child a_bare_directive ts ≡ Some (node_of (kind k) c, us)
    of_row k c r ts us o f h w (inl q) = known_directive k (codes "diagnostic") rule_row c r ts us (ap (λ z. Some (kind z)) (turned q.0)) q.1 o f h rule_ok w
    of_row k c r ts us o f h w (inr (inl q)) = known_directive k (codes "enable") words_row c r ts us (ap (λ z. Some (kind z)) (turned q.0)) q.1 o f h words_ok w
    of_row k c r ts us o f h w (inr (inr (inl q))) = known_directive k (codes "requires") words_row c r ts us (ap (λ z. Some (kind z)) (turned q.0)) q.1 o f h words_ok w
    of_row k c r ts us o f h w (inr (inr (inr q))) = absurd q

    pub bare_directive_reads : ReadsSort child n a_bare_directive Always (node child a_bare_directive)
    bare_directive_reads (kind k) c ts us h w e =
        let x : (r : Row) × (row_of {I = Text} a_bare_directive (kind k) ≡ Some r) × ((fits (kind k) c && stands_as a_bare_directive (kind k) c) ≡ true) × (fill ((spells c).row r) ts ≡ Some us) = first_parts (kind k) c (spells c) a_bare_directive ts us h in
        of_row k c x.0 ts us x.1 x.2 x.3 (within_below (kind k) c end n w) (in_rows rows_of_bare_directive k x.0 x.1)
    bare_directive_reads (at k zero zero) c ts us h w e = absurd (no_some us h)
    bare_directive_reads (at k zero (suc f)) c ts us h w e = absurd (no_some us h)
    bare_directive_reads (at k (suc s) f) c ts us h w e = absurd (no_some us h)
    bare_directive_reads l c ts us h w e = absurd (no_some us h)

  pub directive_is : (l : Label) (r : Row) → row_of a_directive l ≡ Some r → (l ≡ at directive_node 0 0) × (own a_bare_directive nothing ≡ r)
  directive_is (at k zero zero) r h = by (same_kind directive_node k) refl h where
    by : (b : Bool) → same_kind directive_node k ≡ b → (if b then Some (own a_bare_directive nothing) else None) ≡ Some r → ((let l : Label = at k 0 0 in l) ≡ at directive_node 0 0) × (own a_bare_directive nothing ≡ r)
    by true e g = (ap (λ z. let l : Label = at z 0 0 in l) (turned (kind_is directive_node k e)), of_some (own a_bare_directive nothing) r g)
    by false e g = absurd (no_some r g)
  directive_is (kind k) r h = absurd (no_some r h)
  directive_is l r h = absurd (no_some r h)

  directive_reads : ReadsSort child n a_bare_directive Always (child a_bare_directive) → ReadsSort child n a_directive Always (node child a_directive)
  directive_reads bare l c ts us h w e =
      node_by child n a_directive l (at directive_node 0 0) c (own a_bare_directive nothing) Always ts us h refl (directive_is l)
      ((λ l c ts vs g v rest. bare l c ts vs g v tt), tt) (within_below l c end n w) tt

-- a directive that is said is read
pub directive_reads_at : (n : ℕ) (l : Label) (c : Forest) (ts us : List Token) → fill (first_slots l c (spells c) a_directive) ts ≡ Some us → Within n (tree l c end) → Unit {0} → reading n a_directive ts ≡ Some (node_of l c, us)
directive_reads_at n l c ts us h w e = directive_reads (ranked (at_level n any) 3) n (λ l c ts us h w e. bare_directive_reads (ranked (at_level n any) 2) n (attributes_at n) l c ts us h w e) l c ts us h w e
