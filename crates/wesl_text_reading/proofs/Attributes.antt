-- Attributes are read.
use Rattle.std.proofs.Common.{◌≡◌, ◌⊎◌, ℕ, zero, suc, ◌==◌, Bool, true, false, not, ◌&&◌, ◌||◌, if◌then◌else◌, List, [], ◌∷◌, ◌++◌, map, length, Some, None, refl, sym as turned, inl, inr, ap, ◌∙◌, subst, codes, bytes_eq, eqb-true, arith}
use Rattle.wesl_tree_base.specs.Pieces.{cut, before_first}
use Rattle.wesl_tree_names.specs.Path.{Text}
use Rattle.wesl_tree_syntax.specs.Tree.{Kind, kind, at, text, texts, end, tree, leaf as tree_leaf, branch, present, absent, list, custom, workgroup_size}
use Rattle.wesl_text_tokens.specs.declared.symbol.Symbol.TheVariants as is
use Rattle.wesl_text_tokens.specs.Symbols.{look_up}
use Rattle.wesl_text_tokens.specs.Tokens.{Token, name, symbol, close_list}
use Rattle.wesl_text_form.specs.Slots.{may, behind_if_there, left}
use Rattle.wesl_text_form.specs.Names.{is_among, is_word, are_words, known_attributes}
use Rattle.wesl_text_form.specs.Productions.{Sort, an_expression, a_bare_attribute, a_word, a_custom, a_rule, one_or_two, Row, nothing, sym, may_sym, says, own, leaf, commas, optional, row_of, rows_of_bare_attribute}
use Rattle.wesl_text_form.specs.Spelling.{Label, Forest, Slots, spells, followed, named, signed, trailing, parted, leaf_slots, first_slots, fits, stands_as, is_kind, is_end, label_at, dot, is_one_or_two}
use Rattle.wesl_text_reading.specs.Leaves.{Read, after, read_leaf, words, where_so}
use Rattle.wesl_text_reading.specs.FirstTokens.{words_of_attributes, attribute_label, or_kind, begins_sign, begins_expression, goes_on_behind, behind_first}
use Rattle.wesl_text_reading.specs.Reading.{Reader, node_of, node, and_others, begins_post, begins_row, read_row, read_part}
use Rattle.wesl_text_reading.proofs.Classes.{denied}
use Rattle.wesl_text_reading.proofs.Filled.{no_some, of_some, no_true, fill, parts, one, stands}
use Rattle.wesl_text_reading.proofs.Takes.{chosen, where_true, first_parts}
use Rattle.wesl_text_reading.proofs.Within.{Within, within_below}
use Rattle.wesl_text_reading.proofs.RowReads.{Rest, RowOk, row_reads, joined}
use Rattle.wesl_text_reading.proofs.KindsAgain.{label_is, end_is}
use Rattle.wesl_text_reading.proofs.Types.{must_first}
use Rattle.wesl_text_reading.proofs.Chains.{nothing_row, row_token}
use Rattle.wesl_text_reading.proofs.Operands.{Ended, InRows, in_rows, own_first, leaf_first, row_optional, begins_one}
use Rattle.wesl_text_reading.proofs.Complete.{ReadsSort, node_from, list_of_expressions}
use Rattle.std.proofs.lemmas.Bool.{and_parts}

-- a word that a row says
pub row_word : (f : Forest) (w : Text) (row : Row) (ts us : List Token) → fill ((spells f).row (says w row)) ts ≡ Some us → (vs : List Token) × (ts ≡ name w ∷ vs) × (fill ((spells f).row row) vs ≡ Some us)
row_word f w row ts us h = with_forest f h where
  found : (b : Slots) → fill (followed (Some (named w ∷ [])) b) ts ≡ Some us → (vs : List Token) × (ts ≡ name w ∷ vs) × (fill b vs ≡ Some us)
  found b g = let x : (vs : List Token) × (fill (Some (named w ∷ [])) ts ≡ Some vs) × (fill b vs ≡ Some us) = parts (Some (named w ∷ [])) b ts us g in (x.0, stands (name w) ts x.0 (one (named w) ts x.0 x.1), x.2)

  with_forest : (f : Forest) → fill ((spells f).row (says w row)) ts ≡ Some us → (vs : List Token) × (ts ≡ name w ∷ vs) × (fill ((spells f).row row) vs ≡ Some us)
  with_forest end g = found ((spells end).row row) g
  with_forest (tree l c o) g = found ((spells (tree l c o)).row row) g

-- the end of operands: a comma that may stand, and `)`
abbrev pub closing_row : Row
closing_row = may_sym is.Comma (sym is.ParenRight nothing)

closing_ends : (f : Forest) (vs us : List Token) → fill ((spells f).row closing_row) vs ≡ Some us → Ended vs
closing_ends f vs us h = with_forest f h where
  by : (xs : List Token) (vs : List Token) → vs ≡ symbol is.ParenRight ∷ xs → Ended vs
  by xs vs e = subst Ended (turned e) (refl, ((refl, refl), refl), refl)

  at : (vs : List Token) (ws xs : List Token) → behind_if_there (symbol is.Comma) vs ≡ ws → ws ≡ symbol is.ParenRight ∷ xs → Ended vs
  at [] ws xs e g = by xs [] (e ∙ g)
  at (name t ∷ vs) ws xs e g = by xs (name t ∷ vs) (e ∙ g)
  at (symbol is.Comma ∷ vs) ws xs e g = (refl, ((refl, refl), refl), refl)
  at (v ∷ vs) ws xs e g = by xs (v ∷ vs) (e ∙ g)

  found : (f : Forest) → fill (followed (Some (may (symbol is.Comma) ∷ [])) ((spells f).row (sym is.ParenRight nothing))) vs ≡ Some us → Ended vs
  found f g =
      let x : (ws : List Token) × (fill (Some (may (symbol is.Comma) ∷ [])) vs ≡ Some ws) × (fill ((spells f).row (sym is.ParenRight nothing)) ws ≡ Some us) = parts (Some (may (symbol is.Comma) ∷ [])) ((spells f).row (sym is.ParenRight nothing)) vs us g in
      let y : (xs : List Token) × (x.0 ≡ symbol is.ParenRight ∷ xs) × (fill ((spells f).row nothing) xs ≡ Some us) = row_token f is.ParenRight nothing x.0 us x.2 in
      at vs x.0 y.0 (of_some (behind_if_there (symbol is.Comma) vs) x.0 (one (may (symbol is.Comma)) vs x.0 x.1)) y.1

  with_forest : (f : Forest) → fill ((spells f).row closing_row) vs ≡ Some us → Ended vs
  with_forest end g = found end g
  with_forest (tree l c o) g = found (tree l c o) g

no_period : (vs : List Token) → begins_post vs ≡ false → begins_sign is.Period vs ≡ false
no_period vs h = at (begins_sign is.Period vs) h where
  at : (b : Bool) → (b || begins_sign is.BracketLeft vs) ≡ false → b ≡ false
  at true g = absurd (no_true (turned g))
  at false g = refl

-- a word is read
pub word_reads : (l : Label) (o : Forest) (ts vs : List Token) → fill (leaf_slots a_word l o) ts ≡ Some vs → read_leaf a_word ts ≡ Some (l, vs)
word_reads (text t) o ts vs h = ap (λ z. read_leaf a_word z) (stands (name t) ts vs (one (named t) ts vs (where_true (is_word t) (Some (named t ∷ [])) ts vs h).1))
word_reads (kind k) o ts vs h = absurd (no_some vs h)
word_reads l o ts vs h = absurd (no_some vs h)

-- a word that is no attribute known by name
custom_reads : (l : Label) (o : Forest) (ts vs : List Token) → fill (leaf_slots a_custom l o) ts ≡ Some vs → (t : Text) × (is_among known_attributes t ≡ false) × (ts ≡ name t ∷ vs) × (read_leaf a_custom ts ≡ Some (l, vs))
custom_reads (text t) o ts vs h =
    let x : ((is_word t && not (is_among known_attributes t)) ≡ true) × (fill (Some (named t ∷ [])) ts ≡ Some vs) = where_true (is_word t && not (is_among known_attributes t)) (Some (named t ∷ [])) ts vs h in
    let e : ts ≡ name t ∷ vs = stands (name t) ts vs (one (named t) ts vs x.1) in
    let y : not (is_among known_attributes t) ≡ true = (and_parts (is_word t) (not (is_among known_attributes t)) x.0).1 in
    (t, denied (is_among known_attributes t) y, e, ap (λ z. read_leaf a_custom z) e ∙ ap (λ b. if b then Some (text t, vs) else None) y)
custom_reads (kind k) o ts vs h = absurd (no_some vs h)
custom_reads l o ts vs h = absurd (no_some vs h)

-- such a word stands for no other attribute
unknown : (ps : List (Text × Kind)) (t : Text) → is_among (map (λ p. p.0) ps) t ≡ false → look_up t ps ≡ None
unknown [] t h = refl
unknown (p ∷ ps) t h = at (unknown ps t) (bytes_eq t p.0) h where
  at : (is_among (map (λ p. p.0) ps) t ≡ false → look_up t ps ≡ None) → (b : Bool) → (b || is_among (map (λ p. p.0) ps) t) ≡ false → (if b then Some p.1 else look_up t ps) ≡ None
  at others true g = absurd (no_true (turned g))
  at others false g = others g

-- ---- rules: one word, or two with `.` between

-- texts with a byte between
abbrev pub with_between : ℕ → List Text → Text
with_between c [] = []
with_between c (t ∷ []) = t
with_between c (t ∷ u ∷ us) = t ++ c ∷ with_between c (u ∷ us)

one_byte : (c x : ℕ) (ps : List Text) → with_between c (before_first x ps) ≡ x ∷ with_between c ps
one_byte c x [] = refl
one_byte c x (p ∷ []) = refl
one_byte c x (p ∷ q ∷ ps) = refl

pub cut_filled : (c : ℕ) (t : Text) → (p : Text) × (ps : List Text) × (cut c t ≡ p ∷ ps)
cut_filled c [] = ([], [], refl)
cut_filled c (x ∷ xs) = at (cut_filled c xs) (x == c) where
  at : ((p : Text) × (ps : List Text) × (cut c xs ≡ p ∷ ps)) → (b : Bool) → (p : Text) × (ps : List Text) × ((if b then [] ∷ cut c xs else before_first x (cut c xs)) ≡ p ∷ ps)
  at y true = ([], cut c xs, refl)
  at y false = (x ∷ y.0, y.1, ap (before_first x) y.2)

pub between_again : (c : ℕ) (t : Text) → with_between c (cut c t) ≡ t
between_again c [] = refl
between_again c (x ∷ xs) = at (between_again c xs) (cut_filled c xs) (x == c) (eqb-true x c) where
  at : with_between c (cut c xs) ≡ xs → ((p : Text) × (ps : List Text) × (cut c xs ≡ p ∷ ps)) → (b : Bool) → (b ≡ true → x ≡ c) → with_between c (if b then [] ∷ cut c xs else before_first x (cut c xs)) ≡ x ∷ xs
  at h y true e = ap (λ z. with_between c ([] ∷ z)) y.2 ∙ (ap (λ z. c ∷ with_between c z) (turned y.2) ∙ (ap (λ z. c ∷ z) h ∙ ap (λ z. z ∷ xs) (turned (e refl))))
  at h y false e = one_byte c x (cut c xs) ∙ ap (λ z. x ∷ z) h

rule_alone : (a : Text) (vs : List Token) → begins_sign is.Period vs ≡ false → read_leaf a_rule (name a ∷ vs) ≡ Some (text a, vs)
rule_alone a (symbol is.Period ∷ name u ∷ vs) h = absurd (no_true (turned h))
rule_alone a vs h = refl

pub too_many : (n : ℕ) → is_one_or_two (suc (suc (suc n))) ≡ true → ⊥
too_many n h = at (suc (suc (suc n)) == 1) refl h where
  at : (b : Bool) → (suc (suc (suc n)) == 1) ≡ b → (b || (suc (suc (suc n)) == 2)) ≡ true → ⊥
  at true e g = let q : suc (suc (suc n)) ≡ 1 = eqb-true (suc (suc (suc n))) 1 e in let z : ⊥ = omega arith in z
  at false e g = let q : suc (suc (suc n)) ≡ 2 = eqb-true (suc (suc (suc n))) 2 g in let z : ⊥ = omega arith in z

pub rule_reads : (l : Label) (o : Forest) (ts vs : List Token) → fill (leaf_slots a_rule l o) ts ≡ Some vs → begins_sign is.Period vs ≡ false → read_leaf a_rule ts ≡ Some (l, vs)
rule_reads (text t) o ts vs h k =
    let x : ((are_words (cut dot t) && is_one_or_two (length (cut dot t))) ≡ true) × (fill (Some (parted is.Period (cut dot t))) ts ≡ Some vs) = where_true (are_words (cut dot t) && is_one_or_two (length (cut dot t))) (Some (parted is.Period (cut dot t))) ts vs h in
    by (cut dot t) (and_parts (are_words (cut dot t)) (is_one_or_two (length (cut dot t))) x.0).1 x.1 (between_again dot t) where
      by : (ps : List Text) → is_one_or_two (length ps) ≡ true → left (parted is.Period ps) ts ≡ Some vs → with_between dot ps ≡ t → read_leaf a_rule ts ≡ Some (text t, vs)
      by [] i g e = absurd (no_true i)
      by (a ∷ []) i g e =
          let y : (us : List Token) × (ts ≡ name a ∷ us) × (left [] us ≡ Some vs) = must_first (name a) [] ts vs g in
          ap (λ z. read_leaf a_rule z) (y.1 ∙ ap (λ z. name a ∷ z) (of_some y.0 vs y.2)) ∙ (rule_alone a vs k ∙ ap (λ z. Some (text z, vs)) e)
      by (a ∷ b ∷ []) i g e =
          let y : (us : List Token) × (ts ≡ name a ∷ us) × (left (signed is.Period ∷ named b ∷ []) us ≡ Some vs) = must_first (name a) (signed is.Period ∷ named b ∷ []) ts vs g in
          let z : (us : List Token) × (y.0 ≡ symbol is.Period ∷ us) × (left (named b ∷ []) us ≡ Some vs) = must_first (symbol is.Period) (named b ∷ []) y.0 vs y.2 in
          let u : (us : List Token) × (z.0 ≡ name b ∷ us) × (left [] us ≡ Some vs) = must_first (name b) [] z.0 vs z.2 in
          ap (λ s. read_leaf a_rule s) (y.1 ∙ (ap (λ s. name a ∷ s) z.1 ∙ (ap (λ s. name a ∷ symbol is.Period ∷ s) u.1 ∙ ap (λ s. name a ∷ symbol is.Period ∷ name b ∷ s) (of_some u.0 vs u.2))))
          ∙ ap (λ s. Some (text s, vs)) e
      by (a ∷ b ∷ c ∷ ps) i g e = absurd (too_many (length ps) i)
rule_reads (kind k) o ts vs h e = absurd (no_some vs h)
rule_reads l o ts vs h e = absurd (no_some vs h)

-- ---- one word or two, with commas

last_word : (a : Text) (us xs : List Token) → behind_if_there (symbol is.Comma) us ≡ symbol is.ParenRight ∷ xs → words (name a ∷ us) ≡ (a ∷ [], symbol is.ParenRight ∷ xs)
last_word a [] xs e = ap (λ z. words (name a ∷ z)) e
last_word a (name t ∷ us) xs e = ap (λ z. words (name a ∷ z)) e
last_word a (symbol is.Comma ∷ us) xs e = ap (λ z. words (name a ∷ symbol is.Comma ∷ z)) e
last_word a (u ∷ us) xs e = ap (λ z. words (name a ∷ z)) e

pub words_read : (l : Label) (o : Forest) (ts vs xs : List Token) → fill (leaf_slots one_or_two l o) ts ≡ Some vs → vs ≡ symbol is.ParenRight ∷ xs → read_leaf one_or_two ts ≡ Some (l, vs)
words_read (texts ws) o ts vs xs h q =
    let x : ((are_words ws && is_one_or_two (length ws)) ≡ true) × (fill (Some (trailing (parted is.Comma ws))) ts ≡ Some vs) = where_true (are_words ws && is_one_or_two (length ws)) (Some (trailing (parted is.Comma ws))) ts vs h in
    by ws (and_parts (are_words ws) (is_one_or_two (length ws)) x.0).1 x.1 where
      by : (ws : List Text) → is_one_or_two (length ws) ≡ true → left (trailing (parted is.Comma ws)) ts ≡ Some vs → read_leaf one_or_two ts ≡ Some (texts ws, vs)
      by [] i g = absurd (no_true i)
      by (a ∷ []) i g =
          let y : (us : List Token) × (ts ≡ name a ∷ us) × (left (may (symbol is.Comma) ∷ []) us ≡ Some vs) = must_first (name a) (may (symbol is.Comma) ∷ []) ts vs g in
          ap (λ z. read_leaf one_or_two z) y.1
          ∙ (ap (λ z. where_so (is_one_or_two (length z.0)) (texts z.0) z.1) (last_word a y.0 xs (of_some (behind_if_there (symbol is.Comma) y.0) vs y.2 ∙ q)) ∙ ap (λ z. Some (texts (a ∷ []), z)) (turned q))
      by (a ∷ b ∷ []) i g =
          let y : (us : List Token) × (ts ≡ name a ∷ us) × (left (signed is.Comma ∷ named b ∷ may (symbol is.Comma) ∷ []) us ≡ Some vs) = must_first (name a) (signed is.Comma ∷ named b ∷ may (symbol is.Comma) ∷ []) ts vs g in
          let z : (us : List Token) × (y.0 ≡ symbol is.Comma ∷ us) × (left (named b ∷ may (symbol is.Comma) ∷ []) us ≡ Some vs) = must_first (symbol is.Comma) (named b ∷ may (symbol is.Comma) ∷ []) y.0 vs y.2 in
          let u : (us : List Token) × (z.0 ≡ name b ∷ us) × (left (may (symbol is.Comma) ∷ []) us ≡ Some vs) = must_first (name b) (may (symbol is.Comma) ∷ []) z.0 vs z.2 in
          ap (λ s. read_leaf one_or_two s) (y.1 ∙ (ap (λ s. name a ∷ s) z.1 ∙ ap (λ s. name a ∷ symbol is.Comma ∷ s) u.1))
          ∙ (ap (λ s. where_so (is_one_or_two (length (a ∷ s.0))) (texts (a ∷ s.0)) s.1) (last_word b u.0 xs (of_some (behind_if_there (symbol is.Comma) u.0) vs u.2 ∙ q)) ∙ ap (λ s. Some (texts (a ∷ b ∷ []), s)) (turned q))
      by (a ∷ b ∷ c ∷ ws) i g = absurd (too_many (length ws) i)
words_read (kind k) o ts vs xs h q = absurd (no_some vs h)
words_read l o ts vs xs h q = absurd (no_some vs h)

-- where an expression begins, a list goes on
goes_on_there : (ts : List Token) → begins_expression ts ≡ true → goes_on_behind ts ≡ true
goes_on_there [] h = absurd (no_true h)
goes_on_there (symbol is.ParenRight ∷ ts) h = absurd (no_true h)
goes_on_there (close_list ∷ ts) h = absurd (no_true h)
goes_on_there ts h = refl

-- what closes operands is no further one
closing_stays : (f : Forest) (vs us : List Token) → fill ((spells f).row closing_row) vs ≡ Some us → (begins_sign is.Comma vs && goes_on_behind (behind_first vs)) ≡ false
closing_stays f vs us h = with_forest f h where
  at : (vs : List Token) (ws xs : List Token) → behind_if_there (symbol is.Comma) vs ≡ ws → ws ≡ symbol is.ParenRight ∷ xs → (begins_sign is.Comma vs && goes_on_behind (behind_first vs)) ≡ false
  at [] ws xs e g = refl
  at (name t ∷ vs) ws xs e g = refl
  at (symbol is.Comma ∷ vs) ws xs e g = ap goes_on_behind (e ∙ g)
  at (v ∷ vs) ws xs e g = refl

  found : (f : Forest) → fill (followed (Some (may (symbol is.Comma) ∷ [])) ((spells f).row (sym is.ParenRight nothing))) vs ≡ Some us → (begins_sign is.Comma vs && goes_on_behind (behind_first vs)) ≡ false
  found f g =
      let x : (ws : List Token) × (fill (Some (may (symbol is.Comma) ∷ [])) vs ≡ Some ws) × (fill ((spells f).row (sym is.ParenRight nothing)) ws ≡ Some us) = parts (Some (may (symbol is.Comma) ∷ [])) ((spells f).row (sym is.ParenRight nothing)) vs us g in
      let y : (xs : List Token) × (x.0 ≡ symbol is.ParenRight ∷ xs) × (fill ((spells f).row nothing) xs ≡ Some us) = row_token f is.ParenRight nothing x.0 us x.2 in
      at vs x.0 y.0 (of_some (behind_if_there (symbol is.Comma) vs) x.0 (one (may (symbol is.Comma)) vs x.0 x.1)) y.1

  with_forest : (f : Forest) → fill ((spells f).row closing_row) vs ≡ Some us → (begins_sign is.Comma vs && goes_on_behind (behind_first vs)) ≡ false
  with_forest end g = found end g
  with_forest (tree l c o) g = found (tree l c o) g

-- whether the children of an attribute of another name have no operands among them
abbrev pub lacks_operands : Forest → Bool
lacks_operands (tree m below (tree (kind absent) end end)) = true
lacks_operands _ = false

abbrev pub is_open_custom : Label → Forest → Bool
is_open_custom (kind custom) c = lacks_operands c
is_open_custom _ c = false

-- no `(` comes behind, or the attribute's own operands end it
abbrev pub Parted : Label → Forest → List Token → Type 0
Parted l c us = (begins_sign is.ParenLeft us ≡ false) ⊎ (is_open_custom l c ≡ false)

module _ (child : Sort → Reader) (n : ℕ) where
  -- the label of an attribute by its word
  label_by : (f : Forest) (w : Text) (row : Row) (k : Kind) (ts us : List Token) → fill ((spells f).row (sym is.At (says w row))) ts ≡ Some us → or_kind custom (look_up w words_of_attributes) ≡ Some (kind k) → attribute_label ts ≡ Some (kind k)
  label_by f w row k ts us h e =
      let x : (vs : List Token) × (ts ≡ symbol is.At ∷ vs) × (fill ((spells f).row (says w row)) vs ≡ Some us) = row_token f is.At (says w row) ts us h in
      let y : (vs : List Token) × (x.0 ≡ name w ∷ vs) × (fill ((spells f).row row) vs ≡ Some us) = row_word f w row x.0 us x.2 in
      ap attribute_label (x.1 ∙ ap (λ z. symbol is.At ∷ z) y.1) ∙ e

  -- what a row of operands may go on with: another behind a comma, or what closes them
  abbrev pub one_more : Row
  one_more = sym is.Comma (own an_expression nothing)

  more_ends : (f : Forest) (row : Row) (vs us : List Token) → ((g : Forest) → fill ((spells g).row row) vs ≡ Some us → Ended vs) → fill ((spells f).row (optional one_more row)) vs ≡ Some us → Ended vs
  more_ends f row vs us k h = by (row_optional f one_more row vs us h) where
    by : ((g : Forest) × (fill ((spells g).row row) vs ≡ Some us)) ⊎ ((d : Forest) × (g : Forest) × (ws : List Token) × (fill ((spells d).row one_more) vs ≡ Some ws) × (fill ((spells g).row row) ws ≡ Some us)) → Ended vs
    by (inl x) = k x.0 x.1
    by (inr x) = subst Ended (turned (row_token x.0 is.Comma (own an_expression nothing) vs x.2 x.3).1) (refl, ((refl, refl), refl), refl)

  more_begins : (f : Forest) (ts us : List Token) → fill ((spells f).row one_more) ts ≡ Some us → begins_row child one_more ts ≡ true
  more_begins f ts us h =
      let x : (vs : List Token) × (ts ≡ symbol is.Comma ∷ vs) × (fill ((spells f).row (own an_expression nothing)) vs ≡ Some us) = row_token f is.Comma (own an_expression nothing) ts us h in
      let y : (l : Label) × (c : Forest) × (o : Forest) × (ws : List Token) × (f ≡ tree l c o) × (fill (first_slots l c (spells c) an_expression) x.0 ≡ Some ws) × (fill ((spells o).row nothing) ws ≡ Some us) = own_first f an_expression nothing x.0 us x.2 in
      ap (λ z. begins_row child one_more z) x.1 ∙ goes_on_there x.0 (begins_one y.0 y.1 x.0 y.3 y.5)

  module _ (exprs : ReadsSort child n an_expression Ended (child an_expression)) where
    abbrev pub Always : List Token → Type 0
    Always us = Unit {0}

    last_ok : RowOk child (read_part child) n Always (optional one_more closing_row)
    last_ok = (
      (λ vs rest. closing_stays rest.0 vs rest.1 rest.2),
      (λ f ts vs h w rest. more_begins f ts vs h),
      ((λ l c ts vs g u rest. exprs l c ts vs g u (subst Ended (turned (nothing_row rest.0 vs rest.1 rest.2).1) (closing_ends rest.4.0 rest.1 rest.4.1 rest.4.2))), tt),
      tt,
    )

    more_ok : RowOk child (read_part child) n (Rest child (read_part child) n Always (optional one_more closing_row)) one_more
    more_ok = ((λ l c ts vs g u rest. exprs l c ts vs g u (subst Ended (turned (nothing_row rest.0 vs rest.1 rest.2).1) (more_ends rest.4.0 closing_row rest.1 rest.4.1 (λ g h. closing_ends g rest.1 rest.4.1 h) rest.4.2))), tt)

    -- two further operands, of which the second stands only behind the first
    sizes_read : (o : Forest) (ts us : List Token) → fill ((spells o).row (optional one_more (optional one_more closing_row))) ts ≡ Some us → (not (is_kind absent (label_at 0 o)) || is_kind absent (label_at 1 o)) ≡ true → Within n o
        → read_row child (read_part child) (optional one_more (optional one_more closing_row)) ts ≡ Some (o, us)
    sizes_read end ts us h f w = absurd (no_some us h)
    sizes_read (tree l c o) ts us h f w = at (chosen (is_kind absent (Some l) && is_end c) ((spells o).row (optional one_more closing_row)) (if is_kind present (Some l) then followed ((spells c).row one_more) ((spells o).row (optional one_more closing_row)) else None) ts us h) where
      choice : Bool → Read Forest
      choice b = elim b as (λ _. Read Forest) [
        | false ↦ and_others (branch absent []) (read_row child (read_part child) (optional one_more closing_row) ts)
        | true ↦ after (read_row child (read_part child) one_more ts) (λ f us. and_others (node_of (kind present) f) (read_row child (read_part child) (optional one_more closing_row) us))
      ]

      stays : (p : Forest) → fill ((spells p).row (optional one_more closing_row)) ts ≡ Some us → is_kind absent (label_at 0 p) ≡ true → begins_row child one_more ts ≡ false
      stays end g e = absurd (no_some us g)
      stays (tree m d q) g e = from (chosen (is_kind absent (Some m) && is_end d) ((spells q).row closing_row) (if is_kind present (Some m) then followed ((spells d).row one_more) ((spells q).row closing_row) else None) ts us g) where
        from : (((is_kind absent (Some m) && is_end d) ≡ true) × (fill ((spells q).row closing_row) ts ≡ Some us)) ⊎ (((is_kind absent (Some m) && is_end d) ≡ false) × (fill (if is_kind present (Some m) then followed ((spells d).row one_more) ((spells q).row closing_row) else None) ts ≡ Some us)) → begins_row child one_more ts ≡ false
        from (inl x) = closing_stays q ts us x.1
        from (inr x) = absurd (no_true (ap (λ z. is_kind present (Some z)) (turned (label_is absent m e)) ∙ (where_true (is_kind present (Some m)) (followed ((spells d).row one_more) ((spells q).row closing_row)) ts us x.1).0))

      at : (((is_kind absent (Some l) && is_end c) ≡ true) × (fill ((spells o).row (optional one_more closing_row)) ts ≡ Some us)) ⊎ (((is_kind absent (Some l) && is_end c) ≡ false) × (fill (if is_kind present (Some l) then followed ((spells c).row one_more) ((spells o).row (optional one_more closing_row)) else None) ts ≡ Some us)) → read_row child (read_part child) (optional one_more (optional one_more closing_row)) ts ≡ Some (tree l c o, us)
      at (inl x) =
          let y : (is_kind absent (Some l) ≡ true) × (is_end c ≡ true) = and_parts (is_kind absent (Some l)) (is_end c) x.0 in
          let e : is_kind absent (label_at 0 o) ≡ true = ap (λ b. not b || is_kind absent (label_at 0 o)) (turned y.0) ∙ f in
          ap (λ b. choice b) (stays o x.1 e)
          ∙ (ap (λ z. and_others (branch absent []) z) (row_reads child (read_part child) n o (optional one_more closing_row) Always last_ok ts us x.1 w.1 tt)
          ∙ (ap (λ z. Some (tree z end o, us)) (turned (label_is absent l y.0)) ∙ ap (λ z. Some (tree l z o, us)) (turned (end_is c y.1))))
      at (inr x) =
          let y : (is_kind present (Some l) ≡ true) × (fill (followed ((spells c).row one_more) ((spells o).row (optional one_more closing_row))) ts ≡ Some us) = where_true (is_kind present (Some l)) (followed ((spells c).row one_more) ((spells o).row (optional one_more closing_row))) ts us x.1 in
          let z : (vs : List Token) × (fill ((spells c).row one_more) ts ≡ Some vs) × (fill ((spells o).row (optional one_more closing_row)) vs ≡ Some us) = parts ((spells c).row one_more) ((spells o).row (optional one_more closing_row)) ts us y.1 in
          ap (λ b. choice b) (more_begins c ts z.0 z.1)
          ∙ (joined (λ f. node_of (kind present) f) (read_row child (read_part child) one_more ts) c z.0 (read_row child (read_part child) (optional one_more closing_row)) o us
          (row_reads child (read_part child) n c one_more (Rest child (read_part child) n Always (optional one_more closing_row)) more_ok ts z.0 z.1 (within_below l c o n w) (o, us, z.2, w.1, tt))
          (row_reads child (read_part child) n o (optional one_more closing_row) Always last_ok z.0 us z.2 w.1 tt)
          ∙ ap (λ z. Some (tree z c o, us)) (turned (label_is present l y.0)))

    -- rows of their own: one word, a word and a rule, one or two words, sizes, and other names
    abbrev pub word_row : Row
    word_row = sym is.ParenLeft (leaf a_word closing_row)

    abbrev pub rule_row : Row
    rule_row = sym is.ParenLeft (leaf a_word (sym is.Comma (leaf a_rule closing_row)))

    abbrev pub words_row : Row
    words_row = sym is.ParenLeft (leaf one_or_two (sym is.ParenRight nothing))

    abbrev pub sizes_row : Row
    sizes_row = sym is.ParenLeft (own an_expression (optional one_more (optional one_more closing_row)))

    abbrev pub custom_row : Row
    custom_row = sym is.At (leaf a_custom (optional (sym is.ParenLeft (commas list an_expression (sym is.ParenRight nothing))) nothing))

    -- an attribute with a word that is known, whose row is read
    known_reads : (k : Kind) (w : Text) (row : Row) (c : Forest) (r : Row) (ts us : List Token) → or_kind custom (look_up w words_of_attributes) ≡ Some (kind k) → sym is.At (says w row) ≡ r → row_of {I = Text} a_bare_attribute (kind k) ≡ Some r → (fits (kind k) c && stands_as a_bare_attribute (kind k) c) ≡ true
        → fill ((spells c).row r) ts ≡ Some us → RowOk child (read_part child) n Always row → Within n c → node child a_bare_attribute ts ≡ Some (node_of (kind k) c, us)
    known_reads k w row c r ts us e q o f h ok v =
        let g : fill ((spells c).row (sym is.At (says w row))) ts ≡ Some us = subst (λ z. fill ((spells c).row z) ts ≡ Some us) (turned q) h in
        node_from child a_bare_attribute (kind k) c (sym is.At (says w row)) ts us (o ∙ ap (λ z. Some z) (turned q)) f (label_by c w row k ts us g e)
        (row_reads child (read_part child) n c (sym is.At (says w row)) Always ok ts us g v tt)

    single_ok : RowOk child (read_part child) n Always (sym is.ParenLeft (own an_expression closing_row))
    single_ok = ((λ l c ts vs g u rest. exprs l c ts vs g u (closing_ends rest.0 vs rest.1 rest.2)), tt)

    -- the sizes of a workgroup
    workgroup_reads : (c : Forest) (ts us : List Token) → (fits (kind workgroup_size) c && stands_as a_bare_attribute (kind workgroup_size) c) ≡ true → fill ((spells c).row (sym is.At (says (codes "workgroup_size") sizes_row))) ts ≡ Some us → Within n c → node child a_bare_attribute ts ≡ Some (node_of (kind workgroup_size) c, us)
    workgroup_reads c ts us f h w =
        node_from child a_bare_attribute (kind workgroup_size) c (sym is.At (says (codes "workgroup_size") sizes_row)) ts us refl f (label_by c (codes "workgroup_size") sizes_row workgroup_size ts us h refl)
        (whole_row c f h w) where
          whole_row : (c : Forest) → (fits (kind workgroup_size) c && stands_as a_bare_attribute (kind workgroup_size) c) ≡ true → fill ((spells c).row (sym is.At (says (codes "workgroup_size") sizes_row))) ts ≡ Some us → Within n c → read_row child (read_part child) (sym is.At (says (codes "workgroup_size") sizes_row)) ts ≡ Some (c, us)
          whole_row c f h w =
              let x : (vs : List Token) × (ts ≡ symbol is.At ∷ vs) × (fill ((spells c).row (says (codes "workgroup_size") sizes_row)) vs ≡ Some us) = row_token c is.At (says (codes "workgroup_size") sizes_row) ts us h in
              let y : (vs : List Token) × (x.0 ≡ name (codes "workgroup_size") ∷ vs) × (fill ((spells c).row sizes_row) vs ≡ Some us) = row_word c (codes "workgroup_size") sizes_row x.0 us x.2 in
              let z : (vs : List Token) × (y.0 ≡ symbol is.ParenLeft ∷ vs) × (fill ((spells c).row (own an_expression (optional one_more (optional one_more closing_row)))) vs ≡ Some us) = row_token c is.ParenLeft (own an_expression (optional one_more (optional one_more closing_row))) y.0 us y.2 in
              let a : (l : Label) × (d : Forest) × (o : Forest) × (vs : List Token) × (c ≡ tree l d o) × (fill (first_slots l d (spells d) an_expression) z.0 ≡ Some vs) × (fill ((spells o).row (optional one_more (optional one_more closing_row))) vs ≡ Some us) = own_first c an_expression (optional one_more (optional one_more closing_row)) z.0 us z.2 in
              let v : Within n (tree a.0 a.1 a.2) = subst (λ s. Within n s) a.4 w in
              let e : (not (is_kind absent (label_at 0 a.2)) || is_kind absent (label_at 1 a.2)) ≡ true = (and_parts (not (is_kind absent (label_at 0 a.2)) || is_kind absent (label_at 1 a.2)) true (subst (λ s. (fits (kind workgroup_size) s && stands_as a_bare_attribute (kind workgroup_size) s) ≡ true) a.4 f)).0 in
              ap (λ s. read_row child (read_part child) (sym is.At (says (codes "workgroup_size") sizes_row)) s) (x.1 ∙ (ap (λ s. symbol is.At ∷ s) y.1 ∙ ap (λ s. symbol is.At ∷ name (codes "workgroup_size") ∷ s) z.1))
              ∙ (joined (λ t. t) (child an_expression z.0) (node_of a.0 a.1) a.3 (read_row child (read_part child) (optional one_more (optional one_more closing_row))) a.2 us
              (exprs a.0 a.1 z.0 a.3 a.5 (v.0, tt) (more_ends a.2 (optional one_more closing_row) a.3 us (λ g h. more_ends g closing_row a.3 us (λ g h. closing_ends g a.3 us h) h) a.6))
              (sizes_read a.2 a.3 us a.6 e v.1)
              ∙ ap (λ s. Some (s, us)) (turned a.4))

    -- one of another name
    abbrev pub NoOperands : List Token → Type 0
    NoOperands us = begins_sign is.ParenLeft us ≡ false

    custom_ok : RowOk child (read_part child) n NoOperands custom_row
    custom_ok = (
      (λ l o ts vs us h g cu. (custom_reads l o ts vs h).3),
      (
        (λ vs rest. ap (λ z. begins_sign is.ParenLeft z) (nothing_row rest.0 vs rest.1 rest.2).1 ∙ rest.4),
        (λ f ts vs h w rest. ap (λ z. begins_sign is.ParenLeft z) (row_token f is.ParenLeft (commas list an_expression (sym is.ParenRight nothing)) ts vs h).1),
        ((λ g ts vs h w rest. let x : (ws : List Token) × (vs ≡ symbol is.ParenRight ∷ ws) × (fill ((spells rest.0).row nothing) ws ≡ Some rest.1) = row_token rest.0 is.ParenRight nothing vs rest.1 rest.2 in list_of_expressions child n exprs g ts vs x.0 h w x.1), tt),
        tt,
      ),
    )

    custom_label : (c : Forest) (ts us : List Token) → fill ((spells c).row custom_row) ts ≡ Some us → attribute_label ts ≡ Some (kind custom)
    custom_label c ts us h =
        let x : (vs : List Token) × (ts ≡ symbol is.At ∷ vs) × (fill ((spells c).row (leaf a_custom (optional (sym is.ParenLeft (commas list an_expression (sym is.ParenRight nothing))) nothing))) vs ≡ Some us) = row_token c is.At (leaf a_custom (optional (sym is.ParenLeft (commas list an_expression (sym is.ParenRight nothing))) nothing)) ts us h in
        let y : (l : Label) × (o : Forest) × (vs : List Token) × (fill (leaf_slots a_custom l o) x.0 ≡ Some vs) × (fill ((spells o).row (optional (sym is.ParenLeft (commas list an_expression (sym is.ParenRight nothing))) nothing)) vs ≡ Some us) = leaf_first c a_custom (optional (sym is.ParenLeft (commas list an_expression (sym is.ParenRight nothing))) nothing) x.0 us x.2 in
        let z : (t : Text) × (is_among known_attributes t ≡ false) × (x.0 ≡ name t ∷ y.2) × (read_leaf a_custom x.0 ≡ Some (y.0, y.2)) = custom_reads y.0 y.1 x.0 y.2 y.3 in
        ap attribute_label (x.1 ∙ ap (λ s. symbol is.At ∷ s) z.2) ∙ ap (λ s. or_kind custom s) (unknown words_of_attributes z.0 z.1)

    -- one with operands, whatever comes behind
    abbrev operands_row : Row
    operands_row = sym is.ParenLeft (commas list an_expression (sym is.ParenRight nothing))

    operands_ok : RowOk child (read_part child) n Always operands_row
    operands_ok = ((λ g ts vs h w rest. let x : (ws : List Token) × (vs ≡ symbol is.ParenRight ∷ ws) × (fill ((spells rest.0).row nothing) ws ≡ Some rest.1) = row_token rest.0 is.ParenRight nothing vs rest.1 rest.2 in list_of_expressions child n exprs g ts vs x.0 h w x.1), tt)

    operands_read : (l : Label) (o : Forest) (ts us : List Token) → fill ((spells o).row (optional operands_row nothing)) ts ≡ Some us → Within n o → lacks_operands (tree l end o) ≡ false → read_row child (read_part child) (optional operands_row nothing) ts ≡ Some (o, us)
    operands_read l end ts us h w f = absurd (no_some us h)
    operands_read l (tree m d p) ts us h w f = at (chosen (is_kind absent (Some m) && is_end d) ((spells p).row nothing) (if is_kind present (Some m) then followed ((spells d).row operands_row) ((spells p).row nothing) else None) ts us h) where
      at : (((is_kind absent (Some m) && is_end d) ≡ true) × (fill ((spells p).row nothing) ts ≡ Some us)) ⊎ (((is_kind absent (Some m) && is_end d) ≡ false) × (fill (if is_kind present (Some m) then followed ((spells d).row operands_row) ((spells p).row nothing) else None) ts ≡ Some us)) → read_row child (read_part child) (optional operands_row nothing) ts ≡ Some (tree m d p, us)
      at (inl x) =
          let y : (is_kind absent (Some m) ≡ true) × (is_end d ≡ true) = and_parts (is_kind absent (Some m)) (is_end d) x.0 in
          let q : tree m d p ≡ tree (kind absent) end end = ap (λ z. tree z d p) (label_is absent m y.0) ∙ (ap (λ z. tree (kind absent) z p) (end_is d y.1) ∙ ap (λ z. tree (kind absent) end z) (nothing_row p ts us x.1).0) in
          absurd (no_true (turned f ∙ ap (λ z. lacks_operands (tree l end z)) q))
      at (inr x) =
          let y : (is_kind present (Some m) ≡ true) × (fill (followed ((spells d).row operands_row) ((spells p).row nothing)) ts ≡ Some us) = where_true (is_kind present (Some m)) (followed ((spells d).row operands_row) ((spells p).row nothing)) ts us x.1 in
          let z : (vs : List Token) × (fill ((spells d).row operands_row) ts ≡ Some vs) × (fill ((spells p).row nothing) vs ≡ Some us) = parts ((spells d).row operands_row) ((spells p).row nothing) ts us y.1 in
          ap (λ b. elim b as (λ _. Read Forest) [
            | false ↦ and_others (branch absent []) (read_row child (read_part child) nothing ts)
            | true ↦ after (read_row child (read_part child) operands_row ts) (λ f us. and_others (node_of (kind present) f) (read_row child (read_part child) nothing us))
          ]) (ap (λ a. begins_sign is.ParenLeft a) (row_token d is.ParenLeft (commas list an_expression (sym is.ParenRight nothing)) ts z.0 z.1).1)
          ∙ (joined (λ f. node_of (kind present) f) (read_row child (read_part child) operands_row ts) d z.0 (read_row child (read_part child) nothing) p us
          (row_reads child (read_part child) n d operands_row Always operands_ok ts z.0 z.1 (within_below m d p n w) tt)
          (ap (λ a. Some (a, z.0)) (turned (nothing_row p z.0 us z.2).0) ∙ ap (λ a. Some (p, a)) (nothing_row p z.0 us z.2).1)
          ∙ ap (λ a. Some (tree a d p, us)) (turned (label_is present m y.0)))

    with_operands : (c : Forest) (ts us : List Token) → fill ((spells c).row custom_row) ts ≡ Some us → Within n c → lacks_operands c ≡ false → read_row child (read_part child) custom_row ts ≡ Some (c, us)
    with_operands c ts us h w f =
        let x : (vs : List Token) × (ts ≡ symbol is.At ∷ vs) × (fill ((spells c).row (leaf a_custom (optional operands_row nothing))) vs ≡ Some us) = row_token c is.At (leaf a_custom (optional operands_row nothing)) ts us h in
        ap (λ s. read_row child (read_part child) custom_row s) x.1 ∙ by c x.0 x.2 w f where
          by : (c : Forest) (vs : List Token) → fill ((spells c).row (leaf a_custom (optional operands_row nothing))) vs ≡ Some us → Within n c → lacks_operands c ≡ false → read_row child (read_part child) (leaf a_custom (optional operands_row nothing)) vs ≡ Some (c, us)
          by end vs g w f = absurd (no_some us g)
          by (tree l d o) vs g w f =
              let y : (is_end d ≡ true) × (fill (followed (leaf_slots a_custom l o) ((spells o).row (optional operands_row nothing))) vs ≡ Some us) = where_true (is_end d) (followed (leaf_slots a_custom l o) ((spells o).row (optional operands_row nothing))) vs us g in
              let z : (ws : List Token) × (fill (leaf_slots a_custom l o) vs ≡ Some ws) × (fill ((spells o).row (optional operands_row nothing)) ws ≡ Some us) = parts (leaf_slots a_custom l o) ((spells o).row (optional operands_row nothing)) vs us y.1 in
              joined (λ t. tree_leaf t) (read_leaf a_custom vs) l z.0 (read_row child (read_part child) (optional operands_row nothing)) o us (custom_reads l o vs z.0 z.1).3
              (operands_read l o z.0 us z.2 w.1 (ap (λ s. lacks_operands (tree l s o)) (turned (end_is d y.0)) ∙ f))
              ∙ ap (λ s. Some (tree l s o, us)) (turned (end_is d y.0))

    of_row : (k : Kind) (c : Forest) (r : Row) (ts us : List Token) → row_of {I = Text} a_bare_attribute (kind k) ≡ Some r → (fits (kind k) c && stands_as a_bare_attribute (kind k) c) ≡ true → fill ((spells c).row r) ts ≡ Some us → Within n c → Parted (kind k) c us
        → InRows rows_of_bare_attribute k r → node child a_bare_attribute ts ≡ Some (node_of (kind k) c, us)
    of_row k c r ts us o f h w e (inl q) = known_reads k (codes "const") nothing c r ts us (ap (λ z. Some (kind z)) (turned q.0)) q.1 o f h tt w
    of_row k c r ts us o f h w e (inr (inl q)) = known_reads k (codes "invariant") nothing c r ts us (ap (λ z. Some (kind z)) (turned q.0)) q.1 o f h tt w
    of_row k c r ts us o f h w e (inr (inr (inl q))) = known_reads k (codes "must_use") nothing c r ts us (ap (λ z. Some (kind z)) (turned q.0)) q.1 o f h tt w
    of_row k c r ts us o f h w e (inr (inr (inr (inl q)))) = known_reads k (codes "vertex") nothing c r ts us (ap (λ z. Some (kind z)) (turned q.0)) q.1 o f h tt w
    of_row k c r ts us o f h w e (inr (inr (inr (inr (inl q))))) = known_reads k (codes "fragment") nothing c r ts us (ap (λ z. Some (kind z)) (turned q.0)) q.1 o f h tt w
    of_row k c r ts us o f h w e (inr (inr (inr (inr (inr (inl q)))))) = known_reads k (codes "compute") nothing c r ts us (ap (λ z. Some (kind z)) (turned q.0)) q.1 o f h tt w
    of_row k c r ts us o f h w e (inr (inr (inr (inr (inr (inr (inl q))))))) = known_reads k (codes "publish") nothing c r ts us (ap (λ z. Some (kind z)) (turned q.0)) q.1 o f h tt w
    of_row k c r ts us o f h w e (inr (inr (inr (inr (inr (inr (inr (inl q)))))))) = known_reads k (codes "else") nothing c r ts us (ap (λ z. Some (kind z)) (turned q.0)) q.1 o f h tt w
    of_row k c r ts us o f h w e (inr (inr (inr (inr (inr (inr (inr (inr (inl q))))))))) = known_reads k (codes "align") (sym is.ParenLeft (own an_expression closing_row)) c r ts us (ap (λ z. Some (kind z)) (turned q.0)) q.1 o f h single_ok w
    of_row k c r ts us o f h w e (inr (inr (inr (inr (inr (inr (inr (inr (inr (inl q)))))))))) = known_reads k (codes "binding") (sym is.ParenLeft (own an_expression closing_row)) c r ts us (ap (λ z. Some (kind z)) (turned q.0)) q.1 o f h single_ok w
    of_row k c r ts us o f h w e (inr (inr (inr (inr (inr (inr (inr (inr (inr (inr (inl q))))))))))) = known_reads k (codes "blend_src") (sym is.ParenLeft (own an_expression closing_row)) c r ts us (ap (λ z. Some (kind z)) (turned q.0)) q.1 o f h single_ok w
    of_row k c r ts us o f h w e (inr (inr (inr (inr (inr (inr (inr (inr (inr (inr (inr (inl q)))))))))))) = known_reads k (codes "group") (sym is.ParenLeft (own an_expression closing_row)) c r ts us (ap (λ z. Some (kind z)) (turned q.0)) q.1 o f h single_ok w
    of_row k c r ts us o f h w e (inr (inr (inr (inr (inr (inr (inr (inr (inr (inr (inr (inr (inl q))))))))))))) = known_reads k (codes "id") (sym is.ParenLeft (own an_expression closing_row)) c r ts us (ap (λ z. Some (kind z)) (turned q.0)) q.1 o f h single_ok w
    of_row k c r ts us o f h w e (inr (inr (inr (inr (inr (inr (inr (inr (inr (inr (inr (inr (inr (inl q)))))))))))))) = known_reads k (codes "location") (sym is.ParenLeft (own an_expression closing_row)) c r ts us (ap (λ z. Some (kind z)) (turned q.0)) q.1 o f h single_ok w
    of_row k c r ts us o f h w e (inr (inr (inr (inr (inr (inr (inr (inr (inr (inr (inr (inr (inr (inr (inl q))))))))))))))) = known_reads k (codes "size") (sym is.ParenLeft (own an_expression closing_row)) c r ts us (ap (λ z. Some (kind z)) (turned q.0)) q.1 o f h single_ok w
    of_row k c r ts us o f h w e (inr (inr (inr (inr (inr (inr (inr (inr (inr (inr (inr (inr (inr (inr (inr (inl q)))))))))))))))) = known_reads k (codes "if") (sym is.ParenLeft (own an_expression closing_row)) c r ts us (ap (λ z. Some (kind z)) (turned q.0)) q.1 o f h single_ok w
    of_row k c r ts us o f h w e (inr (inr (inr (inr (inr (inr (inr (inr (inr (inr (inr (inr (inr (inr (inr (inr (inl q))))))))))))))))) = known_reads k (codes "elif") (sym is.ParenLeft (own an_expression closing_row)) c r ts us (ap (λ z. Some (kind z)) (turned q.0)) q.1 o f h single_ok w
    of_row k c r ts us o f h w e (inr (inr (inr (inr (inr (inr (inr (inr (inr (inr (inr (inr (inr (inr (inr (inr (inr (inl q)))))))))))))))))) = known_reads k (codes "builtin") word_row c r ts us (ap (λ z. Some (kind z)) (turned q.0)) q.1 o f h ((λ l o ts vs us h g cu. word_reads l o ts vs h), tt) w
    of_row k c r ts us o f h w e (inr (inr (inr (inr (inr (inr (inr (inr (inr (inr (inr (inr (inr (inr (inr (inr (inr (inr (inl q))))))))))))))))))) = known_reads k (codes "diagnostic") rule_row c r ts us (ap (λ z. Some (kind z)) (turned q.0)) q.1 o f h ((λ l o ts vs us h g cu. word_reads l o ts vs h), ((λ l o ts vs us h g cu. rule_reads l o ts vs h (no_period vs (closing_ends o vs us g).0)), tt)) w
    of_row k c r ts us o f h w e (inr (inr (inr (inr (inr (inr (inr (inr (inr (inr (inr (inr (inr (inr (inr (inr (inr (inr (inr (inl q)))))))))))))))))))) = known_reads k (codes "interpolate") words_row c r ts us (ap (λ z. Some (kind z)) (turned q.0)) q.1 o f h ((λ l o ts vs us h g cu. let x : (xs : List Token) × (vs ≡ symbol is.ParenRight ∷ xs) × (fill ((spells o).row nothing) xs ≡ Some us) = row_token o is.ParenRight nothing vs us g in words_read l o ts vs x.0 h x.1), tt) w
    of_row k c r ts us o f h w e (inr (inr (inr (inr (inr (inr (inr (inr (inr (inr (inr (inr (inr (inr (inr (inr (inr (inr (inr (inr (inl q))))))))))))))))))))) =
        workgroup_reads c ts us (subst (λ z. (fits (kind z) c && stands_as a_bare_attribute (kind z) c) ≡ true) q.0 f) (subst (λ z. fill ((spells c).row z) ts ≡ Some us) (turned q.1) h) w ∙ ap (λ z. Some (node_of (kind z) c, us)) (turned q.0)
    of_row k c r ts us o f h w e (inr (inr (inr (inr (inr (inr (inr (inr (inr (inr (inr (inr (inr (inr (inr (inr (inr (inr (inr (inr (inr (inl q)))))))))))))))))))))) =
        let g : fill ((spells c).row custom_row) ts ≡ Some us = subst (λ z. fill ((spells c).row z) ts ≡ Some us) (turned q.1) h in
        node_from child a_bare_attribute (kind k) c custom_row ts us (o ∙ ap (λ z. Some z) (turned q.1)) f (custom_label c ts us g ∙ ap (λ z. Some (kind z)) (turned q.0)) (by g e) where
          by : fill ((spells c).row custom_row) ts ≡ Some us → Parted (kind k) c us → read_row child (read_part child) custom_row ts ≡ Some (c, us)
          by g (inl d) = row_reads child (read_part child) n c custom_row NoOperands custom_ok ts us g w d
          by g (inr d) = with_operands c ts us g w (ap (λ z. is_open_custom (kind z) c) (turned q.0) ∙ d)
    of_row k c r ts us o f h w e (inr (inr (inr (inr (inr (inr (inr (inr (inr (inr (inr (inr (inr (inr (inr (inr (inr (inr (inr (inr (inr (inr q)))))))))))))))))))))) = absurd q

    -- an attribute is read
    pub attribute_parted : (l : Label) (c : Forest) (ts us : List Token) → fill (first_slots l c (spells c) a_bare_attribute) ts ≡ Some us → Within n (tree l c end) → Parted l c us → node child a_bare_attribute ts ≡ Some (node_of l c, us)
    attribute_parted (kind k) c ts us h w e =
        let x : (r : Row) × (row_of {I = Text} a_bare_attribute (kind k) ≡ Some r) × ((fits (kind k) c && stands_as a_bare_attribute (kind k) c) ≡ true) × (fill ((spells c).row r) ts ≡ Some us) = first_parts (kind k) c (spells c) a_bare_attribute ts us h in
        of_row k c x.0 ts us x.1 x.2 x.3 (within_below (kind k) c end n w) e (in_rows rows_of_bare_attribute k x.0 x.1)
    attribute_parted (at k zero zero) c ts us h w e = absurd (no_some us h)
    attribute_parted (at k zero (suc f)) c ts us h w e = absurd (no_some us h)
    attribute_parted (at k (suc s) f) c ts us h w e = absurd (no_some us h)
    attribute_parted l c ts us h w e = absurd (no_some us h)

    pub attribute_reads : ReadsSort child n a_bare_attribute NoOperands (node child a_bare_attribute)
    attribute_reads l c ts us h w e = attribute_parted l c ts us h w (inl e)
