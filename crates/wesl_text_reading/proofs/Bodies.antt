-- Bodies, and what a loop ends with, are read where statements are.
use Rattle.std.proofs.Common.{◌≡◌, ◌⊎◌, ℕ, true, false, ◌&&◌, if◌then◌else◌, List, [], ◌∷◌, Some, None, refl, sym as turned, inl, inr, ap, ◌∙◌, subst, codes}
use Rattle.wesl_tree_syntax.specs.Tree.{kind, end, tree, absent, present, compound, continuing, statements}
use Rattle.wesl_text_tokens.specs.declared.symbol.Symbol.TheVariants as is
use Rattle.wesl_text_tokens.specs.Tokens.{Token, name, symbol}
use Rattle.wesl_text_form.specs.Productions.{Sort, an_expression, an_attribute, a_body, a_break_if, a_continuing, a_statement, Row, nothing, sym, says, own, run, optional, attrs}
use Rattle.wesl_text_form.specs.Spelling.{Label, Forest, spells, followed, first_slots, is_kind, is_end}
use Rattle.wesl_text_reading.specs.FirstTokens.{begins_word, begins_sort}
use Rattle.wesl_text_reading.specs.Reading.{Reader, node_of, node, behind_attributes, begins_child, read_row, read_part}
use Rattle.wesl_text_reading.proofs.Filled.{no_some, fill, parts}
use Rattle.wesl_text_reading.proofs.Takes.{chosen, where_true}
use Rattle.wesl_text_reading.proofs.Within.{Within, within_below}
use Rattle.wesl_text_reading.proofs.RowReads.{Rest, RowOk, row_reads}
use Rattle.wesl_text_reading.proofs.Chains.{nothing_row, row_token}
use Rattle.wesl_text_reading.proofs.Operands.{Ended, own_first}
use Rattle.wesl_text_reading.proofs.Complete.{ReadsSort, node_by}
use Rattle.wesl_text_reading.proofs.Runs.{Unopened}
use Rattle.wesl_text_reading.proofs.Worded.{attrs_ok, worded_ok, run_reads}
use Rattle.wesl_text_reading.proofs.Blocks.{Always, block_row, brace_apart, body_row, body_is, ending_row, continuing_is, continuing_behind, break_behind}
use Rattle.wesl_text_reading.proofs.Statements.{Stands}

-- an option that comes first: what is behind it, or what is in it
option_within : (k : ℕ) (f : Forest) (ins row : Row) (ts us : List Token) → fill ((spells f).row (optional ins row)) ts ≡ Some us → Within k f
    → ((g : Forest) × (fill ((spells g).row row) ts ≡ Some us)) ⊎ ((d : Forest) × (vs : List Token) × (fill ((spells d).row ins) ts ≡ Some vs) × Within k d)
option_within k end ins row ts us h w = absurd (no_some us h)
option_within k (tree l c o) ins row ts us h w = at (chosen (is_kind absent (Some l) && is_end c) ((spells o).row row) (if is_kind present (Some l) then followed ((spells c).row ins) ((spells o).row row) else None) ts us h) where
  at : (((is_kind absent (Some l) && is_end c) ≡ true) × (fill ((spells o).row row) ts ≡ Some us)) ⊎ (((is_kind absent (Some l) && is_end c) ≡ false) × (fill (if is_kind present (Some l) then followed ((spells c).row ins) ((spells o).row row) else None) ts ≡ Some us))
      → ((g : Forest) × (fill ((spells g).row row) ts ≡ Some us)) ⊎ ((d : Forest) × (vs : List Token) × (fill ((spells d).row ins) ts ≡ Some vs) × Within k d)
  at (inl x) = inl (o, x.1)
  at (inr x) =
      let y : (is_kind present (Some l) ≡ true) × (fill (followed ((spells c).row ins) ((spells o).row row)) ts ≡ Some us) = where_true (is_kind present (Some l)) (followed ((spells c).row ins) ((spells o).row row)) ts us x.1 in
      let z : (vs : List Token) × (fill ((spells c).row ins) ts ≡ Some vs) × (fill ((spells o).row row) vs ≡ Some us) = parts ((spells c).row ins) ((spells o).row row) ts us y.1 in
      inr (c, z.0, z.1, within_below l c o k w)

-- no statement begins, and no `else` behind attributes that `lower` reads
abbrev Stopped : (Sort → Reader) → (Sort → Reader) → List Token → Type 0
Stopped child lower vs = (begins_child child a_statement vs ≡ false) × Stands lower vs

brace_stops : (child lower : Sort → Reader) (f : Forest) (row : Row) (vs us : List Token) → fill ((spells f).row (sym is.BraceRight row)) vs ≡ Some us → Stopped child lower vs
brace_stops child lower f row vs us g = let x : (ws : List Token) × (vs ≡ symbol is.BraceRight ∷ ws) × (fill ((spells f).row row) ws ≡ Some us) = row_token f is.BraceRight row vs us g in
    (ap (λ z. begins_child child a_statement z) x.1, ap (λ z. begins_word (codes "else") (behind_attributes lower z)) x.1)

-- Statements are read by `child`, and the attributes behind each of them by `lower`.
module _ (child lower : Sort → Reader) (n : ℕ) (one_attribute : ReadsSort child n an_attribute Unopened (child an_attribute)) (one_statement : ReadsSort child n a_statement (Stands lower) (child a_statement))
    (starts : (l : Label) (c : Forest) (ts us : List Token) → fill (first_slots l c (spells c) a_statement) ts ≡ Some us → Within n (tree l c end) → begins_child child a_statement ts ≡ true)
    (next : (l : Label) (c : Forest) (ts us : List Token) → fill (first_slots l c (spells c) a_statement) ts ≡ Some us → Within n (tree l c end) → Stands lower ts) where
  block_ok : (C : List Token → Type 0) (row : Row) → ((f : Forest) (vs us : List Token) → fill ((spells f).row row) vs ≡ Some us → C us → Stopped child lower vs) → RowOk child (read_part child) n C row → RowOk child (read_part child) n C (attrs (block_row row))
  block_ok C row stops ok = attrs_ok child n one_attribute C (block_row row) (λ f vs us g u k. brace_apart f (run statements a_statement row) vs us g) (
    (λ g ts vs h w more. let x : Stopped child lower vs = stops more.0 vs more.1 more.2 more.4 in run_reads child n a_statement (Stands lower) one_statement starts next g ts vs h w x.0 x.1),
    ok,
  )

  pub body_reads : (l : Label) (c : Forest) (ts us : List Token) → fill (first_slots l c (spells c) a_body) ts ≡ Some us → Within n c → node child a_body ts ≡ Some (node_of l c, us)
  body_reads l c ts us h w =
      node_by child n a_body l (kind compound) c body_row Always ts us h refl (body_is l) (block_ok Always (sym is.BraceRight nothing) (λ f vs us g k. brace_stops child lower f nothing vs us g) tt) w tt

  -- the statements of a loop
  pub block_reads : (c : Forest) (ts vs : List Token) → fill ((spells c).row (attrs (block_row nothing))) ts ≡ Some vs → Within n c → Stopped child lower vs → read_row child (read_part child) (attrs (block_row nothing)) ts ≡ Some (c, vs)
  block_reads c ts vs h w s =
      row_reads child (read_part child) n c (attrs (block_row nothing)) (Stopped child lower) (block_ok (Stopped child lower) nothing (λ f vs us g k. subst (Stopped child lower) (turned (nothing_row f vs us g).1) k) tt) ts vs h w s

-- ---- what ends the statements of a loop

-- Behind attributes `lower` finds what `child` does, or reads none.
module _ (child lower : Sort → Reader) (n : ℕ) (one_attribute : ReadsSort child n an_attribute Unopened (child an_attribute)) (deeper : (ts : List Token) → (behind_attributes lower ts ≡ []) ⊎ (behind_attributes lower ts ≡ behind_attributes child ts)) where
  stands_by : (vs ws : List Token) → behind_attributes child vs ≡ ws → begins_word (codes "else") ws ≡ false → Stands lower vs
  stands_by vs ws e f = by (deeper vs) where
    by : (behind_attributes lower vs ≡ []) ⊎ (behind_attributes lower vs ≡ behind_attributes child vs) → Stands lower vs
    by (inl q) = ap (λ z. begins_word (codes "else") z) q
    by (inr q) = ap (λ z. begins_word (codes "else") z) (q ∙ e) ∙ f

  -- what a loop ends with
  pub ending_stops : (f : Forest) (vs us : List Token) → fill ((spells f).row (optional (own a_continuing nothing) (sym is.BraceRight nothing))) vs ≡ Some us → Within n f → Stopped child lower vs
  ending_stops f vs us h w = by (option_within n f (own a_continuing nothing) (sym is.BraceRight nothing) vs us h w) where
    by : ((g : Forest) × (fill ((spells g).row (sym is.BraceRight nothing)) vs ≡ Some us)) ⊎ ((d : Forest) × (ws : List Token) × (fill ((spells d).row (own a_continuing nothing)) vs ≡ Some ws) × Within n d) → Stopped child lower vs
    by (inl x) = brace_stops child lower x.0 nothing vs us x.1
    by (inr x) =
        let y : (l : Label) × (c : Forest) × (o : Forest) × (ws : List Token) × (x.0 ≡ tree l c o) × (fill (first_slots l c (spells c) a_continuing) vs ≡ Some ws) × (fill ((spells o).row nothing) ws ≡ Some x.1) = own_first x.0 a_continuing nothing vs x.1 x.2 in
        let z : (ws : List Token) × (behind_attributes child vs ≡ name (codes "continuing") ∷ ws) = continuing_behind child n one_attribute y.0 y.1 vs y.3 y.5 (within_below y.0 y.1 y.2 n (subst (λ z. Within n z) y.4 x.3)) in
        (ap (λ z. begins_sort a_statement z) z.1, stands_by vs (name (codes "continuing") ∷ z.0) z.1 refl)

  -- and `break if` in it
  pub break_stops : ReadsSort child n an_expression Ended (child an_expression) → (f : Forest) (vs us : List Token) → fill ((spells f).row (optional (own a_break_if nothing) (sym is.BraceRight nothing))) vs ≡ Some us → Within n f → Stopped child lower vs
  break_stops exprs f vs us h w = by (option_within n f (own a_break_if nothing) (sym is.BraceRight nothing) vs us h w) where
    by : ((g : Forest) × (fill ((spells g).row (sym is.BraceRight nothing)) vs ≡ Some us)) ⊎ ((d : Forest) × (ws : List Token) × (fill ((spells d).row (own a_break_if nothing)) vs ≡ Some ws) × Within n d) → Stopped child lower vs
    by (inl x) = brace_stops child lower x.0 nothing vs us x.1
    by (inr x) =
        let y : (l : Label) × (c : Forest) × (o : Forest) × (ws : List Token) × (x.0 ≡ tree l c o) × (fill (first_slots l c (spells c) a_break_if) vs ≡ Some ws) × (fill ((spells o).row nothing) ws ≡ Some x.1) = own_first x.0 a_break_if nothing vs x.1 x.2 in
        let v : Within n (tree y.0 y.1 y.2) = subst (λ z. Within n z) y.4 x.3 in
        let z : (ws : List Token) × (behind_attributes child vs ≡ name (codes "break") ∷ name (codes "if") ∷ ws) = break_behind child n one_attribute exprs y.0 y.1 vs y.3 y.5 (v.0, tt) in
        (ap (λ z. begins_sort a_statement z) z.1, stands_by vs (name (codes "break") ∷ name (codes "if") ∷ z.0) z.1 refl)

-- ---- what a loop ends with is read where its statements and `break if` are

-- the statements of a block, where `break if` or the end of it comes behind
abbrev pub EndingBlocks : (Sort → Reader) → ℕ → Type 0
EndingBlocks child n = (c : Forest) (ts vs : List Token) → fill ((spells c).row (attrs (block_row nothing))) ts ≡ Some vs → Within n (tree (kind compound) c end)
    → Rest child (read_part child) n Always (optional (own a_break_if nothing) (sym is.BraceRight nothing)) vs → read_row child (read_part child) (attrs (block_row nothing)) ts ≡ Some (c, vs)

module _ (child : Sort → Reader) (n : ℕ) (one_attribute : ReadsSort child n an_attribute Unopened (child an_attribute)) (exprs : ReadsSort child n an_expression Ended (child an_expression)) (break_ifs : ReadsSort child n a_break_if Always (child a_break_if)) (blocks : EndingBlocks child n) where
  ending_ok : RowOk child (read_part child) n Always ending_row
  ending_ok = (
    blocks,
    (
      (λ vs more. ap (λ z. begins_child child a_break_if z) (row_token more.0 is.BraceRight nothing vs more.1 more.2).1),
      (λ f ts vs h w more.
          let y : (l : Label) × (c : Forest) × (o : Forest) × (ws : List Token) × (f ≡ tree l c o) × (fill (first_slots l c (spells c) a_break_if) ts ≡ Some ws) × (fill ((spells o).row nothing) ws ≡ Some vs) = own_first f a_break_if nothing ts vs h in
          ap (λ z. begins_sort a_break_if z) (break_behind child n one_attribute exprs y.0 y.1 ts y.3 y.5 ((subst (λ z. Within n z) y.4 w).0, tt)).1),
      ((λ l c ts vs g v more. break_ifs l c ts vs g v tt), tt),
      tt,
    ),
  )

  pub ending_reads : ReadsSort child n a_continuing Always (node child a_continuing)
  ending_reads l c ts us h w e =
      node_by child n a_continuing l (kind continuing) c (attrs (says (codes "continuing") ending_row)) Always ts us h refl (continuing_is l) (worded_ok child n one_attribute Always (codes "continuing") ending_row ending_ok) (within_below l c end n w) tt
