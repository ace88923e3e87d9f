-- Statements that begin with a word or a body are read where what stands in them is.
use Rattle.std.proofs.Common.{◌≡◌, ◌⊎◌, ℕ, true, false, ◌&&◌, if◌then◌else◌, List, ◌∷◌, Some, None, refl, sym as turned, inl, inr, ap, ◌∙◌, subst, codes}
use Rattle.wesl_tree_names.specs.Path.{Text}
use Rattle.wesl_tree_syntax.specs.Tree.{Kind, kind, end, tree, list, absent, present, clauses, compound, void, compound_statement, switch, loop, if_statement, const_assert, while_loop, break, continue, discard, return}
use Rattle.wesl_text_tokens.specs.declared.symbol.Symbol.TheVariants as is
use Rattle.wesl_text_tokens.specs.Tokens.{Token, name, symbol}
use Rattle.wesl_text_form.specs.Productions.{Sort, an_expression, an_attribute, a_body, an_if, an_else_if, an_else, a_clause, a_continuing, Row, nothing, sym, says, own, run, optional, inside, attrs, row_of}
use Rattle.wesl_text_form.specs.Spelling.{Label, Forest, spells, followed, first_slots, fits, stands_as, is_kind, is_end}
use Rattle.wesl_text_reading.specs.FirstTokens.{begins_word, begins_sort, begins_expression, behind_first}
use Rattle.wesl_text_reading.specs.Reading.{Reader, behind_attributes, begins_child, label_of_statement, read_row, read_part}
use Rattle.wesl_text_reading.proofs.Filled.{no_some, fill, parts}
use Rattle.wesl_text_reading.proofs.Takes.{chosen, where_true, first_parts}
use Rattle.wesl_text_reading.proofs.Within.{Within, within_below}
use Rattle.wesl_text_reading.proofs.RowReads.{Rest, RowOk, row_reads}
use Rattle.wesl_text_reading.proofs.Chains.{nothing_row, row_token}
use Rattle.wesl_text_reading.proofs.Operands.{Ended, own_first, begins_one}
use Rattle.wesl_text_reading.proofs.Complete.{ReadsSort}
use Rattle.wesl_text_reading.proofs.Attributes.{row_word}
use Rattle.wesl_text_reading.proofs.Runs.{Unopened}
use Rattle.wesl_text_reading.proofs.Worded.{Apart, attrs_ok, behind_them, worded_ok, word_behind, run_reads}
use Rattle.wesl_text_reading.proofs.Blocks.{Always, semicolon_ended, own_body_ended, block_row, block_first, block_ended, brace_apart, body_behind, continuing_behind}
use Rattle.wesl_text_reading.proofs.Clauses.{clause_begins}
use Rattle.wesl_text_reading.proofs.Branches.{if_is, else_if_behind, else_behind}
use Rattle.wesl_text_reading.proofs.Starts.{Goes}
use Rattle.wesl_text_reading.proofs.Simple.{Begun}

-- no `else` comes behind attributes
abbrev pub Stands : (Sort → Reader) → List Token → Type 0
Stands child us = begins_word (codes "else") (behind_attributes child us) ≡ false

-- what is promised of the reading of the bodies in a statement
pub record Bodies (child : Sort → Reader) (n : ℕ) : Type 0 where
  pub bodies : ReadsSort child n a_body Always (child a_body)
  pub ifs : ReadsSort child n an_if Always (child an_if)
  pub else_ifs : ReadsSort child n an_else_if Always (child an_else_if)
  pub elses : ReadsSort child n an_else Always (child an_else)
  pub clauses : ReadsSort child n a_clause Always (child a_clause)
  pub endings : ReadsSort child n a_continuing Always (child a_continuing)
  -- the statements of a loop, before what it ends with
  pub blocks : (c : Forest) (ts vs : List Token) → fill ((spells c).row (attrs (block_row nothing))) ts ≡ Some vs → Within n (tree (kind compound) c end)
      → Rest child (read_part child) n (Stands child) (optional (own a_continuing nothing) (sym is.BraceRight nothing)) vs → read_row child (read_part child) (attrs (block_row nothing)) ts ≡ Some (c, vs)

module _ (child : Sort → Reader) (n : ℕ) (one_attribute : ReadsSort child n an_attribute Unopened (child an_attribute)) (exprs : ReadsSort child n an_expression Ended (child an_expression)) where
  abbrev pub Statement : Label → Row → Forest → List Token → List Token → Type 0
  Statement l row c ts us = Begun child l ts × (Bodies child n → Stands child us → read_row child (read_part child) row ts ≡ Some (c, us))

  -- what the word of a statement tells, by what stands behind it
  abbrev pub Tells : Kind → Text → Row → List Token → Type 0
  Tells k w row us = (o : Forest) (vs : List Token) → fill ((spells o).row row) vs ≡ Some us → (label_of_statement child (name w ∷ vs) ≡ Some (kind k)) × Goes (name w ∷ vs)

  pub worded_begun : (k : Kind) (w : Text) (row : Row) (c : Forest) (ts us : List Token) → Tells k w row us → fill ((spells c).row (attrs (says w row))) ts ≡ Some us → Within n c → Begun child (kind k) ts
  worded_begun k w row c ts us f h v =
      let y : (o : Forest) × (vs : List Token) × (behind_attributes child ts ≡ name w ∷ vs) × (fill ((spells o).row row) vs ≡ Some us) = word_behind child n one_attribute c w row ts us h v in
      let b : (label_of_statement child (name w ∷ y.1) ≡ Some (kind k)) × Goes (name w ∷ y.1) = f y.0 y.1 y.3 in
      (name w ∷ y.1, y.2, b.0, b.1)

  -- one that begins with a word
  pub worded_reads : (k : Kind) (w : Text) (row : Row) (c : Forest) (ts us : List Token) → Tells k w row us → (Bodies child n → RowOk child (read_part child) n (Stands child) row) → fill ((spells c).row (attrs (says w row))) ts ≡ Some us → Within n c → Statement (kind k) (attrs (says w row)) c ts us
  worded_reads k w row c ts us f ok h v = (worded_begun k w row c ts us f h v, λ b cu. row_reads child (read_part child) n c (attrs (says w row)) (Stands child) (worded_ok child n one_attribute (Stands child) w row (ok b)) ts us h v cu)

  pub assert_reads : (c : Forest) (ts us : List Token) → fill ((spells c).row (attrs (says (codes "const_assert") (own an_expression (sym is.Semicolon nothing))))) ts ≡ Some us → Within n c → Statement (kind const_assert) (attrs (says (codes "const_assert") (own an_expression (sym is.Semicolon nothing)))) c ts us
  assert_reads c ts us h w =
      worded_reads const_assert (codes "const_assert") (own an_expression (sym is.Semicolon nothing)) c ts us (λ o vs g. (refl, (refl, refl, refl)))
      (λ b. ((λ l c ts vs g v more. exprs l c ts vs g v (semicolon_ended more.0 nothing vs more.1 more.2)), tt)) h w

  pub while_reads : (c : Forest) (ts us : List Token) → fill ((spells c).row (attrs (says (codes "while") (own an_expression (own a_body nothing))))) ts ≡ Some us → Within n c → Statement (kind while_loop) (attrs (says (codes "while") (own an_expression (own a_body nothing)))) c ts us
  while_reads c ts us h w =
      worded_reads while_loop (codes "while") (own an_expression (own a_body nothing)) c ts us (λ o vs g. (refl, (refl, refl, refl)))
      (λ b. ((λ l c ts vs g v more. exprs l c ts vs g v (own_body_ended more.0 nothing vs more.1 more.2)), ((λ l c ts vs g v more. b.bodies l c ts vs g v tt), tt))) h w

  pub break_reads : (c : Forest) (ts us : List Token) → fill ((spells c).row (attrs (says (codes "break") (sym is.Semicolon nothing)))) ts ≡ Some us → Within n c → Statement (kind break) (attrs (says (codes "break") (sym is.Semicolon nothing))) c ts us
  break_reads c ts us h w = worded_reads break (codes "break") (sym is.Semicolon nothing) c ts us (λ o vs g. (refl, (ap (λ z. begins_word (codes "if") z) (row_token o is.Semicolon nothing vs us g).1, refl, refl))) (λ b. tt) h w

  pub continue_reads : (c : Forest) (ts us : List Token) → fill ((spells c).row (attrs (says (codes "continue") (sym is.Semicolon nothing)))) ts ≡ Some us → Within n c → Statement (kind continue) (attrs (says (codes "continue") (sym is.Semicolon nothing))) c ts us
  continue_reads c ts us h w = worded_reads continue (codes "continue") (sym is.Semicolon nothing) c ts us (λ o vs g. (refl, (refl, refl, refl))) (λ b. tt) h w

  pub discard_reads : (c : Forest) (ts us : List Token) → fill ((spells c).row (attrs (says (codes "discard") (sym is.Semicolon nothing)))) ts ≡ Some us → Within n c → Statement (kind discard) (attrs (says (codes "discard") (sym is.Semicolon nothing))) c ts us
  discard_reads c ts us h w = worded_reads discard (codes "discard") (sym is.Semicolon nothing) c ts us (λ o vs g. (refl, (refl, refl, refl))) (λ b. tt) h w

  pub return_reads : (c : Forest) (ts us : List Token) → fill ((spells c).row (attrs (says (codes "return") (optional (own an_expression nothing) (sym is.Semicolon nothing))))) ts ≡ Some us → Within n c → Statement (kind return) (attrs (says (codes "return") (optional (own an_expression nothing) (sym is.Semicolon nothing)))) c ts us
  return_reads c ts us h w =
      worded_reads return (codes "return") (optional (own an_expression nothing) (sym is.Semicolon nothing)) c ts us (λ o vs g. (refl, (refl, refl, refl)))
      (λ b. (
        (λ vs more. ap begins_expression (row_token more.0 is.Semicolon nothing vs more.1 more.2).1),
        (λ f ts vs h w more. let y : (j : Label) × (d : Forest) × (x : Forest) × (ws : List Token) × (f ≡ tree j d x) × (fill (first_slots j d (spells d) an_expression) ts ≡ Some ws) × (fill ((spells x).row nothing) ws ≡ Some vs) = own_first f an_expression nothing ts vs h in begins_one y.0 y.1 ts y.3 y.5),
        ((λ l c ts vs g v more. exprs l c ts vs g v (subst Ended (turned (nothing_row more.0 vs more.1 more.2).1) (semicolon_ended more.4.0 nothing more.1 more.4.1 more.4.2))), tt),
        tt,
      )) h w

  -- ---- those without a word: `;`, and a body

  pub void_reads : (c : Forest) (ts us : List Token) → fill ((spells c).row (sym is.Semicolon nothing)) ts ≡ Some us → Within n c → Statement (kind void) (sym is.Semicolon nothing) c ts us
  void_reads c ts us h w =
      let y : (vs : List Token) × (ts ≡ symbol is.Semicolon ∷ vs) × (fill ((spells c).row nothing) vs ≡ Some us) = row_token c is.Semicolon nothing ts us h in
      ((symbol is.Semicolon ∷ y.0, ap (λ z. behind_attributes child z) y.1, refl, (refl, refl, refl)), λ b cu. row_reads child (read_part child) n c (sym is.Semicolon nothing) (Stands child) tt ts us h w cu)

  pub compound_reads : (c : Forest) (ts us : List Token) → fill ((spells c).row (own a_body nothing)) ts ≡ Some us → Within n c → Statement (kind compound_statement) (own a_body nothing) c ts us
  compound_reads c ts us h w =
      let y : (l : Label) × (d : Forest) × (x : Forest) × (ws : List Token) × (c ≡ tree l d x) × (fill (first_slots l d (spells d) a_body) ts ≡ Some ws) × (fill ((spells x).row nothing) ws ≡ Some us) = own_first c a_body nothing ts us h in
      let v : Within n (tree y.0 y.1 y.2) = subst (λ z. Within n z) y.4 w in
      let z : (vs : List Token) × (behind_attributes child ts ≡ symbol is.BraceLeft ∷ vs) = body_behind child n one_attribute y.0 y.1 ts y.3 y.5 (v.0, tt) in
      ((symbol is.BraceLeft ∷ z.0, z.1, refl, (refl, refl, refl)), λ b cu. row_reads child (read_part child) n c (own a_body nothing) (Stands child) ((λ l c ts vs g v more. b.bodies l c ts vs g v tt), tt) ts us h w cu)

  -- ---- `switch`

  abbrev clauses_row : Row
  clauses_row = sym is.BraceLeft (run clauses a_clause (sym is.BraceRight nothing))

  abbrev pub switch_row : Row
  switch_row = own an_expression (attrs clauses_row)

  clauses_ok : Bodies child n → RowOk child (read_part child) n (Stands child) (attrs clauses_row)
  clauses_ok b =
      attrs_ok child n one_attribute (Stands child) clauses_row (λ f vs us g u k. brace_apart f (run clauses a_clause (sym is.BraceRight nothing)) vs us g) (
        (λ g ts vs h w more.
            run_reads child n a_clause Always (λ l c ts us h w e. b.clauses l c ts us h w tt) (λ l c ts us h w. clause_begins child n one_attribute l c ts us h w) (λ l c ts us h w. tt) g ts vs h w
            (ap (λ z. begins_child child a_clause z) (row_token more.0 is.BraceRight nothing vs more.1 more.2).1) tt),
        tt,
      )

  pub switch_reads : (c : Forest) (ts us : List Token) → fill ((spells c).row (attrs (says (codes "switch") switch_row))) ts ≡ Some us → Within n c → Statement (kind switch) (attrs (says (codes "switch") switch_row)) c ts us
  switch_reads c ts us h w =
      worded_reads switch (codes "switch") switch_row c ts us (λ o vs g. (refl, (refl, refl, refl)))
      (λ b. (
        (λ l c ts vs g v more. let x : (ws : List Token) × ((vs ≡ symbol is.At ∷ ws) ⊎ (vs ≡ symbol is.BraceLeft ∷ ws)) = block_first more.0 (run clauses a_clause (sym is.BraceRight nothing)) vs more.1 more.2 in exprs l c ts vs g v (block_ended vs x.0 x.1)),
        clauses_ok b,
      )) h w

  -- ---- `loop`

  abbrev pub loop_row : Row
  loop_row = inside compound (attrs (block_row nothing)) (optional (own a_continuing nothing) (sym is.BraceRight nothing))

  pub loop_reads : (c : Forest) (ts us : List Token) → fill ((spells c).row (attrs (says (codes "loop") loop_row))) ts ≡ Some us → Within n c → Statement (kind loop) (attrs (says (codes "loop") loop_row)) c ts us
  loop_reads c ts us h w =
      worded_reads loop (codes "loop") loop_row c ts us (λ o vs g. (refl, (refl, refl, refl)))
      (λ b. (
        b.blocks,
        (
          (λ vs more. ap (λ z. begins_child child a_continuing z) (row_token more.0 is.BraceRight nothing vs more.1 more.2).1),
          (λ f ts vs h w more.
              let y : (l : Label) × (d : Forest) × (x : Forest) × (ws : List Token) × (f ≡ tree l d x) × (fill (first_slots l d (spells d) a_continuing) ts ≡ Some ws) × (fill ((spells x).row nothing) ws ≡ Some vs) = own_first f a_continuing nothing ts vs h in
              ap (λ z. begins_sort a_continuing z) (continuing_behind child n one_attribute y.0 y.1 ts y.3 y.5 (within_below y.0 y.1 y.2 n (subst (λ z. Within n z) y.4 w))).1),
          ((λ l c ts vs g v more. b.endings l c ts vs g v tt), tt),
          tt,
        ),
      )) h w

  -- ---- `if`

  abbrev last_row : Row
  last_row = optional (own an_else nothing) nothing

  abbrev pub if_row : Row
  if_row = own an_if (run list an_else_if last_row)

  if_first : (f : Forest) (row : Row) (ts us : List Token) → fill ((spells f).row (own an_if row)) ts ≡ Some us → (vs : List Token) × (ts ≡ name (codes "if") ∷ vs)
  if_first f row ts us h =
      let y : (j : Label) × (d : Forest) × (x : Forest) × (ws : List Token) × (f ≡ tree j d x) × (fill (first_slots j d (spells d) an_if) ts ≡ Some ws) × (fill ((spells x).row row) ws ≡ Some us) = own_first f an_if row ts us h in
      let x : (r : Row) × (row_of an_if y.0 ≡ Some r) × ((fits y.0 y.1 && stands_as an_if y.0 y.1) ≡ true) × (fill ((spells y.1).row r) ts ≡ Some y.3) = first_parts y.0 y.1 (spells y.1) an_if ts y.3 y.5 in
      let z : (vs : List Token) × (ts ≡ name (codes "if") ∷ vs) × (fill ((spells y.1).row (own an_expression (own a_body nothing))) vs ≡ Some y.3) = row_word y.1 (codes "if") (own an_expression (own a_body nothing)) ts y.3 (subst (λ z. fill ((spells y.1).row z) ts ≡ Some y.3) (turned (if_is y.0 x.0 x.1).1) x.3) in
      (z.0, z.1)

  -- whether `else` comes behind the branches with conditions, and that no further condition does
  else_last : Bodies child n → (f : Forest) (vs us : List Token) → fill ((spells f).row last_row) vs ≡ Some us → Within n f → Stands child us → begins_child child an_else_if vs ≡ false
  else_last p end vs us h w e = absurd (no_some us h)
  else_last p (tree l c o) vs us h w e = by (chosen (is_kind absent (Some l) && is_end c) ((spells o).row nothing) (if is_kind present (Some l) then followed ((spells c).row (own an_else nothing)) ((spells o).row nothing) else None) vs us h) where
    no_if : (vs ws : List Token) → (vs ≡ symbol is.At ∷ ws) ⊎ (vs ≡ symbol is.BraceLeft ∷ ws) → begins_word (codes "if") vs ≡ false
    no_if vs ws (inl q) = ap (λ a. begins_word (codes "if") a) q
    no_if vs ws (inr q) = ap (λ a. begins_word (codes "if") a) q

    by : (((is_kind absent (Some l) && is_end c) ≡ true) × (fill ((spells o).row nothing) vs ≡ Some us)) ⊎ (((is_kind absent (Some l) && is_end c) ≡ false) × (fill (if is_kind present (Some l) then followed ((spells c).row (own an_else nothing)) ((spells o).row nothing) else None) vs ≡ Some us)) → begins_child child an_else_if vs ≡ false
    by (inl x) = ap (λ z. begins_child child an_else_if z) (nothing_row o vs us x.1).1 ∙ ap (λ b. b && begins_word (codes "if") (behind_first (behind_attributes child us))) e
    by (inr x) =
        let y : (is_kind present (Some l) ≡ true) × (fill (followed ((spells c).row (own an_else nothing)) ((spells o).row nothing)) vs ≡ Some us) = where_true (is_kind present (Some l)) (followed ((spells c).row (own an_else nothing)) ((spells o).row nothing)) vs us x.1 in
        let z : (ws : List Token) × (fill ((spells c).row (own an_else nothing)) vs ≡ Some ws) × (fill ((spells o).row nothing) ws ≡ Some us) = parts ((spells c).row (own an_else nothing)) ((spells o).row nothing) vs us y.1 in
        let t : (j : Label) × (d : Forest) × (p : Forest) × (ws : List Token) × (c ≡ tree j d p) × (fill (first_slots j d (spells d) an_else) vs ≡ Some ws) × (fill ((spells p).row nothing) ws ≡ Some z.0) = own_first c an_else nothing vs z.0 z.1 in
        let v : Within n (tree t.0 t.1 t.2) = subst (λ a. Within n a) t.4 (within_below l c o n w) in
        let b : (vs' : List Token) × (behind_attributes child vs ≡ name (codes "else") ∷ vs') × (ws : List Token) × ((vs' ≡ symbol is.At ∷ ws) ⊎ (vs' ≡ symbol is.BraceLeft ∷ ws)) = else_behind child n one_attribute exprs p.bodies t.0 t.1 vs t.3 t.5 (v.0, tt) in
        ap (λ a. begins_sort an_else_if a) b.1 ∙ no_if b.0 b.2 b.3

  first_apart : (f : Forest) (row : Row) (vs us : List Token) → fill ((spells f).row (own an_if row)) vs ≡ Some us → Apart vs
  first_apart f row vs us g = let q : (ws : List Token) × (vs ≡ name (codes "if") ∷ ws) = if_first f row vs us g in subst Apart (turned q.1) (refl, refl)

  if_ok : Bodies child n → RowOk child (read_part child) n (Stands child) (attrs if_row)
  if_ok p =
      attrs_ok child n one_attribute (Stands child) if_row (λ f vs us g u k. first_apart f (run list an_else_if last_row) vs us g) (
        (λ l c ts vs g v more. p.ifs l c ts vs g v tt),
        (
          (λ g ts vs h w more.
              run_reads child n an_else_if Always (λ l c ts us h w e. p.else_ifs l c ts us h w tt) (λ l c ts us h w. ap (λ a. begins_sort an_else_if a) (else_if_behind child n one_attribute exprs p.bodies l c ts us h w).1) (λ l c ts us h w. tt) g ts vs h w
              (else_last p more.0 vs more.1 more.2 more.3 more.4) tt),
          (
            (λ vs more. ap (λ a. begins_child child an_else a) (nothing_row more.0 vs more.1 more.2).1 ∙ more.4),
            (λ f ts vs h w more.
                let t : (j : Label) × (d : Forest) × (x : Forest) × (ws : List Token) × (f ≡ tree j d x) × (fill (first_slots j d (spells d) an_else) ts ≡ Some ws) × (fill ((spells x).row nothing) ws ≡ Some vs) = own_first f an_else nothing ts vs h in
                ap (λ a. begins_sort an_else a) (else_behind child n one_attribute exprs p.bodies t.0 t.1 ts t.3 t.5 ((subst (λ a. Within n a) t.4 w).0, tt)).1),
            ((λ l c ts vs g v more. p.elses l c ts vs g v tt), tt),
            tt,
          ),
        ),
      )

  pub if_statement_reads : (c : Forest) (ts us : List Token) → fill ((spells c).row (attrs if_row)) ts ≡ Some us → Within n c → Statement (kind if_statement) (attrs if_row) c ts us
  if_statement_reads c ts us h w =
      let y : (o : Forest) × (vs : List Token) × (behind_attributes child ts ≡ vs) × (fill ((spells o).row if_row) vs ≡ Some us) × Within n o = behind_them child n one_attribute c if_row ts us h w (λ o vs g u. first_apart o (run list an_else_if last_row) vs us g) in
      let z : (vs : List Token) × (y.1 ≡ name (codes "if") ∷ vs) = if_first y.0 (run list an_else_if last_row) y.1 us y.3 in
      ((name (codes "if") ∷ z.0, y.2 ∙ z.1, refl, (refl, refl, refl)), λ p cu. row_reads child (read_part child) n c (attrs if_row) (Stands child) (if_ok p) ts us h w cu)
