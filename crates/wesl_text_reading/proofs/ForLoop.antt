-- `for` is read where what stands in it is.
use Rattle.std.proofs.Common.{◌≡◌, ◌⊎◌, ℕ, Bool, true, false, ◌&&◌, if◌then◌else◌, List, [], ◌∷◌, length, Some, None, option_map, refl, sym as turned, inl, inr, ap, ◌∙◌, subst, codes}
use Rattle.wesl_tree_syntax.specs.Tree.{kind, end, tree, branch, attributes, absent, present, for_loop}
use Rattle.wesl_text_tokens.specs.declared.symbol.Symbol.TheVariants as is
use Rattle.wesl_text_tokens.specs.Tokens.{Token, name, symbol}
use Rattle.wesl_text_form.specs.Productions.{Sort, an_expression, an_attribute, a_call, a_kind, a_type, a_body, a_statement, Row, nothing, sym, says, own, optional, unended, attrs}
use Rattle.wesl_text_form.specs.Spelling.{Label, Forest, spells, followed, first_slots, below_first, label_at, is_kind, is_end, is_simple, is_simple_at, without_last}
use Rattle.wesl_text_reading.specs.Leaves.{Read, after}
use Rattle.wesl_text_reading.specs.FirstTokens.{begins_sign, begins_part, begins_expression}
use Rattle.wesl_text_reading.specs.Reading.{Reader, node_of, and_others, all_of, begins_child, begins_row, read_row, read_part}
use Rattle.wesl_text_reading.proofs.Filled.{no_some, fill, parts}
use Rattle.wesl_text_reading.proofs.Takes.{chosen, where_true}
use Rattle.wesl_text_reading.proofs.KindsAgain.{label_is, end_is}
use Rattle.wesl_text_reading.proofs.Within.{Within, within_below}
use Rattle.wesl_text_reading.proofs.RowReads.{joined, row_reads}
use Rattle.wesl_text_reading.proofs.Chains.{Ends, nothing_row, row_token}
use Rattle.wesl_text_reading.proofs.Operands.{Ended, own_first, begins_one}
use Rattle.wesl_text_reading.proofs.Complete.{ReadsSort}
use Rattle.wesl_text_reading.proofs.Attributes.{row_word}
use Rattle.wesl_text_reading.proofs.Runs.{Unopened, attributes_read}
use Rattle.wesl_text_reading.proofs.KindsRead.{NoList}
use Rattle.wesl_text_reading.proofs.Targets.{ReadsParted, attrs_parts}
use Rattle.wesl_text_reading.proofs.Blocks.{Always, semicolon_ended}
use Rattle.wesl_text_reading.proofs.SimpleWords.{Tail}
use Rattle.wesl_text_reading.proofs.ForParts.{part_reads}
use Rattle.wesl_text_reading.proofs.Statements.{Bodies, Statement, worded_begun}
use Rattle.std.proofs.lemmas.Bool.{and_parts}

-- the parts of `for`, from the last to the first
abbrev behind_parts : Row
behind_parts = sym is.ParenRight (own a_body nothing)

abbrev last_part : Row
last_part = optional (unended a_statement nothing) behind_parts

abbrev behind_middle : Row
behind_middle = sym is.Semicolon last_part

abbrev middle_part : Row
middle_part = optional (own an_expression nothing) behind_middle

abbrev behind_first_part : Row
behind_first_part = sym is.Semicolon middle_part

abbrev first_part : Row
first_part = optional (unended a_statement nothing) behind_first_part

abbrev pub for_row : Row
for_row = sym is.ParenLeft first_part

-- no part begins where `;` or `)` does
no_part_begins : (ts : List Token) → Tail ts → begins_part ts ≡ false
no_part_begins ts t = by t.0 t.1 where
  by : (ws : List Token) → (ts ≡ symbol is.Semicolon ∷ ws) ⊎ (ts ≡ symbol is.ParenRight ∷ ws) → begins_part ts ≡ false
  by ws (inl q) = ap begins_part q
  by ws (inr q) = ap begins_part q

module _ (child : Sort → Reader) (n : ℕ) (one_attribute : ReadsSort child n an_attribute Unopened (child an_attribute)) (parted : ReadsParted child n (child an_attribute)) (exprs : ReadsSort child n an_expression Ended (child an_expression))
    (kinds : ReadsSort child n a_kind NoList (child a_kind)) (types : ReadsSort child n a_type Ends (child a_type)) (calls : ReadsSort child n a_call (λ us. Unit {0}) (child a_call)) where
  -- an option that is read both ways
  option_reads : (ins row : Row) (l : Label) (c o : Forest) (ts us : List Token) → fill ((spells (tree l c o)).row (optional ins row)) ts ≡ Some us
      → (fill ((spells o).row row) ts ≡ Some us → (begins_row child ins ts ≡ false) × (read_row child (read_part child) row ts ≡ Some (o, us)))
      → ((vs : List Token) → l ≡ kind present → fill ((spells c).row ins) ts ≡ Some vs → fill ((spells o).row row) vs ≡ Some us → (begins_row child ins ts ≡ true) × (read_row child (read_part child) ins ts ≡ Some (c, vs)) × (read_row child (read_part child) row vs ≡ Some (o, us)))
      → read_row child (read_part child) (optional ins row) ts ≡ Some (tree l c o, us)
  option_reads ins row l c o ts us h none some = at (chosen (is_kind absent (Some l) && is_end c) ((spells o).row row) (if is_kind present (Some l) then followed ((spells c).row ins) ((spells o).row row) else None) ts us h) where
    choice : Bool → Read Forest
    choice b = elim b as (λ _. Read Forest) [
      | false ↦ and_others (branch absent []) (read_row child (read_part child) row ts)
      | true ↦ after (read_row child (read_part child) ins ts) (λ f us. and_others (node_of (kind present) f) (read_row child (read_part child) row us))
    ]

    at : (((is_kind absent (Some l) && is_end c) ≡ true) × (fill ((spells o).row row) ts ≡ Some us)) ⊎ (((is_kind absent (Some l) && is_end c) ≡ false) × (fill (if is_kind present (Some l) then followed ((spells c).row ins) ((spells o).row row) else None) ts ≡ Some us)) → read_row child (read_part child) (optional ins row) ts ≡ Some (tree l c o, us)
    at (inl x) =
        let y : (is_kind absent (Some l) ≡ true) × (is_end c ≡ true) = and_parts (is_kind absent (Some l)) (is_end c) x.0 in
        let z : (begins_row child ins ts ≡ false) × (read_row child (read_part child) row ts ≡ Some (o, us)) = none x.1 in
        ap (λ b. choice b) z.0
        ∙ (ap (λ a. and_others (branch absent []) a) z.1
        ∙ (ap (λ a. Some (tree a end o, us)) (turned (label_is absent l y.0)) ∙ ap (λ a. Some (tree l a o, us)) (turned (end_is c y.1))))
    at (inr x) =
        let y : (is_kind present (Some l) ≡ true) × (fill (followed ((spells c).row ins) ((spells o).row row)) ts ≡ Some us) = where_true (is_kind present (Some l)) (followed ((spells c).row ins) ((spells o).row row)) ts us x.1 in
        let p : (vs : List Token) × (fill ((spells c).row ins) ts ≡ Some vs) × (fill ((spells o).row row) vs ≡ Some us) = parts ((spells c).row ins) ((spells o).row row) ts us y.1 in
        let z : (begins_row child ins ts ≡ true) × (read_row child (read_part child) ins ts ≡ Some (c, p.0)) × (read_row child (read_part child) row p.0 ≡ Some (o, us)) = some p.0 (label_is present l y.0) p.1 p.2 in
        ap (λ b. choice b) z.0
        ∙ (joined (λ f. node_of (kind present) f) (read_row child (read_part child) ins ts) c p.0 (read_row child (read_part child) row) o us z.1 z.2
        ∙ ap (λ a. Some (tree a c o, us)) (turned (label_is present l y.0)))

  -- a statement that is a part
  one_part : (c : Forest) (ts vs : List Token) → fill ((spells c).row (unended a_statement nothing)) ts ≡ Some vs → Within n c → is_simple (label_at 0 (below_first c)) ≡ true → Tail vs → (begins_part ts ≡ true) × (read_row child (read_part child) (unended a_statement nothing) ts ≡ Some (c, vs))
  one_part end ts vs h w s t = absurd (no_some vs h)
  one_part (tree j d p) ts vs h w s t =
      let x : (ws : List Token) × (fill (option_map without_last (first_slots j d (spells d) a_statement)) ts ≡ Some ws) × (fill ((spells p).row nothing) ws ≡ Some vs) = parts (option_map without_last (first_slots j d (spells d) a_statement)) ((spells p).row nothing) ts vs h in
      let q : (p ≡ end) × (x.0 ≡ vs) = nothing_row p x.0 vs x.2 in
      let r : (begins_part ts ≡ true) × (read_part child a_statement ts ≡ Some (node_of j d, vs)) = part_reads child n parted exprs kinds types calls j d ts vs (subst (λ z. fill (option_map without_last (first_slots j d (spells d) a_statement)) ts ≡ Some z) q.1 x.1) (w.0, tt) s t in
      (r.0, joined (λ z. z) (read_part child a_statement ts) (node_of j d) vs (read_row child (read_part child) nothing) end vs r.1 refl ∙ ap (λ z. Some (tree j d z, vs)) (turned q.0))

  part_option : (row : Row) (l : Label) (c o : Forest) (ts us : List Token) → fill ((spells (tree l c o)).row (optional (unended a_statement nothing) row)) ts ≡ Some us → Within n (tree l c o) → is_simple_at 0 (tree l c o) ≡ true
      → ((vs : List Token) → fill ((spells o).row row) vs ≡ Some us → Tail vs × (read_row child (read_part child) row vs ≡ Some (o, us)))
      → read_row child (read_part child) (optional (unended a_statement nothing) row) ts ≡ Some (tree l c o, us)
  part_option row l c o ts us h w s behind =
      option_reads (unended a_statement nothing) row l c o ts us h (λ g. let t : Tail ts × (read_row child (read_part child) row ts ≡ Some (o, us)) = behind ts g in (no_part_begins ts t.0, t.1)) (λ vs e g k.
      let t : Tail vs × (read_row child (read_part child) row vs ≡ Some (o, us)) = behind vs k in
      let z : (begins_part ts ≡ true) × (read_row child (read_part child) (unended a_statement nothing) ts ≡ Some (c, vs)) = one_part c ts vs g (within_below l c o n w) (simple_below c (ap (λ a. is_simple_at 0 (tree a c o)) (turned e) ∙ s)) t.0 in
      (z.0, z.1, t.1)) where
        simple_below : (c : Forest) → is_simple_at 0 (tree (kind present) c o) ≡ true → is_simple (label_at 0 (below_first c)) ≡ true
        simple_below c e = e

  last_reads : Bodies child n → (f : Forest) (ts us : List Token) → fill ((spells f).row last_part) ts ≡ Some us → Within n f → is_simple_at 0 f ≡ true → read_row child (read_part child) last_part ts ≡ Some (f, us)
  last_reads b end ts us h w s = absurd (no_some us h)
  last_reads b (tree l c o) ts us h w s = part_option behind_parts l c o ts us h w s (λ vs g.
      let x : (ws : List Token) × (vs ≡ symbol is.ParenRight ∷ ws) × (fill ((spells o).row (own a_body nothing)) ws ≡ Some us) = row_token o is.ParenRight (own a_body nothing) vs us g in
      ((x.0, inr x.1), row_reads child (read_part child) n o behind_parts Always ((λ l c ts vs g v more. b.bodies l c ts vs g v tt), tt) vs us g w.1 tt))

  middle_reads : Bodies child n → (f : Forest) (ts us : List Token) → fill ((spells f).row middle_part) ts ≡ Some us → Within n f → is_simple_at 1 f ≡ true → read_row child (read_part child) middle_part ts ≡ Some (f, us)
  middle_reads b end ts us h w s = absurd (no_some us h)
  middle_reads b (tree l c o) ts us h w s =
      option_reads (own an_expression nothing) behind_middle l c o ts us h (λ g. (ap begins_expression (row_token o is.Semicolon last_part ts us g).1, behind ts g)) (λ vs e g k.
      let y : (j : Label) × (d : Forest) × (x : Forest) × (ws : List Token) × (c ≡ tree j d x) × (fill (first_slots j d (spells d) an_expression) ts ≡ Some ws) × (fill ((spells x).row nothing) ws ≡ Some vs) = own_first c an_expression nothing ts vs g in (
        begins_one y.0 y.1 ts y.3 y.5,
        row_reads child (read_part child) n c (own an_expression nothing) Ended ((λ l c ts vs g v more. exprs l c ts vs g v (subst Ended (turned (nothing_row more.0 vs more.1 more.2).1) more.4)), tt) ts vs g (within_below l c o n w) (semicolon_ended o last_part vs us k),
        behind vs k,
      )) where
        behind : (vs : List Token) → fill ((spells o).row behind_middle) vs ≡ Some us → read_row child (read_part child) behind_middle vs ≡ Some (o, us)
        behind vs g =
            let x : (ws : List Token) × (vs ≡ symbol is.Semicolon ∷ ws) × (fill ((spells o).row last_part) ws ≡ Some us) = row_token o is.Semicolon last_part vs us g in
            ap (λ z. read_row child (read_part child) behind_middle z) x.1 ∙ last_reads b o x.0 us x.2 w.1 s

  first_reads : Bodies child n → (f : Forest) (ts us : List Token) → fill ((spells f).row first_part) ts ≡ Some us → Within n f → is_simple_at 0 f ≡ true → is_simple_at 2 f ≡ true → read_row child (read_part child) first_part ts ≡ Some (f, us)
  first_reads b end ts us h w s t = absurd (no_some us h)
  first_reads b (tree l c o) ts us h w s t = part_option behind_first_part l c o ts us h w s (λ vs g.
      let x : (ws : List Token) × (vs ≡ symbol is.Semicolon ∷ ws) × (fill ((spells o).row middle_part) ws ≡ Some us) = row_token o is.Semicolon middle_part vs us g in
      ((x.0, inl x.1), ap (λ z. read_row child (read_part child) behind_first_part z) x.1 ∙ middle_reads b o x.0 us x.2 w.1 t))

  pub for_reads : (c : Forest) (ts us : List Token) → (is_simple_at 1 c && is_simple_at 3 c) ≡ true → fill ((spells c).row (attrs (says (codes "for") for_row))) ts ≡ Some us → Within n c → Statement child n one_attribute exprs (kind for_loop) (attrs (says (codes "for") for_row)) c ts us
  for_reads c ts us s h w = (
    worded_begun child n one_attribute exprs for_loop (codes "for") for_row c ts us (λ o vs g. (refl, (refl, refl, refl))) h w,
    λ b cu.
        let p : (g : Forest) × (o : Forest) × (vs : List Token) × (c ≡ tree (kind attributes) g o) × (fill ((spells g).all an_attribute) ts ≡ Some vs) × (fill ((spells o).row (says (codes "for") for_row)) vs ≡ Some us) = attrs_parts c (says (codes "for") for_row) ts us h in
        let v : Within n (tree (kind attributes) p.0 p.1) = subst (λ a. Within n a) p.3 w in
        let y : (ws : List Token) × (p.2 ≡ name (codes "for") ∷ ws) × (fill ((spells p.1).row for_row) ws ≡ Some us) = row_word p.1 (codes "for") for_row p.2 us p.5 in
        let z : (ws : List Token) × (y.0 ≡ symbol is.ParenLeft ∷ ws) × (fill ((spells p.1).row first_part) ws ≡ Some us) = row_token p.1 is.ParenLeft first_part y.0 us y.2 in
        let t : (is_simple_at 1 c ≡ true) × (is_simple_at 3 c ≡ true) = and_parts (is_simple_at 1 c) (is_simple_at 3 c) s in
        joined (λ f. node_of (kind attributes) f) (all_of (begins_child child an_attribute) (child an_attribute) (length ts) ts) p.0 p.2 (read_row child (read_part child) (says (codes "for") for_row)) p.1 us
        (attributes_read child n one_attribute p.0 ts p.2 p.4 (within_below (kind attributes) p.0 p.1 n v) (ap (λ a. begins_sign is.At a) y.1) (ap (λ a. begins_sign is.ParenLeft a) y.1))
        (ap (λ a. read_row child (read_part child) (says (codes "for") for_row) a) (y.1 ∙ ap (λ a. name (codes "for") ∷ a) z.1)
        ∙ first_reads b p.1 z.0 us z.2 v.1 (turned (ap (λ a. is_simple_at 1 a) p.3) ∙ t.0) (turned (ap (λ a. is_simple_at 3 a) p.3) ∙ t.1))
        ∙ ap (λ a. Some (a, us)) (turned p.3),
  )
