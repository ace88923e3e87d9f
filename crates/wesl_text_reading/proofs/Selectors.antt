-- Selectors of clauses are read.
use Rattle.std.proofs.Common.{◌≡◌, ℕ, zero, suc, Bool, true, false, ◌&&◌, if◌then◌else◌, List, [], ◌∷◌, Some, refl, sym as turned, inl, inr, ap, ◌∙◌, subst, codes, bytes_eq}
use Rattle.std.proofs.lemmas.Slice.Eq.{bytes_eq-Decides}
use Rattle.wesl_tree_names.specs.Path.{Text}
use Rattle.wesl_tree_syntax.specs.Tree.{Kind, kind, at, end, tree, default_case, expression_case}
use Rattle.wesl_text_tokens.specs.Tokens.{Token, name}
use Rattle.wesl_text_form.specs.Productions.{Sort, an_expression, a_selector, Row, nothing, says, own, row_of, rows_of_selector}
use Rattle.wesl_text_form.specs.Spelling.{Label, Forest, spells, first_slots, fits, stands_as}
use Rattle.wesl_text_reading.specs.FirstTokens.{begins_word}
use Rattle.wesl_text_reading.specs.Reading.{Reader, node_of, node, any, read_part, ranked, at_level, reading}
use Rattle.wesl_text_reading.proofs.Filled.{no_some, no_true, fill}
use Rattle.wesl_text_reading.proofs.Takes.{first_parts}
use Rattle.wesl_text_reading.proofs.Within.{Within, within_below}
use Rattle.wesl_text_reading.proofs.RowReads.{row_reads}
use Rattle.wesl_text_reading.proofs.Operands.{InRows, in_rows, Ended, is_first_word, begins_operand, own_first, operand_first}
use Rattle.wesl_text_reading.proofs.Complete.{ReadsSort, node_from, from_any, complete}
use Rattle.wesl_text_reading.proofs.Attributes.{row_word}
use Rattle.wesl_text_reading.proofs.Chains.{nothing_row}

-- no operand begins with a word that may not begin one
pub not_word : (w : Text) → is_first_word w ≡ false → (ts : List Token) → begins_operand ts ≡ true → begins_word w ts ≡ false
not_word w k [] h = refl
not_word w k (name t ∷ ts) h = at (bytes_eq w t) refl where
  at : (b : Bool) → bytes_eq w t ≡ b → b ≡ false
  at false e = refl
  at true e = absurd (no_true (turned k ∙ (ap is_first_word ((bytes_eq-Decides w t).0 e) ∙ h)))
not_word w k (t ∷ ts) h = refl

module _ (child : Sort → Reader) (n : ℕ) (exprs : ReadsSort child n an_expression Ended (child an_expression)) where
  abbrev selector_label : Bool → Label
  selector_label b = kind (if b then default_case else expression_case)

  of_row : (k : Kind) (c : Forest) (r : Row) (ts us : List Token) → row_of {I = Text} a_selector (kind k) ≡ Some r → (fits (kind k) c && stands_as a_selector (kind k) c) ≡ true → fill ((spells c).row r) ts ≡ Some us → Within n c → Ended us
      → InRows rows_of_selector k r → node child a_selector ts ≡ Some (node_of (kind k) c, us)
  of_row k c r ts us o f h w e (inl q) =
      let g : fill ((spells c).row (says (codes "default") nothing)) ts ≡ Some us = subst (λ z. fill ((spells c).row z) ts ≡ Some us) (turned q.1) h in
      node_from child a_selector (kind k) c (says (codes "default") nothing) ts us (o ∙ ap (λ z. Some z) (turned q.1)) f
      (ap (λ z. Some (selector_label (begins_word (codes "default") z))) (row_word c (codes "default") nothing ts us g).1 ∙ ap (λ z. Some (kind z)) (turned q.0))
      (row_reads child (read_part child) n c (says (codes "default") nothing) Ended tt ts us g w e)
  of_row k c r ts us o f h w e (inr (inl q)) =
      let g : fill ((spells c).row (own an_expression nothing)) ts ≡ Some us = subst (λ z. fill ((spells c).row z) ts ≡ Some us) (turned q.1) h in
      let y : (l : Label) × (d : Forest) × (x : Forest) × (vs : List Token) × (c ≡ tree l d x) × (fill (first_slots l d (spells d) an_expression) ts ≡ Some vs) × (fill ((spells x).row nothing) vs ≡ Some us) = own_first c an_expression nothing ts us g in
      node_from child a_selector (kind k) c (own an_expression nothing) ts us (o ∙ ap (λ z. Some z) (turned q.1)) f
      (ap (λ b. Some (selector_label b)) (not_word (codes "default") refl ts (operand_first y.0 y.1 ts y.3 y.5)) ∙ ap (λ z. Some (kind z)) (turned q.0))
      (row_reads child (read_part child) n c (own an_expression nothing) Ended ((λ l c ts vs g v rest. exprs l c ts vs g v (subst Ended (turned (nothing_row rest.0 vs rest.1 rest.2).1) rest.4)), tt) ts us g w e)
  of_row k c r ts us o f h w e (inr (inr q)) = absurd q

  pub selector_reads : ReadsSort child n a_selector Ended (node child a_selector)
  selector_reads (kind k) c ts us h w e =
      let x : (r : Row) × (row_of {I = Text} a_selector (kind k) ≡ Some r) × ((fits (kind k) c && stands_as a_selector (kind k) c) ≡ true) × (fill ((spells c).row r) ts ≡ Some us) = first_parts (kind k) c (spells c) a_selector ts us h in
      of_row k c x.0 ts us x.1 x.2 x.3 (within_below (kind k) c end n w) e (in_rows rows_of_selector k x.0 x.1)
  selector_reads (at k zero zero) c ts us h w e = absurd (no_some us h)
  selector_reads (at k zero (suc f)) c ts us h w e = absurd (no_some us h)
  selector_reads (at k (suc s) f) c ts us h w e = absurd (no_some us h)
  selector_reads l c ts us h w e = absurd (no_some us h)

-- a selector that is said is read
pub selector_reads_at : (n : ℕ) (l : Label) (c : Forest) (ts us : List Token) → fill (first_slots l c (spells c) a_selector) ts ≡ Some us → Within n (tree l c end) → Ended us → reading n a_selector ts ≡ Some (node_of l c, us)
selector_reads_at n l c ts us h w e = selector_reads (ranked (at_level n any) 0) n (from_any (λ p ts. at_level n p an_expression ts) n (complete n)) l c ts us h w e
