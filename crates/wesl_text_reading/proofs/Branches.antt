-- Branches of `if`, clauses of `switch`, and bodies, where what stands in them is read.
use Rattle.std.proofs.Common.{◌≡◌, ◌⊎◌, ℕ, zero, suc, true, ◌&&◌, List, ◌∷◌, Some, refl, sym as turned, ap, ◌∙◌, subst, codes}
use Rattle.wesl_tree_syntax.specs.Tree.{kind, at, end, tree, if_clause, else_if_clause, else_clause}
use Rattle.wesl_text_tokens.specs.declared.symbol.Symbol.TheVariants as is
use Rattle.wesl_text_tokens.specs.Tokens.{Token, name, symbol}
use Rattle.wesl_text_form.specs.Productions.{Sort, an_expression, an_attribute, a_body, an_if, an_else_if, an_else, Row, nothing, says, own, attrs, row_of}
use Rattle.wesl_text_form.specs.Spelling.{Label, Forest, spells, first_slots, fits, stands_as}
use Rattle.wesl_text_reading.specs.Reading.{Reader, node, behind_attributes, read_part}
use Rattle.wesl_text_reading.proofs.Filled.{no_some, fill}
use Rattle.wesl_text_reading.proofs.Takes.{first_parts}
use Rattle.wesl_text_reading.proofs.Within.{Within, within_below}
use Rattle.wesl_text_reading.proofs.RowReads.{RowOk}
use Rattle.wesl_text_reading.proofs.Operands.{Ended, only_row, own_first}
use Rattle.wesl_text_reading.proofs.Complete.{ReadsSort, node_by}
use Rattle.wesl_text_reading.proofs.Attributes.{row_word}
use Rattle.wesl_text_reading.proofs.Runs.{Unopened}
use Rattle.wesl_text_reading.proofs.Worded.{word_behind, worded_ok}
use Rattle.wesl_text_reading.proofs.Blocks.{Always, body_first, own_body_ended}

-- a condition and a body
abbrev tested_row : Row
tested_row = own an_expression (own a_body nothing)

pub if_is : (l : Label) (r : Row) → row_of an_if l ≡ Some r → (l ≡ kind if_clause) × (says (codes "if") tested_row ≡ r)
if_is (kind k) r h = let x : (k ≡ if_clause) × (says (codes "if") tested_row ≡ r) = only_row if_clause (says (codes "if") tested_row) k r h in (ap (λ z. let l : Label = kind z in l) x.0, x.1)
if_is (at k zero zero) r h = absurd (no_some r h)
if_is (at k zero (suc e)) r h = absurd (no_some r h)
if_is (at k (suc s) e) r h = absurd (no_some r h)
if_is l r h = absurd (no_some r h)

else_if_is : (l : Label) (r : Row) → row_of an_else_if l ≡ Some r → (l ≡ kind else_if_clause) × (attrs (says (codes "else") (says (codes "if") tested_row)) ≡ r)
else_if_is (kind k) r h = let x : (k ≡ else_if_clause) × (attrs (says (codes "else") (says (codes "if") tested_row)) ≡ r) = only_row else_if_clause (attrs (says (codes "else") (says (codes "if") tested_row))) k r h in (ap (λ z. let l : Label = kind z in l) x.0, x.1)
else_if_is (at k zero zero) r h = absurd (no_some r h)
else_if_is (at k zero (suc e)) r h = absurd (no_some r h)
else_if_is (at k (suc s) e) r h = absurd (no_some r h)
else_if_is l r h = absurd (no_some r h)

else_is : (l : Label) (r : Row) → row_of an_else l ≡ Some r → (l ≡ kind else_clause) × (attrs (says (codes "else") (own a_body nothing)) ≡ r)
else_is (kind k) r h = let x : (k ≡ else_clause) × (attrs (says (codes "else") (own a_body nothing)) ≡ r) = only_row else_clause (attrs (says (codes "else") (own a_body nothing))) k r h in (ap (λ z. let l : Label = kind z in l) x.0, x.1)
else_is (at k zero zero) r h = absurd (no_some r h)
else_is (at k zero (suc e)) r h = absurd (no_some r h)
else_is (at k (suc s) e) r h = absurd (no_some r h)
else_is l r h = absurd (no_some r h)

module _ (child : Sort → Reader) (n : ℕ) (one_attribute : ReadsSort child n an_attribute Unopened (child an_attribute)) (exprs : ReadsSort child n an_expression Ended (child an_expression)) (bodies : ReadsSort child n a_body Always (child a_body)) where
  body_ok : RowOk child (read_part child) n Always (own a_body nothing)
  body_ok = ((λ l c ts vs g v more. bodies l c ts vs g v tt), tt)

  tested_ok : RowOk child (read_part child) n Always tested_row
  tested_ok = ((λ l c ts vs g v more. exprs l c ts vs g v (own_body_ended more.0 nothing vs more.1 more.2)), body_ok)

  pub if_reads : ReadsSort child n an_if Always (node child an_if)
  if_reads l c ts us h w e = node_by child n an_if l (kind if_clause) c (says (codes "if") tested_row) Always ts us h refl (if_is l) tested_ok (within_below l c end n w) tt

  pub else_if_reads : ReadsSort child n an_else_if Always (node child an_else_if)
  else_if_reads l c ts us h w e =
      node_by child n an_else_if l (kind else_if_clause) c (attrs (says (codes "else") (says (codes "if") tested_row))) Always ts us h refl (else_if_is l)
      (worded_ok child n one_attribute Always (codes "else") (says (codes "if") tested_row) tested_ok) (within_below l c end n w) tt

  pub else_reads : ReadsSort child n an_else Always (node child an_else)
  else_reads l c ts us h w e =
      node_by child n an_else l (kind else_clause) c (attrs (says (codes "else") (own a_body nothing))) Always ts us h refl (else_is l)
      (worded_ok child n one_attribute Always (codes "else") (own a_body nothing) body_ok) (within_below l c end n w) tt

  -- what stands behind their attributes
  pub else_if_behind : (l : Label) (c : Forest) (ts us : List Token) → fill (first_slots l c (spells c) an_else_if) ts ≡ Some us → Within n (tree l c end) → (vs : List Token) × (behind_attributes child ts ≡ name (codes "else") ∷ name (codes "if") ∷ vs)
  else_if_behind l c ts us h w =
      let x : (r : Row) × (row_of an_else_if l ≡ Some r) × ((fits l c && stands_as an_else_if l c) ≡ true) × (fill ((spells c).row r) ts ≡ Some us) = first_parts l c (spells c) an_else_if ts us h in
      let y : (o : Forest) × (vs : List Token) × (behind_attributes child ts ≡ name (codes "else") ∷ vs) × (fill ((spells o).row (says (codes "if") tested_row)) vs ≡ Some us)
      = word_behind child n one_attribute c (codes "else") (says (codes "if") tested_row) ts us (subst (λ z. fill ((spells c).row z) ts ≡ Some us) (turned (else_if_is l x.0 x.1).1) x.3) (within_below l c end n w) in
      let z : (vs : List Token) × (y.1 ≡ name (codes "if") ∷ vs) × (fill ((spells y.0).row tested_row) vs ≡ Some us) = row_word y.0 (codes "if") tested_row y.1 us y.3 in
      (z.0, y.2 ∙ ap (λ s. name (codes "else") ∷ s) z.1)

  pub else_behind : (l : Label) (c : Forest) (ts us : List Token) → fill (first_slots l c (spells c) an_else) ts ≡ Some us → Within n (tree l c end) → (vs : List Token) × (behind_attributes child ts ≡ name (codes "else") ∷ vs) × (vs' : List Token) × ((vs ≡ symbol is.At ∷ vs') ⊎ (vs ≡ symbol is.BraceLeft ∷ vs'))
  else_behind l c ts us h w =
      let x : (r : Row) × (row_of an_else l ≡ Some r) × ((fits l c && stands_as an_else l c) ≡ true) × (fill ((spells c).row r) ts ≡ Some us) = first_parts l c (spells c) an_else ts us h in
      let y : (o : Forest) × (vs : List Token) × (behind_attributes child ts ≡ name (codes "else") ∷ vs) × (fill ((spells o).row (own a_body nothing)) vs ≡ Some us)
      = word_behind child n one_attribute c (codes "else") (own a_body nothing) ts us (subst (λ z. fill ((spells c).row z) ts ≡ Some us) (turned (else_is l x.0 x.1).1) x.3) (within_below l c end n w) in
      let z : (j : Label) × (d : Forest) × (p : Forest) × (ws : List Token) × (y.0 ≡ tree j d p) × (fill (first_slots j d (spells d) a_body) y.1 ≡ Some ws) × (fill ((spells p).row nothing) ws ≡ Some us) = own_first y.0 a_body nothing y.1 us y.3 in
      let b : (vs : List Token) × ((y.1 ≡ symbol is.At ∷ vs) ⊎ (y.1 ≡ symbol is.BraceLeft ∷ vs)) = body_first z.0 z.1 y.1 z.3 z.5 in
      (y.1, y.2, b.0, b.1)
