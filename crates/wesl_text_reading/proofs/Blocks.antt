-- Bodies of statements and of functions, and what ends a loop, are read where statements are.
use Rattle.std.proofs.Common.{◌≡◌, ◌⊎◌, ℕ, zero, suc, true, ◌&&◌, List, ◌∷◌, Some, refl, sym as turned, inl, inr, ap, ◌∙◌, subst, codes}
use Rattle.wesl_tree_syntax.specs.Tree.{kind, at, end, tree, compound, continuing, statements, break_if}
use Rattle.wesl_text_tokens.specs.declared.symbol.Symbol.TheVariants as is
use Rattle.wesl_text_tokens.specs.Tokens.{Token, name, symbol}
use Rattle.wesl_text_form.specs.Productions.{Sort, an_expression, an_attribute, a_body, a_break_if, a_continuing, a_statement, Row, nothing, sym, says, own, run, optional, inside, attrs, row_of}
use Rattle.wesl_text_form.specs.Spelling.{Label, Forest, spells, first_slots, fits, stands_as}
use Rattle.wesl_text_reading.specs.Reading.{Reader, node_of, node, any, behind_attributes, ranked, at_level, reading}
use Rattle.wesl_text_reading.proofs.Filled.{no_some, fill}
use Rattle.wesl_text_reading.proofs.Takes.{first_parts}
use Rattle.wesl_text_reading.proofs.Within.{Within, within_below}
use Rattle.wesl_text_reading.proofs.Chains.{row_token}
use Rattle.wesl_text_reading.proofs.Operands.{Ended, only_row, own_first}
use Rattle.wesl_text_reading.proofs.Complete.{ReadsSort, node_by, expression_reads}
use Rattle.wesl_text_reading.proofs.Attributes.{row_word}
use Rattle.wesl_text_reading.proofs.Runs.{Unopened, attributes_at}
use Rattle.wesl_text_reading.proofs.Worded.{Apart, worded_ok, word_behind, behind_them, attrs_first}

abbrev pub Always : List Token → Type 0
Always us = Unit {0}

-- tokens that end an expression
pub ended_at : (vs : List Token) → Ended (symbol is.At ∷ vs)
ended_at vs = (refl, ((refl, refl), refl), refl)

pub ended_brace : (vs : List Token) → Ended (symbol is.BraceLeft ∷ vs)
ended_brace vs = (refl, ((refl, refl), refl), refl)

pub ended_semicolon : (vs : List Token) → Ended (symbol is.Semicolon ∷ vs)
ended_semicolon vs = (refl, ((refl, refl), refl), refl)

pub semicolon_ended : (f : Forest) (row : Row) (ts us : List Token) → fill ((spells f).row (sym is.Semicolon row)) ts ≡ Some us → Ended ts
semicolon_ended f row ts us h = let y : (vs : List Token) × (ts ≡ symbol is.Semicolon ∷ vs) × (fill ((spells f).row row) vs ≡ Some us) = row_token f is.Semicolon row ts us h in subst Ended (turned y.1) (ended_semicolon y.0)

-- ---- `break if`

abbrev break_row : Row
break_row = says (codes "if") (own an_expression (sym is.Semicolon nothing))

break_if_is : (l : Label) (r : Row) → row_of a_break_if l ≡ Some r → (l ≡ kind break_if) × (attrs (says (codes "break") break_row) ≡ r)
break_if_is (kind k) r h = let x : (k ≡ break_if) × (attrs (says (codes "break") break_row) ≡ r) = only_row break_if (attrs (says (codes "break") break_row)) k r h in (ap (λ z. let l : Label = kind z in l) x.0, x.1)
break_if_is (at k zero zero) r h = absurd (no_some r h)
break_if_is (at k zero (suc e)) r h = absurd (no_some r h)
break_if_is (at k (suc s) e) r h = absurd (no_some r h)
break_if_is l r h = absurd (no_some r h)

-- ---- bodies

-- `{` and statements
abbrev pub block_row : Row → Row
block_row row = sym is.BraceLeft (run statements a_statement row)

abbrev pub body_row : Row
body_row = attrs (block_row (sym is.BraceRight nothing))

pub body_is : (l : Label) (r : Row) → row_of a_body l ≡ Some r → (l ≡ kind compound) × (body_row ≡ r)
body_is (kind k) r h = let x : (k ≡ compound) × (body_row ≡ r) = only_row compound body_row k r h in (ap (λ z. let l : Label = kind z in l) x.0, x.1)
body_is (at k zero zero) r h = absurd (no_some r h)
body_is (at k zero (suc e)) r h = absurd (no_some r h)
body_is (at k (suc s) e) r h = absurd (no_some r h)
body_is l r h = absurd (no_some r h)

-- attributes and `{` begin with `@` or `{`
pub block_first : (f : Forest) (row : Row) (ts us : List Token) → fill ((spells f).row (attrs (sym is.BraceLeft row))) ts ≡ Some us → (vs : List Token) × ((ts ≡ symbol is.At ∷ vs) ⊎ (ts ≡ symbol is.BraceLeft ∷ vs))
block_first f row ts us h = by (attrs_first f (sym is.BraceLeft row) ts us h) where
  by : ((vs : List Token) × (ts ≡ symbol is.At ∷ vs)) ⊎ ((o : Forest) × (fill ((spells o).row (sym is.BraceLeft row)) ts ≡ Some us)) → (vs : List Token) × ((ts ≡ symbol is.At ∷ vs) ⊎ (ts ≡ symbol is.BraceLeft ∷ vs))
  by (inl x) = (x.0, inl x.1)
  by (inr x) = let y : (vs : List Token) × (ts ≡ symbol is.BraceLeft ∷ vs) × (fill ((spells x.0).row row) vs ≡ Some us) = row_token x.0 is.BraceLeft row ts us x.1 in (y.0, inr y.1)

pub body_first : (l : Label) (c : Forest) (ts us : List Token) → fill (first_slots l c (spells c) a_body) ts ≡ Some us → (vs : List Token) × ((ts ≡ symbol is.At ∷ vs) ⊎ (ts ≡ symbol is.BraceLeft ∷ vs))
body_first l c ts us h =
    let x : (r : Row) × (row_of a_body l ≡ Some r) × ((fits l c && stands_as a_body l c) ≡ true) × (fill ((spells c).row r) ts ≡ Some us) = first_parts l c (spells c) a_body ts us h in
    block_first c (run statements a_statement (sym is.BraceRight nothing)) ts us (subst (λ z. fill ((spells c).row z) ts ≡ Some us) (turned (body_is l x.0 x.1).1) x.3)

pub block_ended : (ts vs : List Token) → (ts ≡ symbol is.At ∷ vs) ⊎ (ts ≡ symbol is.BraceLeft ∷ vs) → Ended ts
block_ended ts vs (inl q) = subst Ended (turned q) (ended_at vs)
block_ended ts vs (inr q) = subst Ended (turned q) (ended_brace vs)

-- a body that comes first in a row ends an expression
pub own_body_ended : (f : Forest) (row : Row) (ts us : List Token) → fill ((spells f).row (own a_body row)) ts ≡ Some us → Ended ts
own_body_ended f row ts us h =
    let y : (l : Label) × (c : Forest) × (o : Forest) × (vs : List Token) × (f ≡ tree l c o) × (fill (first_slots l c (spells c) a_body) ts ≡ Some vs) × (fill ((spells o).row row) vs ≡ Some us) = own_first f a_body row ts us h in
    let z : (vs : List Token) × ((ts ≡ symbol is.At ∷ vs) ⊎ (ts ≡ symbol is.BraceLeft ∷ vs)) = body_first y.0 y.1 ts y.3 y.5 in
    block_ended ts z.0 z.1

pub brace_apart : (f : Forest) (row : Row) (ts us : List Token) → fill ((spells f).row (sym is.BraceLeft row)) ts ≡ Some us → Apart ts
brace_apart f row ts us h = let y : (vs : List Token) × (ts ≡ symbol is.BraceLeft ∷ vs) × (fill ((spells f).row row) vs ≡ Some us) = row_token f is.BraceLeft row ts us h in
    subst Apart (turned y.1) (refl, refl)

-- ---- what a loop ends with

abbrev pub ending_row : Row
ending_row = inside compound (attrs (block_row nothing)) (optional (own a_break_if nothing) (sym is.BraceRight nothing))

pub continuing_is : (l : Label) (r : Row) → row_of a_continuing l ≡ Some r → (l ≡ kind continuing) × (attrs (says (codes "continuing") ending_row) ≡ r)
continuing_is (kind k) r h = let x : (k ≡ continuing) × (attrs (says (codes "continuing") ending_row) ≡ r) = only_row continuing (attrs (says (codes "continuing") ending_row)) k r h in (ap (λ z. let l : Label = kind z in l) x.0, x.1)
continuing_is (at k zero zero) r h = absurd (no_some r h)
continuing_is (at k zero (suc e)) r h = absurd (no_some r h)
continuing_is (at k (suc s) e) r h = absurd (no_some r h)
continuing_is l r h = absurd (no_some r h)

module _ (child : Sort → Reader) (n : ℕ) (one_attribute : ReadsSort child n an_attribute Unopened (child an_attribute)) where
  -- `{` stands behind the attributes of a body
  pub body_behind : (l : Label) (c : Forest) (ts us : List Token) → fill (first_slots l c (spells c) a_body) ts ≡ Some us → Within n (tree l c end) → (vs : List Token) × (behind_attributes child ts ≡ symbol is.BraceLeft ∷ vs)
  body_behind l c ts us h w =
      let x : (r : Row) × (row_of a_body l ≡ Some r) × ((fits l c && stands_as a_body l c) ≡ true) × (fill ((spells c).row r) ts ≡ Some us) = first_parts l c (spells c) a_body ts us h in
      let y : (o : Forest) × (vs : List Token) × (behind_attributes child ts ≡ vs) × (fill ((spells o).row (block_row (sym is.BraceRight nothing))) vs ≡ Some us) × Within n o
      = behind_them child n one_attribute c (block_row (sym is.BraceRight nothing)) ts us (subst (λ z. fill ((spells c).row z) ts ≡ Some us) (turned (body_is l x.0 x.1).1) x.3) (within_below l c end n w) (λ o vs g u. brace_apart o (run statements a_statement (sym is.BraceRight nothing)) vs us g) in
      let z : (vs : List Token) × (y.1 ≡ symbol is.BraceLeft ∷ vs) × (fill ((spells y.0).row (run statements a_statement (sym is.BraceRight nothing))) vs ≡ Some us) = row_token y.0 is.BraceLeft (run statements a_statement (sym is.BraceRight nothing)) y.1 us y.3 in
      (z.0, y.2 ∙ z.1)

  -- and `continuing` behind those of what a loop ends with
  pub continuing_behind : (l : Label) (c : Forest) (ts us : List Token) → fill (first_slots l c (spells c) a_continuing) ts ≡ Some us → Within n c → (vs : List Token) × (behind_attributes child ts ≡ name (codes "continuing") ∷ vs)
  continuing_behind l c ts us h w =
      let x : (r : Row) × (row_of a_continuing l ≡ Some r) × ((fits l c && stands_as a_continuing l c) ≡ true) × (fill ((spells c).row r) ts ≡ Some us) = first_parts l c (spells c) a_continuing ts us h in
      let y : (o : Forest) × (vs : List Token) × (behind_attributes child ts ≡ name (codes "continuing") ∷ vs) × (fill ((spells o).row ending_row) vs ≡ Some us)
      = word_behind child n one_attribute c (codes "continuing") ending_row ts us (subst (λ z. fill ((spells c).row z) ts ≡ Some us) (turned (continuing_is l x.0 x.1).1) x.3) w in
      (y.1, y.2)

module _ (child : Sort → Reader) (n : ℕ) (one_attribute : ReadsSort child n an_attribute Unopened (child an_attribute)) (exprs : ReadsSort child n an_expression Ended (child an_expression)) where
  pub break_if_reads : ReadsSort child n a_break_if Always (node child a_break_if)
  break_if_reads l c ts us h w e =
      node_by child n a_break_if l (kind break_if) c (attrs (says (codes "break") break_row)) Always ts us h refl (break_if_is l)
      (worded_ok child n one_attribute Always (codes "break") break_row
      ((λ l c ts vs g v rest. exprs l c ts vs g v (semicolon_ended rest.0 nothing vs rest.1 rest.2)), tt))
      (within_below l c end n w) tt

  -- it ends the statements before it
  pub break_behind : (l : Label) (c : Forest) (ts us : List Token) → fill (first_slots l c (spells c) a_break_if) ts ≡ Some us → Within n (tree l c end) → (vs : List Token) × (behind_attributes child ts ≡ name (codes "break") ∷ name (codes "if") ∷ vs)
  break_behind l c ts us h w =
      let x : (r : Row) × (row_of a_break_if l ≡ Some r) × ((fits l c && stands_as a_break_if l c) ≡ true) × (fill ((spells c).row r) ts ≡ Some us) = first_parts l c (spells c) a_break_if ts us h in
      let y : (o : Forest) × (vs : List Token) × (behind_attributes child ts ≡ name (codes "break") ∷ vs) × (fill ((spells o).row break_row) vs ≡ Some us)
      = word_behind child n one_attribute c (codes "break") break_row ts us (subst (λ z. fill ((spells c).row z) ts ≡ Some us) (turned (break_if_is l x.0 x.1).1) x.3) (within_below l c end n w) in
      let z : (vs : List Token) × (y.1 ≡ name (codes "if") ∷ vs) × (fill ((spells y.0).row (own an_expression (sym is.Semicolon nothing))) vs ≡ Some us) = row_word y.0 (codes "if") (own an_expression (sym is.Semicolon nothing)) y.1 us y.3 in
      (z.0, y.2 ∙ ap (λ s. name (codes "break") ∷ s) z.1)

-- a `break if` that is said is read
pub break_if_reads_at : (n : ℕ) (l : Label) (c : Forest) (ts us : List Token) → fill (first_slots l c (spells c) a_break_if) ts ≡ Some us → Within n (tree l c end) → Unit {0} → reading n a_break_if ts ≡ Some (node_of l c, us)
break_if_reads_at n l c ts us h w e = break_if_reads (ranked (at_level n any) 2) n (attributes_at n) (λ l c ts us h w e. expression_reads n l c ts us h w e) l c ts us h w e
