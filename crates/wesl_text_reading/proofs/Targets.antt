-- Attributes before an expression that may begin with `(`, and what a target begins with.
use Rattle.std.proofs.Common.{◌≡◌, ◌⊎◌, ℕ, zero, suc, true, false, ◌&&◌, List, ◌∷◌, length, Some, refl, sym as turned, inl, inr, ap, ◌∙◌, subst, le_refl}
use Rattle.wesl_tree_syntax.specs.Tree.{Kind, kind, at, unary, binary, end, tree, attributes, absent, custom, expression_node, attribute_node}
use Rattle.wesl_tree_syntax.specs.declared.expression.UnaryOperator.{UnaryOperator}
use Rattle.wesl_tree_syntax.specs.declared.expression.UnaryOperator.TheVariants as unary_operator
use Rattle.wesl_text_tokens.specs.declared.symbol.Symbol.TheVariants as is
use Rattle.wesl_text_tokens.specs.Tokens.{Token, symbol}
use Rattle.wesl_text_form.specs.Operators.{unary_symbol}
use Rattle.wesl_text_form.specs.Productions.{Sort, an_expression, a_bare_expression, a_type, an_attribute, a_bare_attribute, a_name, Row, nothing, sym, own, leaf, attrs, row_of, rows_of_bare_expression}
use Rattle.wesl_text_form.specs.Spelling.{Label, Forest, spells, followed, first_slots, below_first, fits, stands_as, is_kind, ends_open, begins_enclosed, leads_to_place}
use Rattle.wesl_text_reading.specs.FirstTokens.{begins_sign}
use Rattle.wesl_text_reading.specs.Reading.{Reader, node_of, node, any, all_of, begins_child, read_row, read_part, ranked, at_level}
use Rattle.wesl_text_reading.proofs.Filled.{no_some, of_some, no_true, fill, parts}
use Rattle.wesl_text_reading.proofs.Takes.{where_true, first_parts}
use Rattle.wesl_text_reading.proofs.KindsAgain.{label_is}
use Rattle.wesl_text_reading.proofs.Within.{Within, within_below}
use Rattle.wesl_text_reading.proofs.RowReads.{joined}
use Rattle.wesl_text_reading.proofs.Loops.{Last, all_reads}
use Rattle.wesl_text_reading.proofs.Chains.{expression_parts, nothing_row, row_token}
use Rattle.wesl_text_reading.proofs.Operands.{InRows, in_rows, own_first, type_begins}
use Rattle.wesl_text_reading.proofs.Complete.{node_from, from_any, complete}
use Rattle.wesl_text_reading.proofs.Attributes.{is_open_custom, Parted, attribute_parted}
use Rattle.wesl_text_reading.proofs.Runs.{Unopened, attribute_is, attribute_at}

-- ---- attributes

-- no `(` comes behind, or the last one's own operands end it
abbrev pub PartedLast : Forest → List Token → Type 0
PartedLast g us = (Unopened us) ⊎ (ends_open g ≡ false)

open_same : (l j : Label) (d : Forest) → ends_open (tree l (tree j d end) end) ≡ is_open_custom j d
open_same l (kind custom) (tree m b (tree (kind absent) end end)) = refl
open_same l (kind custom) d = refl
open_same l j d = refl

pub open_last : (l : Label) (c : Forest) (k : Label) (d o : Forest) → ends_open (tree l c (tree k d o)) ≡ ends_open (tree k d o)
open_last l (tree (kind custom) (tree m b (tree (kind absent) end end)) end) k d o = refl
open_last l c k d o = refl

-- what is promised of a reader of attributes with their spans
abbrev pub ReadsParted : (child : Sort → Reader) → ℕ → Reader → Type 0
ReadsParted child n r = (l : Label) (c : Forest) (ts us : List Token) → fill (first_slots l c (spells c) an_attribute) ts ≡ Some us → Within n (tree l c end) → PartedLast (tree l c end) us → r ts ≡ Some (node_of l c, us)

module _ (child : Sort → Reader) (n : ℕ) where
  spanned_parted : ((l : Label) (c : Forest) (ts us : List Token) → fill (first_slots l c (spells c) a_bare_attribute) ts ≡ Some us → Within n (tree l c end) → Parted l c us → child a_bare_attribute ts ≡ Some (node_of l c, us)) → ReadsParted child n (node child an_attribute)
  spanned_parted bare l c ts us h w e =
      let x : (r : Row) × (row_of an_attribute l ≡ Some r) × ((fits l c && stands_as an_attribute l c) ≡ true) × (fill ((spells c).row r) ts ≡ Some us) = first_parts l c (spells c) an_attribute ts us h in
      let z : (l ≡ at attribute_node 0 0) × (own a_bare_attribute nothing ≡ x.0) = attribute_is l x.0 x.1 in
      let y : (j : Label) × (d : Forest) × (o : Forest) × (vs : List Token) × (c ≡ tree j d o) × (fill (first_slots j d (spells d) a_bare_attribute) ts ≡ Some vs) × (fill ((spells o).row nothing) vs ≡ Some us)
      = own_first c a_bare_attribute nothing ts us (subst (λ z. fill ((spells c).row z) ts ≡ Some us) (turned z.1) x.3) in
      let t : (y.2 ≡ end) × (y.3 ≡ us) = nothing_row y.2 y.3 us y.6 in
      let q : c ≡ tree y.0 y.1 end = y.4 ∙ ap (λ s. tree y.0 y.1 s) t.0 in
      node_from child an_attribute l c (own a_bare_attribute nothing) ts us (x.1 ∙ ap (λ s. Some s) (turned z.1)) x.2 (ap (λ s. Some s) (turned z.0))
      (joined (λ s. s) (child a_bare_attribute ts) (node_of y.0 y.1) us (read_row child (read_part child) nothing) end us
      (bare y.0 y.1 ts us (subst (λ s. fill (first_slots y.0 y.1 (spells y.1) a_bare_attribute) ts ≡ Some s) t.1 y.5) (subst (λ s. Within n s) q (within_below l c end n w)) (parted y.0 y.1 q e)) refl
      ∙ ap (λ s. Some (s, us)) (turned q)) where
        parted : (j : Label) (d : Forest) → c ≡ tree j d end → PartedLast (tree l c end) us → Parted j d us
        parted j d q (inl f) = inl f
        parted j d q (inr f) = inr (turned (open_same l j d) ∙ (ap (λ s. ends_open (tree l s end)) (turned q) ∙ f))

  module _ (one : ReadsParted child n (child an_attribute)) where
    last_parted : (g : Forest) (us : List Token) → PartedLast g us
        → Last (begins_child child an_attribute) (child an_attribute) an_attribute n (λ l c us. PartedLast (tree l c end) us) (λ l c ts us h w e. one l c ts us h w e) (λ l c ts us h w. ap (λ z. begins_child child an_attribute z) (attribute_at l c ts us h).1) (λ k d l c ts us h w. inl (ap (λ z. begins_sign is.ParenLeft z) (attribute_at l c ts us h).1)) g us
    last_parted end us e = tt
    last_parted (tree l c end) us e = e
    last_parted (tree l c (tree k d o)) us (inl e) = last_parted (tree k d o) us (inl e)
    last_parted (tree l c (tree k d o)) us (inr e) = last_parted (tree k d o) us (inr (turned (open_last l c k d o) ∙ e))

    pub parted_read : (g : Forest) (ts us : List Token) → fill ((spells g).all an_attribute) ts ≡ Some us → Within n g → begins_sign is.At us ≡ false → PartedLast g us → all_of (begins_child child an_attribute) (child an_attribute) (length ts) ts ≡ Some (g, us)
    parted_read g ts us h w a e =
        all_reads (begins_child child an_attribute) (child an_attribute) an_attribute n (λ l c us. PartedLast (tree l c end) us)
        (λ l c ts us h w e. one l c ts us h w e)
        (λ l c ts us h w. ap (λ z. begins_child child an_attribute z) (attribute_at l c ts us h).1)
        (λ k d l c ts us h w. inl (ap (λ z. begins_sign is.ParenLeft z) (attribute_at l c ts us h).1))
        g (length ts) ts us (le_refl (length ts)) h w a (last_parted g us e)

pub attributes_parted : (n : ℕ) → ReadsParted (ranked (at_level n any) 2) n (ranked (at_level n any) 2 an_attribute)
attributes_parted n l c ts us h w e =
    spanned_parted (ranked (at_level n any) 1) n (λ l c ts us h w e. attribute_parted (ranked (at_level n any) 0) n (from_any (λ p ts. at_level n p an_expression ts) n (complete n)) l c ts us h w e) l c ts us h w e

-- the attributes of a row, and what is behind them
pub attrs_parts : (c : Forest) (row : Row) (ts us : List Token) → fill ((spells c).row (attrs row)) ts ≡ Some us
    → (g : Forest) × (o : Forest) × (vs : List Token) × (c ≡ tree (kind attributes) g o) × (fill ((spells g).all an_attribute) ts ≡ Some vs) × (fill ((spells o).row row) vs ≡ Some us)
attrs_parts end row ts us h = absurd (no_some us h)
attrs_parts (tree l g o) row ts us h =
    let y : (is_kind attributes (Some l) ≡ true) × (fill (followed ((spells g).all an_attribute) ((spells o).row row)) ts ≡ Some us) = where_true (is_kind attributes (Some l)) (followed ((spells g).all an_attribute) ((spells o).row row)) ts us h in
    let x : (vs : List Token) × (fill ((spells g).all an_attribute) ts ≡ Some vs) × (fill ((spells o).row row) vs ≡ Some us) = parts ((spells g).all an_attribute) ((spells o).row row) ts us y.1 in
    (g, o, x.0, ap (λ z. tree z g o) (label_is attributes l y.0), x.1, x.2)

-- ---- targets

abbrev Enclosed : Forest → Type 0
Enclosed c = (ts us : List Token) → fill ((spells c).row (own a_bare_expression nothing)) ts ≡ Some us → leads_to_place c ≡ true → begins_enclosed c ≡ false → begins_sign is.ParenLeft ts ≡ false

first_enclosed : (f : Forest) (row : Row) → Enclosed (below_first f) → (ts us : List Token) → fill ((spells f).row (own an_expression row)) ts ≡ Some us → leads_to_place f ≡ true → begins_enclosed f ≡ false → begins_sign is.ParenLeft ts ≡ false
first_enclosed end row b ts us h p e = absurd (no_some us h)
first_enclosed (tree l c o) row b ts us h p e =
    let z : (vs : List Token) × (fill (first_slots l c (spells c) an_expression) ts ≡ Some vs) × (fill ((spells o).row row) vs ≡ Some us) = parts (first_slots l c (spells c) an_expression) ((spells o).row row) ts us h in
    let y : (l ≡ at expression_node 0 0) × (fill ((spells c).row (own a_bare_expression nothing)) ts ≡ Some z.0) = expression_parts l c ts z.0 z.1 in
    b ts z.0 y.1 (ap (λ s. leads_to_place (tree s c o)) (turned y.0) ∙ p) (ap (λ s. begins_enclosed (tree s c o)) (turned y.0) ∙ e)

no_paren : (o : UnaryOperator) (us : List Token) → begins_sign is.ParenLeft (symbol (unary_symbol o) ∷ us) ≡ false
no_paren unary_operator.LogicalNegation us = refl
no_paren unary_operator.Negation us = refl
no_paren unary_operator.BitwiseComplement us = refl
no_paren unary_operator.AddressOf us = refl
no_paren unary_operator.Indirection us = refl

kind_enclosed : (k : Kind) (d x : Forest) → Enclosed (below_first d) → (r : Row) → InRows rows_of_bare_expression k r → (ts vs : List Token) → fill ((spells d).row r) ts ≡ Some vs → leads_to_place (tree (kind k) d x) ≡ true → begins_enclosed (tree (kind k) d x) ≡ false → begins_sign is.ParenLeft ts ≡ false
kind_enclosed k d x b r (inl q) ts vs h p e = absurd (no_true (ap (λ z. leads_to_place (tree (kind z) d x)) (turned q.0) ∙ p))
kind_enclosed k d x b r (inr (inl q)) ts vs h p e = absurd (no_true (turned e ∙ ap (λ z. begins_enclosed (tree (kind z) d x)) q.0))
kind_enclosed k d x b r (inr (inr (inl q))) ts vs h p e = first_enclosed d (sym is.Period (leaf a_name nothing)) b ts vs (subst (λ z. fill ((spells d).row z) ts ≡ Some vs) (turned q.1) h) (ap (λ z. leads_to_place (tree (kind z) d x)) (turned q.0) ∙ p) (ap (λ z. begins_enclosed (tree (kind z) d x)) (turned q.0) ∙ e)
kind_enclosed k d x b r (inr (inr (inr (inl q)))) ts vs h p e = first_enclosed d (sym is.BracketLeft (own an_expression (sym is.BracketRight nothing))) b ts vs (subst (λ z. fill ((spells d).row z) ts ≡ Some vs) (turned q.1) h) (ap (λ z. leads_to_place (tree (kind z) d x)) (turned q.0) ∙ p) (ap (λ z. begins_enclosed (tree (kind z) d x)) (turned q.0) ∙ e)
kind_enclosed k d x b r (inr (inr (inr (inr (inl q))))) ts vs h p e = absurd (no_true (ap (λ z. leads_to_place (tree (kind z) d x)) (turned q.0) ∙ p))
kind_enclosed k d x b r (inr (inr (inr (inr (inr (inl q)))))) ts vs h p e =
    let y : (j : Label) × (c : Forest) × (o : Forest) × (us : List Token) × (d ≡ tree j c o) × (fill (first_slots j c (spells c) a_type) ts ≡ Some us) × (fill ((spells o).row nothing) us ≡ Some vs) = own_first d a_type nothing ts vs (subst (λ z. fill ((spells d).row z) ts ≡ Some vs) (turned q.1) h) in
    ap (λ z. begins_sign is.ParenLeft z) (type_begins y.0 y.1 ts y.3 y.5).2
kind_enclosed k d x b r (inr (inr (inr (inr (inr (inr q)))))) ts vs h p e = absurd q

bare_enclosed : (j : Label) (d x : Forest) → Enclosed (below_first d) → (ts vs : List Token) → fill (first_slots j d (spells d) a_bare_expression) ts ≡ Some vs → leads_to_place (tree j d x) ≡ true → begins_enclosed (tree j d x) ≡ false → begins_sign is.ParenLeft ts ≡ false
bare_enclosed j d x b ts vs h p e = let y : (r : Row) × (row_of a_bare_expression j ≡ Some r) × ((fits j d && stands_as a_bare_expression j d) ≡ true) × (fill ((spells d).row r) ts ≡ Some vs) = first_parts j d (spells d) a_bare_expression ts vs h in by j y.0 y.1 y.3 p e where
  by : (j : Label) (r : Row) → row_of a_bare_expression j ≡ Some r → fill ((spells d).row r) ts ≡ Some vs → leads_to_place (tree j d x) ≡ true → begins_enclosed (tree j d x) ≡ false → begins_sign is.ParenLeft ts ≡ false
  by (kind k) r o g p e = kind_enclosed k d x b r (in_rows rows_of_bare_expression k r o) ts vs g p e
  by (unary u) r o g p e =
      let z : (us : List Token) × (ts ≡ symbol (unary_symbol u) ∷ us) × (fill ((spells d).row (own an_expression nothing)) us ≡ Some vs) = row_token d (unary_symbol u) (own an_expression nothing) ts vs (subst (λ z. fill ((spells d).row z) ts ≡ Some vs) (turned (of_some (sym (unary_symbol u) (own an_expression nothing)) r o)) g) in
      ap (λ s. begins_sign is.ParenLeft s) z.1 ∙ no_paren u z.0
  by (binary u) r o g p e = absurd (no_true p)
  by (at k zero zero) r o g p e = absurd (no_some r o)
  by (at k zero (suc f)) r o g p e = absurd (no_some r o)
  by (at k (suc s) f) r o g p e = absurd (no_some r o)
  by l r o g p e = absurd (no_some r o)

enclosed : (c : Forest) → Enclosed c
enclosed end ts us h p e = absurd (no_some us h)
enclosed (tree b end x) ts us h p e =
    let z : (vs : List Token) × (fill (first_slots b end (spells end) a_bare_expression) ts ≡ Some vs) × (fill ((spells x).row nothing) vs ≡ Some us) = parts (first_slots b end (spells end) a_bare_expression) ((spells x).row nothing) ts us h in
    bare_enclosed b end x (λ ts us g p e. absurd (no_some us g)) ts z.0 z.1 p e
enclosed (tree b (tree l c o) x) ts us h p e =
    let z : (vs : List Token) × (fill (first_slots b (tree l c o) (spells (tree l c o)) a_bare_expression) ts ≡ Some vs) × (fill ((spells x).row nothing) vs ≡ Some us) = parts (first_slots b (tree l c o) (spells (tree l c o)) a_bare_expression) ((spells x).row nothing) ts us h in
    bare_enclosed b (tree l c o) x (enclosed c) ts z.0 z.1 p e

-- a target that does not begin with parentheses begins with no `(`
pub target_first : (f : Forest) (row : Row) (ts us : List Token) → fill ((spells f).row (own an_expression row)) ts ≡ Some us → leads_to_place f ≡ true → begins_enclosed f ≡ false → begins_sign is.ParenLeft ts ≡ false
target_first f row ts us h p e = first_enclosed f row (enclosed (below_first f)) ts us h p e
