-- Declarations in functions and calls that are statements, and the same without `;`.
use Rattle.std.proofs.Common.{◌≡◌, ◌⊎◌, ℕ, zero, suc, true, false, ◌&&◌, List, [], ◌∷◌, length, Some, None, refl, sym as turned, inl, inr, ap, ◌∙◌, subst, codes}
use Rattle.wesl_tree_names.specs.Path.{Text}
use Rattle.wesl_tree_syntax.specs.Tree.{kind, at, binder, end, tree, attributes, declaration, call_statement, call_expression, override_kind, let_kind, expression_node}
use Rattle.wesl_text_tokens.specs.declared.symbol.Symbol.TheVariants as is
use Rattle.wesl_text_tokens.specs.Tokens.{Token, name, symbol, open_list}
use Rattle.wesl_text_form.specs.Slots.{comes_first}
use Rattle.wesl_text_form.specs.Productions.{Sort, an_expression, an_attribute, a_call, a_kind, a_space, a_type, an_ident, Row, nothing, sym, may_sym, says, opens, closes, own, leaf, optional, attrs, row_of, rows_of_kind}
use Rattle.wesl_text_form.specs.Spelling.{Label, Forest, spells, followed, leaf_slots, first_slots, fits, stands_as, is_kind, label_at}
use Rattle.wesl_text_reading.specs.FirstTokens.{begins_sign, label_behind_expression}
use Rattle.wesl_text_reading.specs.Reading.{Reader, node_of, all_of, behind_attributes, begins_child, label_of_statement, read_row}
use Rattle.wesl_text_reading.proofs.Filled.{no_some, no_true, fill, both}
use Rattle.wesl_text_reading.proofs.Takes.{first_parts}
use Rattle.wesl_text_reading.proofs.Within.{Within, within_below}
use Rattle.wesl_text_reading.proofs.RowReads.{RowOk, row_reads, joined}
use Rattle.wesl_text_reading.proofs.Chains.{Ends, nothing_row, row_token}
use Rattle.wesl_text_reading.proofs.Operands.{InRows, in_rows, Ended, begins_operand, own_first, leaf_first, row_optional, operand_first, call_begins}
use Rattle.wesl_text_reading.proofs.Complete.{ReadsSort}
use Rattle.wesl_text_reading.proofs.Attributes.{row_word}
use Rattle.wesl_text_reading.proofs.Runs.{binder_reads}
use Rattle.wesl_text_reading.proofs.KindsRead.{NoList}
use Rattle.wesl_text_reading.proofs.Worded.{Apart}
use Rattle.wesl_text_reading.proofs.Targets.{ReadsParted, parted_read, attrs_parts}
use Rattle.wesl_text_reading.proofs.Starts.{Goes, operand_goes, operand_no_at}
use Rattle.wesl_text_reading.proofs.Simple.{Begun, told}

-- `;` or `)` comes first
abbrev pub Tail : List Token → Type 0
Tail vs = (ws : List Token) × ((vs ≡ symbol is.Semicolon ∷ ws) ⊎ (vs ≡ symbol is.ParenRight ∷ ws))

pub tail_ends : (vs : List Token) → Tail vs → Ended vs
tail_ends vs t = by t.0 t.1 where
  by : (ws : List Token) → (vs ≡ symbol is.Semicolon ∷ ws) ⊎ (vs ≡ symbol is.ParenRight ∷ ws) → Ended vs
  by ws (inl q) = subst Ended (turned q) (refl, ((refl, refl), refl), refl)
  by ws (inr q) = subst Ended (turned q) (refl, ((refl, refl), refl), refl)

-- what it is not, and what it tells
abbrev Other : List Token → Type 0
Other vs = (begins_sign is.Colon vs ≡ false) × (begins_sign is.Equal vs ≡ false) × (label_behind_expression vs ≡ Some (kind call_statement))

tail_other : (vs : List Token) → Tail vs → Other vs
tail_other vs t = by t.0 t.1 where
  by : (ws : List Token) → (vs ≡ symbol is.Semicolon ∷ ws) ⊎ (vs ≡ symbol is.ParenRight ∷ ws) → Other vs
  by ws (inl q) = subst Other (turned q) (refl, refl, refl)
  by ws (inr q) = subst Other (turned q) (refl, refl, refl)

-- a call that is a statement is a level, as the expression that its tokens begin is
call_within : (n : ℕ) (c g o : Forest) (j : Label) (d x : Forest) → Within n (tree (kind call_statement) c end) → c ≡ tree (kind attributes) g o → o ≡ tree j d x → Within n (tree (at expression_node 0 0) (tree (kind call_expression) (tree j d end) end) end)
call_within zero c g o j d x w q p = absurd w.0
call_within (suc m) c g o j d x w q p = let v : Within m (tree j d x) = subst (λ z. Within m z) p (subst (λ z. Within m z) q w.0).1 in (((v.0, tt), tt), tt)

-- a declaration by its word
pub kind_by : (T : List Token → Type 0) (j : Label) (d : Forest) (vs us : List Token) → fill (first_slots j d (spells d) a_kind) vs ≡ Some us → ((ws : List Token) → T (name (codes "const") ∷ ws)) → (j ≡ kind override_kind → (ws : List Token) → T (name (codes "override") ∷ ws))
    → (j ≡ kind let_kind → (ws : List Token) → T (name (codes "let") ∷ ws)) → ((ws : List Token) → T (name (codes "var") ∷ ws)) → T vs
kind_by T (kind k) d vs us h of_const of_override of_let of_var =
    let x : (r : Row) × (row_of {I = Text} a_kind (kind k) ≡ Some r) × ((fits (kind k) d && stands_as a_kind (kind k) d) ≡ true) × (fill ((spells d).row r) vs ≡ Some us) = first_parts (kind k) d (spells d) a_kind vs us h in
    by x.0 x.3 (in_rows rows_of_kind k x.0 x.1) where
      begun : (w : Text) (row : Row) (r : Row) → says w row ≡ r → fill ((spells d).row r) vs ≡ Some us → ((ws : List Token) → T (name w ∷ ws)) → T vs
      begun w row r q g t = let y : (ws : List Token) × (vs ≡ name w ∷ ws) × (fill ((spells d).row row) ws ≡ Some us) = row_word d w row vs us (subst (λ z. fill ((spells d).row z) vs ≡ Some us) (turned q) g) in subst T (turned y.1) (t y.0)

      by : (r : Row) → fill ((spells d).row r) vs ≡ Some us → InRows rows_of_kind k r → T vs
      by r g (inl q) = begun (codes "const") nothing r q.1 g of_const
      by r g (inr (inl q)) = begun (codes "override") nothing r q.1 g (of_override (ap (λ z. let l : Label = kind z in l) q.0))
      by r g (inr (inr (inl q))) = begun (codes "let") nothing r q.1 g (of_let (ap (λ z. let l : Label = kind z in l) q.0))
      by r g (inr (inr (inr (inl q)))) = begun (codes "var") (optional (opens (own a_space (may_sym is.Comma (closes nothing)))) nothing) r q.1 g of_var
      by r g (inr (inr (inr (inr q)))) = absurd q
kind_by T (at k zero zero) d vs us h of_const of_override of_let of_var = absurd (no_some us h)
kind_by T (at k zero (suc f)) d vs us h of_const of_override of_let of_var = absurd (no_some us h)
kind_by T (at k (suc s) f) d vs us h of_const of_override of_let of_var = absurd (no_some us h)
kind_by T l d vs us h of_const of_override of_let of_var = absurd (no_some us h)

module _ (child part : Sort → Reader) (n : ℕ) (parted : ReadsParted child n (child an_attribute)) (exprs : ReadsSort child n an_expression Ended (child an_expression)) (C : List Token → Type 0)
    (tail : Row) (tail_is : (f : Forest) (vs us : List Token) → fill ((spells f).row tail) vs ≡ Some us → C us → Tail vs) (tail_ok : RowOk child part n C tail) where
  -- a row with attributes is read where what is behind them is, of which something is told
  pub behind_reads : (c : Forest) (row : Row) (T : List Token → Type 0) (ts us : List Token) → fill ((spells c).row (attrs row)) ts ≡ Some us → Within n c → RowOk child part n C row
      → ((o : Forest) (vs : List Token) → fill ((spells o).row row) vs ≡ Some us → (g : Forest) → c ≡ tree (kind attributes) g o → Apart vs × T vs)
      → ((vs : List Token) × (behind_attributes child ts ≡ vs) × T vs) × (C us → read_row child part (attrs row) ts ≡ Some (c, us))
  behind_reads c row T ts us h w ok first =
      let p : (g : Forest) × (o : Forest) × (vs : List Token) × (c ≡ tree (kind attributes) g o) × (fill ((spells g).all an_attribute) ts ≡ Some vs) × (fill ((spells o).row row) vs ≡ Some us) = attrs_parts c row ts us h in
      let v : Within n (tree (kind attributes) p.0 p.1) = subst (λ a. Within n a) p.3 w in
      let b : Apart p.2 × T p.2 = first p.1 p.2 p.5 p.0 p.3 in
      let t : all_of (begins_child child an_attribute) (child an_attribute) (length ts) ts ≡ Some (p.0, p.2) = parted_read child n parted p.0 ts p.2 p.4 (within_below (kind attributes) p.0 p.1 n v) b.0.0 (inl b.0.1) in (
        (p.2, ap (λ a. elim a as (λ _. List Token) [ None ↦ [] | Some x ↦ x.1 ]) t, b.1),
        λ cu. joined (λ f. node_of (kind attributes) f) (all_of (begins_child child an_attribute) (child an_attribute) (length ts) ts) p.0 p.2 (read_row child part row) p.1 us t
            (row_reads child part n p.1 row C ok p.2 us p.5 v.1 cu)
            ∙ ap (λ a. Some (a, us)) (turned p.3),
      )

  -- what is told of a statement
  abbrev Tells : Label → List Token → Type 0
  Tells l vs = (label_of_statement child vs ≡ Some l) × Goes vs

  -- ---- declarations

  abbrev value_row : Row
  value_row = optional (sym is.Equal (own an_expression nothing)) tail

  abbrev typed_row : Row
  typed_row = optional (sym is.Colon (own a_type nothing)) value_row

  abbrev pub declaration_row : Row
  declaration_row = own a_kind (leaf (an_ident binder) typed_row)

  -- what may come behind a type: a value, or what ends the statement
  value_first : (f : Forest) (vs us : List Token) → fill ((spells f).row value_row) vs ≡ Some us → C us → (begins_sign is.Colon vs ≡ false) × Ends vs
  value_first f vs us h cu = by (row_optional f (sym is.Equal (own an_expression nothing)) tail vs us h) where
    by : ((g : Forest) × (fill ((spells g).row tail) vs ≡ Some us)) ⊎ ((d : Forest) × (g : Forest) × (ws : List Token) × (fill ((spells d).row (sym is.Equal (own an_expression nothing))) vs ≡ Some ws) × (fill ((spells g).row tail) ws ≡ Some us)) → (begins_sign is.Colon vs ≡ false) × Ends vs
    by (inl x) = let t : Tail vs = tail_is x.0 vs us x.1 cu in ((tail_other vs t).0, (tail_ends vs t).1.0)
    by (inr x) = let q : (ws : List Token) × (vs ≡ symbol is.Equal ∷ ws) × (fill ((spells x.0).row (own an_expression nothing)) ws ≡ Some x.2) = row_token x.0 is.Equal (own an_expression nothing) vs x.2 x.3 in
        (ap (λ z. begins_sign is.Colon z) q.1, subst Ends (turned q.1) (refl, refl))

  pub declaration_ok : ReadsSort child n a_kind NoList (child a_kind) → ReadsSort child n a_type Ends (child a_type) → RowOk child part n C declaration_row
  declaration_ok kinds types = (
    (λ l c ts vs g v more.
        let x : (l : Label) × (o : Forest) × (ws : List Token) × (fill (leaf_slots (an_ident binder) l o) vs ≡ Some ws) × (fill ((spells o).row typed_row) ws ≡ Some more.1) = leaf_first more.0 (an_ident binder) typed_row vs more.1 more.2 in
        kinds l c ts vs g v (ap (λ z. comes_first open_list z) (binder_reads x.0 x.1 vs x.2 x.3).0.2)),
    (
      (λ l o ts vs us h g e. (binder_reads l o ts vs h).1),
      (
        (λ vs more. (value_first more.0 vs more.1 more.2 more.4).0),
        (λ f ts vs h w more. ap (λ z. begins_sign is.Colon z) (row_token f is.Colon (own a_type nothing) ts vs h).1),
        ((λ l c ts vs g v more. types l c ts vs g v (subst Ends (turned (nothing_row more.0 vs more.1 more.2).1) (value_first more.4.0 more.1 more.4.1 more.4.2 more.4.4).1)), tt),
        (
          (λ vs more. (tail_other vs (tail_is more.0 vs more.1 more.2 more.4)).1),
          (λ f ts vs h w more. ap (λ z. begins_sign is.Equal z) (row_token f is.Equal (own an_expression nothing) ts vs h).1),
          ((λ l c ts vs g v more. exprs l c ts vs g v (subst Ended (turned (nothing_row more.0 vs more.1 more.2).1) (tail_ends more.1 (tail_is more.4.0 more.1 more.4.1 more.4.2 more.4.4)))), tt),
          tail_ok,
        ),
      ),
    ),
  )

  -- what the word of a declaration in a function tells
  kind_tells : (j : Label) (d : Forest) (vs us : List Token) → fill (first_slots j d (spells d) a_kind) vs ≡ Some us → is_kind override_kind (Some j) ≡ false → Apart vs × Tells (kind declaration) vs
  kind_tells j d vs us h e =
      kind_by (λ vs. Apart vs × Tells (kind declaration) vs) j d vs us h (λ ws. ((refl, refl), (refl, (refl, refl, refl)))) (λ q ws. absurd (no_true (turned e ∙ ap (λ z. is_kind override_kind (Some z)) q))) (λ q ws. ((refl, refl), (refl, (refl, refl, refl)))) (λ ws. ((refl, refl), (refl, (refl, refl, refl))))

  pub declaration_reads : ReadsSort child n a_kind NoList (child a_kind) → ReadsSort child n a_type Ends (child a_type) → (c : Forest) (ts us : List Token) → is_kind override_kind (label_at 1 c) ≡ false → fill ((spells c).row (attrs declaration_row)) ts ≡ Some us → Within n c
      → Begun child (kind declaration) ts × (C us → read_row child part (attrs declaration_row) ts ≡ Some (c, us))
  declaration_reads kinds types c ts us e h w =
      let b : ((vs : List Token) × (behind_attributes child ts ≡ vs) × Tells (kind declaration) vs) × (C us → read_row child part (attrs declaration_row) ts ≡ Some (c, us))
      = behind_reads c declaration_row (Tells (kind declaration)) ts us h w (declaration_ok kinds types) (λ o vs k g q.
      let y : (j : Label) × (d : Forest) × (x : Forest) × (ws : List Token) × (o ≡ tree j d x) × (fill (first_slots j d (spells d) a_kind) vs ≡ Some ws) × (fill ((spells x).row (leaf (an_ident binder) typed_row)) ws ≡ Some us) = own_first o a_kind (leaf (an_ident binder) typed_row) vs us k in
      kind_tells y.0 y.1 vs y.3 y.5 (ap (λ z. is_kind override_kind (label_at 1 z)) (turned (q ∙ ap (λ z. tree (kind attributes) g z) y.4)) ∙ e)) in
      ((b.0.0, b.0.1, b.0.2.0, b.0.2.1), b.1)

  -- ---- calls

  pub call_reads : ReadsSort child n a_call (λ us. Unit {0}) (child a_call) → (c : Forest) (ts us : List Token) → fill ((spells c).row (attrs (own a_call tail))) ts ≡ Some us → Within n (tree (kind call_statement) c end) → C us
      → Begun child (kind call_statement) ts × (C us → read_row child part (attrs (own a_call tail)) ts ≡ Some (c, us))
  call_reads calls c ts us h w cu =
      let b : ((vs : List Token) × (behind_attributes child ts ≡ vs) × Tells (kind call_statement) vs) × (C us → read_row child part (attrs (own a_call tail)) ts ≡ Some (c, us))
      = behind_reads c (own a_call tail) (Tells (kind call_statement)) ts us h (within_below (kind call_statement) c end n w) ((λ l c ts vs g v more. calls l c ts vs g v tt), tail_ok) (λ o vs k g q.
      let y : (j : Label) × (d : Forest) × (x : Forest) × (ws : List Token) × (o ≡ tree j d x) × (fill (first_slots j d (spells d) a_call) vs ≡ Some ws) × (fill ((spells x).row tail) ws ≡ Some us) = own_first o a_call tail vs us k in
      let f : fill (first_slots (at expression_node 0 0) (tree (kind call_expression) (tree y.0 y.1 end) end) (spells (tree (kind call_expression) (tree y.0 y.1 end) end)) an_expression) vs ≡ Some y.3
      = both (followed (first_slots y.0 y.1 (spells y.1) a_call) (Some [])) (Some []) vs y.3 y.3 (both (first_slots y.0 y.1 (spells y.1) a_call) (Some []) vs y.3 y.3 y.5 refl) refl in
      let b : begins_operand vs ≡ true = operand_first (at expression_node 0 0) (tree (kind call_expression) (tree y.0 y.1 end) end) vs y.3 f in
      let t : Tail y.3 = tail_is y.2 y.3 us y.6 cu in
      let p : (begins_sign is.ParenLeft vs ≡ false) = ap (λ z. begins_sign is.ParenLeft z) (call_begins y.0 y.1 vs y.3 y.5).2 in (
        (operand_no_at vs b, p),
        (
          told child part n parted exprs C (kind call_statement) (at expression_node 0 0) (tree (kind call_expression) (tree y.0 y.1 end) end) vs y.3 b (exprs (at expression_node 0 0) (tree (kind call_expression) (tree y.0 y.1 end) end) vs y.3 f (call_within n c g o y.0 y.1 y.2 w q y.4) (tail_ends y.3 t)) (tail_other y.3 t).2,
          operand_goes vs b,
        ),
      )) in
      ((b.0.0, b.0.1, b.0.2.0, b.0.2.1), b.1)
