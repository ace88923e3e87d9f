-- Expressions, with the types and calls in them, are read.
use Rattle.std.proofs.Common.{◌≡◌, ◌⊎◌, ℕ, zero, suc, Bool, true, false, not, ◌&&◌, ◌||◌, if◌then◌else◌, List, [], ◌∷◌, length, Some, None, option_and_then, option_map, refl, sym as turned, inl, inr, ap, ◌∙◌, subst}
use Rattle.std.proofs.lemmas.Bool.{le-leb}
use Rattle.wesl_tree_names.specs.Path.{Text}
use Rattle.wesl_tree_syntax.specs.Tree.{Kind, reference, kind, ident, unary, end, tree, TreeOf, literal, call_expression, call, type_or_identifier, type_expression, template_argument, list}
use Rattle.wesl_text_tokens.specs.declared.symbol.Symbol.TheVariants as is
use Rattle.wesl_text_tokens.specs.Tokens.{Token, name, symbol, open_list, close_list}
use Rattle.wesl_text_form.specs.Slots.{comes_first}
use Rattle.wesl_text_form.specs.Names.{is_free}
use Rattle.wesl_text_form.specs.Operators.{Class, operator_class, takes_left}
use Rattle.wesl_text_form.specs.Productions.{Sort, an_expression, a_bare_expression, a_call, a_type, an_argument, an_ident, a_literal, a_path, Row, nothing, sym, opens, closes, own, leaf, commas, optional, row_of, rows_of_bare_expression}
use Rattle.wesl_text_form.specs.Spelling.{Label, Forest, spells, trailing, leaf_slots, first_slots, fits, stands_as}
use Rattle.wesl_text_form.specs.Says.{levels}
use Rattle.wesl_text_reading.specs.Leaves.{Read, after, where_so, read_leaf}
use Rattle.wesl_text_reading.specs.FirstTokens.{begins_sign, begins_path, unary_first, operand_label, begins_expression}
use Rattle.wesl_text_reading.specs.Reading.{Reader, node_of, any, taken, behind_child, begins_child, separate_of, label_first, read_row, read_part, read_node, node, whole, ranked, within_levels, at_level, reading}
use Rattle.wesl_text_reading.proofs.Filled.{no_true, fill}
use Rattle.wesl_text_reading.proofs.Takes.{first_parts}
use Rattle.wesl_text_reading.proofs.Within.{Within, within_below, levels_at_most}
use Rattle.wesl_text_reading.proofs.RowReads.{Rest, RowOk, row_reads}
use Rattle.wesl_text_reading.proofs.Loops.{separate_reads}
use Rattle.wesl_text_reading.proofs.Types.{no_step, path_reads}
use Rattle.wesl_text_reading.proofs.Chains.{Closes, Ends, ReadsExpressions, class_below, expression_parts, is_base, nothing_row, row_token, whole_reads}
use Rattle.wesl_text_reading.proofs.Operands.{InRows, in_rows, Ended, ident_reads, row_opens, row_closes, row_optional, leaf_first, own_first, type_row, call_row, type_label, call_label, argument_label, BeginsType, path_begins_word, type_begins, literal_token, begins_one}

-- a node is read where its label is found and its row is read
pub node_from : (child : Sort → Reader) (s : Sort) (l : Label) (c : Forest) (r : Row) (ts us : List Token) → row_of s l ≡ Some r → (fits l c && stands_as s l c) ≡ true → label_first child s ts ≡ Some l → read_row child (read_part child) r ts ≡ Some (c, us) → node child s ts ≡ Some (node_of l c, us)
node_from child s l c r ts us o f e k =
    ap (λ z. read_node child (read_row child (read_part child)) s z ts) e
    ∙ (ap (λ z. option_and_then (λ row. after (read_row child (read_part child) row ts) (λ f us. where_so (fits l f && stands_as s l f) (node_of l f) us)) z) o
    ∙ (ap (λ z. after z (λ f us. where_so (fits l f && stands_as s l f) (node_of l f) us)) k
    ∙ ap (λ b. if b then Some (node_of l c, us) else None) f))

-- the same, where its row and its label are known
pub node_by : (child : Sort → Reader) (n : ℕ) (s : Sort) (l j : Label) (c : Forest) (row : Row) (C : List Token → Type 0) (ts us : List Token) → fill (first_slots l c (spells c) s) ts ≡ Some us → label_first child s ts ≡ Some j
    → ((r : Row) → row_of s l ≡ Some r → (l ≡ j) × (row ≡ r)) → RowOk child (read_part child) n C row → Within n c → C us → node child s ts ≡ Some (node_of l c, us)
node_by child n s l j c row C ts us h e k ok w cu =
    let x : (r : Row) × (row_of s l ≡ Some r) × ((fits l c && stands_as s l c) ≡ true) × (fill ((spells c).row r) ts ≡ Some us) = first_parts l c (spells c) s ts us h in
    let y : (l ≡ j) × (row ≡ x.0) = k x.0 x.1 in
    node_from child s l c row ts us (x.1 ∙ ap (λ z. Some z) (turned y.1)) x.2 (e ∙ ap (λ z. Some z) (turned y.0))
    (row_reads child (read_part child) n c row C ok ts us (subst (λ z. fill ((spells c).row z) ts ≡ Some us) (turned y.1) x.3) w cu)

module _ (child : Sort → Reader) (n : ℕ) where
  -- what is promised of the readers of expressions in brackets and lists, of arguments, types and calls:
  abbrev pub ReadsSort : Sort → (List Token → Type 0) → (List Token → Read (TreeOf Text)) → Type 0
  ReadsSort s C r = (l : Label) (c : Forest) (ts us : List Token) → fill (first_slots l c (spells c) s) ts ≡ Some us → Within n (tree l c end) → C us → r ts ≡ Some (node_of l c, us)

  within_under : (l : Label) (c : Forest) → Within n (tree l c end) → Within n c
  within_under l c w = within_below l c end n w

  pub argument_reads : ReadsSort an_expression Ended (child an_expression) → ReadsSort an_argument Ended (node child an_argument)
  argument_reads exprs l c ts us h w e =
      node_by child n an_argument l (kind template_argument) c (own an_expression nothing) Ended ts us h refl (argument_label l)
      ((λ l c ts vs g v rest. exprs l c ts vs g v (subst Ended (turned (nothing_row rest.0 vs rest.1 rest.2).1) rest.4)), tt) (within_under l c w) e

  argument_begins : (l : Label) (c : Forest) (ts us : List Token) → fill (first_slots l c (spells c) an_argument) ts ≡ Some us → begins_expression ts ≡ true
  argument_begins l c ts us h =
      let x : (r : Row) × (row_of an_argument l ≡ Some r) × ((fits l c && stands_as an_argument l c) ≡ true) × (fill ((spells c).row r) ts ≡ Some us) = first_parts l c (spells c) an_argument ts us h in
      let y : (j : Label) × (d : Forest) × (o : Forest) × (vs : List Token) × (c ≡ tree j d o) × (fill (first_slots j d (spells d) an_expression) ts ≡ Some vs) × (fill ((spells o).row nothing) vs ≡ Some us)
      = own_first c an_expression nothing ts us (subst (λ z. fill ((spells c).row z) ts ≡ Some us) (turned (argument_label l x.0 x.1).1) x.3) in
      begins_one y.0 y.1 ts y.3 y.5

  -- what stands behind an identifier: a list, or what may come behind a type
  behind_ident : (o : Forest) (vs us : List Token) → fill ((spells o).row (optional (opens (commas list an_argument (closes nothing))) nothing)) vs ≡ Some us → Ends us → begins_sign is.ColonColon vs ≡ false
  behind_ident o vs us h e = by (row_optional o (opens (commas list an_argument (closes nothing))) nothing vs us h) where
    by : ((g : Forest) × (fill ((spells g).row nothing) vs ≡ Some us)) ⊎ ((d : Forest) × (g : Forest) × (ws : List Token) × (fill ((spells d).row (opens (commas list an_argument (closes nothing)))) vs ≡ Some ws) × (fill ((spells g).row nothing) ws ≡ Some us)) → begins_sign is.ColonColon vs ≡ false
    by (inl x) = ap (λ z. begins_sign is.ColonColon z) (nothing_row x.0 vs us x.1).1 ∙ e.1
    by (inr x) = ap (λ z. begins_sign is.ColonColon z) (row_opens x.0 (commas list an_argument (closes nothing)) vs x.2 x.3).1

  -- the row of an identifier with its list
  abbrev ident_row : Row
  ident_row = leaf (an_ident reference) (optional (opens (commas list an_argument (closes nothing))) nothing)

  no_path : (vs : List Token) → Rest child (read_part child) n Ends ident_row vs → (begins_path false vs ≡ false) × (no_step vs ≡ true)
  no_path vs rest =
      let x : (l : Label) × (o : Forest) × (ws : List Token) × (fill (leaf_slots (an_ident reference) l o) vs ≡ Some ws) × (fill ((spells o).row (optional (opens (commas list an_argument (closes nothing))) nothing)) ws ≡ Some rest.1)
      = leaf_first rest.0 (an_ident reference) (optional (opens (commas list an_argument (closes nothing))) nothing) vs rest.1 rest.2 in
      let y : (t : Text) × (is_free t ≡ true) × (x.0 ≡ ident reference t) × (vs ≡ name t ∷ x.2) = ident_reads x.0 x.1 vs x.2 x.3 in
      let z : begins_sign is.ColonColon x.2 ≡ false = behind_ident x.1 x.2 rest.1 x.4 rest.4 in
      (ap (λ s. begins_path false s) y.3 ∙ ap (λ b. b || false) z, ap no_step y.3 ∙ ap not z)

  type_ok : ReadsSort an_argument Ended (child an_argument) → RowOk child (read_part child) n Ends type_row
  type_ok args = (
    (λ vs rest. (no_path vs rest).0),
    (λ f ts vs h w rest. let x : (l : Label) × (o : Forest) × (ws : List Token) × (fill (leaf_slots (a_path false) l o) ts ≡ Some ws) × (fill ((spells o).row nothing) ws ≡ Some vs) = leaf_first f (a_path false) nothing ts vs h in (path_begins_word x.0 x.1 ts x.2 x.3).1),
    ((λ l o ts vs us h g rest. path_reads l o ts vs h (ap no_step (nothing_row o vs us g).1 ∙ (no_path us rest).1)), tt),
    (
      ident_is,
      (
        (λ vs rest. ap (λ z. comes_first open_list z) (nothing_row rest.0 vs rest.1 rest.2).1 ∙ rest.4.0),
        (λ f ts vs h w rest. ap (λ z. comes_first open_list z) (row_opens f (commas list an_argument (closes nothing)) ts vs h).1),
        ((λ g ts vs h w rest. let x : (ws : List Token) × (vs ≡ close_list ∷ ws) × (fill ((spells rest.0).row nothing) ws ≡ Some rest.1) = row_closes rest.0 nothing vs rest.1 rest.2 in list_is g ts vs h w (x.0, x.1)), tt),
        tt,
      ),
    ),
  ) where
    ident_is : (l : Label) (o : Forest) (ts vs us : List Token) → fill (leaf_slots (an_ident reference) l o) ts ≡ Some vs → fill ((spells o).row (optional (opens (commas list an_argument (closes nothing))) nothing)) vs ≡ Some us → Ends us → read_leaf (an_ident reference) ts ≡ Some (l, vs)
    ident_is l o ts vs us h g e =
        let y : (t : Text) × (is_free t ≡ true) × (l ≡ ident reference t) × (ts ≡ name t ∷ vs) = ident_reads l o ts vs h in
        ap (λ s. read_leaf (an_ident reference) s) y.3 ∙ (ap (λ b. if b then Some (ident reference y.0, vs) else None) y.1 ∙ ap (λ z. Some (z, vs)) (turned y.2))

    list_is : (g : Forest) (ts vs : List Token) → fill (option_map trailing ((spells g).separate an_argument)) ts ≡ Some vs → Within n g → (ws : List Token) × (vs ≡ close_list ∷ ws)
        → separate_of (begins_child child an_argument) (child an_argument) (length ts) ts ≡ Some (g, vs)
    list_is g ts vs h w x =
        separate_reads (begins_child child an_argument) (child an_argument) an_argument n Ended args (λ l c ts us h w. argument_begins l c ts us h) (λ us. (refl, ((refl, refl), refl), refl)) g ts vs h w
        (ap (λ z. begins_child child an_argument z) x.1) (ap (λ z. begins_sign is.Comma z) x.1) (subst Ended (turned x.1) (refl, ((refl, refl), refl), refl))

  pub type_reads : ReadsSort an_argument Ended (child an_argument) → ReadsSort a_type Ends (node child a_type)
  type_reads args l c ts us h w e = node_by child n a_type l (kind type_expression) c type_row Ends ts us h refl (type_label l) (type_ok args) (within_under l c w) e

  -- anything may come behind a call
  abbrev pub Anything : List Token → Type 0
  Anything us = Unit {0}

  pub list_of_expressions : ReadsSort an_expression Ended (child an_expression) → (g : Forest) (ts vs ws : List Token) → fill (option_map trailing ((spells g).separate an_expression)) ts ≡ Some vs → Within n g → vs ≡ symbol is.ParenRight ∷ ws
      → separate_of (begins_child child an_expression) (child an_expression) (length ts) ts ≡ Some (g, vs)
  list_of_expressions exprs g ts vs ws h w e =
      separate_reads (begins_child child an_expression) (child an_expression) an_expression n Ended exprs (λ l c ts us h w. begins_one l c ts us h) (λ us. (refl, ((refl, refl), refl), refl)) g ts vs h w
      (ap (λ z. begins_child child an_expression z) e) (ap (λ z. begins_sign is.Comma z) e) (subst Ended (turned e) (refl, ((refl, refl), refl), refl))

  call_reads : ReadsSort an_expression Ended (child an_expression) → ReadsSort a_type Ends (child a_type) → ReadsSort a_call Anything (node child a_call)
  call_reads exprs types l c ts us h w u =
      node_by child n a_call l (kind call) c call_row Anything ts us h refl (call_label l) (
        (λ l c ts vs g v rest. types l c ts vs g v (subst Ends (turned (row_token rest.0 is.ParenLeft (commas list an_expression (sym is.ParenRight nothing)) vs rest.1 rest.2).1) (refl, refl))),
        ((λ g ts vs h w rest. let x : (ws : List Token) × (vs ≡ symbol is.ParenRight ∷ ws) × (fill ((spells rest.0).row nothing) ws ≡ Some rest.1) = row_token rest.0 is.ParenRight nothing vs rest.1 rest.2 in list_of_expressions exprs g ts vs x.0 h w x.1), tt),
      )
      (within_under l c w) tt

  -- what stands behind a type that is read
  behind_type : (ts vs : List Token) (t : TreeOf Text) → child a_type ts ≡ Some (t, vs) → behind_child child a_type ts ≡ vs
  behind_type ts vs t h = ap (λ z. elim z as (λ _. List Token) [ None ↦ [] | Some x ↦ x.1 ]) h

  word_label : (ts vs : List Token) → BeginsType ts → (b : Bool) → begins_sign is.ParenLeft vs ≡ b → (unary_first ts ≡ None) × (operand_label ts vs ≡ (if b then Some (kind call_expression) else Some (kind type_or_identifier)))
  word_label ts vs x b e = (
    ap unary_first x.2,
    ap (λ z. operand_label z vs) x.2 ∙ (ap (λ z. if z then Some (kind literal) else if begins_sign is.ParenLeft vs then Some (kind call_expression) else Some (kind type_or_identifier)) x.3
        ∙ ap (λ z. if z then Some (kind call_expression) else Some (kind type_or_identifier)) e),
  )

  module _ (exprs : ReadsSort an_expression Ended (child an_expression)) (types : ReadsSort a_type Ends (child a_type)) (calls : ReadsSort a_call Anything (child a_call)) where
    abbrev Read_operand : Label → Forest → List Token → List Token → Type 0
    Read_operand b c ts us = (unary_first ts ≡ None) × (node child a_bare_expression ts ≡ Some (node_of b c, us))

    operand_of_row : (k : Kind) (c : Forest) (r : Row) (ts us : List Token) → row_of {I = Text} a_bare_expression (kind k) ≡ Some r → (fits (kind k) c && stands_as a_bare_expression (kind k) c) ≡ true → fill ((spells c).row r) ts ≡ Some us → is_base (kind k) ≡ true → Within n c → Closes us
        → InRows rows_of_bare_expression k r → Read_operand (kind k) c ts us
    operand_of_row k c r ts us o f h s w e (inl q) =
        let g : fill ((spells c).row (leaf a_literal nothing)) ts ≡ Some us = subst (λ z. fill ((spells c).row z) ts ≡ Some us) (turned q.1) h in
        let y : (l : Label) × (d : Forest) × (vs : List Token) × (fill (leaf_slots a_literal l d) ts ≡ Some vs) × (fill ((spells d).row nothing) vs ≡ Some us) = leaf_first c a_literal nothing ts us g in
        let z : (begins_expression ts ≡ true) × (unary_first ts ≡ None) × ((us : List Token) → operand_label ts us ≡ Some (kind literal)) × (read_leaf a_literal ts ≡ Some (y.0, y.2)) = literal_token y.0 y.1 ts y.2 y.3 in (
          z.1,
          node_from child a_bare_expression (kind k) c (leaf a_literal nothing) ts us (o ∙ ap (λ z. Some z) (turned q.1)) f (z.2 (behind_child child a_type ts) ∙ ap (λ z. Some (kind z)) (turned q.0))
              (row_reads child (read_part child) n c (leaf a_literal nothing) Anything ((λ l o ts vs us h e cu. (literal_token l o ts vs h).3), tt) ts us g w tt),
        )
    operand_of_row k c r ts us o f h s w e (inr (inl q)) =
        let g : fill ((spells c).row (sym is.ParenLeft (own an_expression (sym is.ParenRight nothing)))) ts ≡ Some us = subst (λ z. fill ((spells c).row z) ts ≡ Some us) (turned q.1) h in
        let y : (vs : List Token) × (ts ≡ symbol is.ParenLeft ∷ vs) × (fill ((spells c).row (own an_expression (sym is.ParenRight nothing))) vs ≡ Some us) = row_token c is.ParenLeft (own an_expression (sym is.ParenRight nothing)) ts us g in (
          ap unary_first y.1,
          node_from child a_bare_expression (kind k) c (sym is.ParenLeft (own an_expression (sym is.ParenRight nothing))) ts us (o ∙ ap (λ z. Some z) (turned q.1)) f (ap (λ z. operand_label z (behind_child child a_type ts)) y.1 ∙ ap (λ z. Some (kind z)) (turned q.0))
              (row_reads child (read_part child) n c (sym is.ParenLeft (own an_expression (sym is.ParenRight nothing))) Anything
              ((λ l c ts vs g v rest. exprs l c ts vs g v (subst Ended (turned (row_token rest.0 is.ParenRight nothing vs rest.1 rest.2).1) (refl, ((refl, refl), refl), refl))), tt) ts us g w tt),
        )
    operand_of_row k c r ts us o f h s w e (inr (inr (inl q))) = absurd (no_true (ap (λ z. is_base (kind z)) (turned q.0) ∙ s))
    operand_of_row k c r ts us o f h s w e (inr (inr (inr (inl q)))) = absurd (no_true (ap (λ z. is_base (kind z)) (turned q.0) ∙ s))
    operand_of_row k c r ts us o f h s w e (inr (inr (inr (inr (inl q))))) =
        let g : fill ((spells c).row (own a_call nothing)) ts ≡ Some us = subst (λ z. fill ((spells c).row z) ts ≡ Some us) (turned q.1) h in
        let y : (j : Label) × (d : Forest) × (x : Forest) × (vs : List Token) × (c ≡ tree j d x) × (fill (first_slots j d (spells d) a_call) ts ≡ Some vs) × (fill ((spells x).row nothing) vs ≡ Some us) = own_first c a_call nothing ts us g in
        let z : (p : Row) × (row_of a_call y.0 ≡ Some p) × ((fits y.0 y.1 && stands_as a_call y.0 y.1) ≡ true) × (fill ((spells y.1).row p) ts ≡ Some y.3) = first_parts y.0 y.1 (spells y.1) a_call ts y.3 y.5 in
        let t : (j : Label) × (d : Forest) × (x : Forest) × (vs : List Token) × (y.1 ≡ tree j d x) × (fill (first_slots j d (spells d) a_type) ts ≡ Some vs) × (fill ((spells x).row (sym is.ParenLeft (commas list an_expression (sym is.ParenRight nothing)))) vs ≡ Some y.3)
        = own_first y.1 a_type (sym is.ParenLeft (commas list an_expression (sym is.ParenRight nothing))) ts y.3 (subst (λ z. fill ((spells y.1).row z) ts ≡ Some y.3) (turned (call_label y.0 z.0 z.1).1) z.3) in
        let p : (ws : List Token) × (t.3 ≡ symbol is.ParenLeft ∷ ws) × (fill ((spells t.2).row (commas list an_expression (sym is.ParenRight nothing))) ws ≡ Some y.3) = row_token t.2 is.ParenLeft (commas list an_expression (sym is.ParenRight nothing)) t.3 y.3 t.6 in
        let v : Within n (tree t.0 t.1 t.2) = subst (λ z. Within n z) t.4 (within_below y.0 y.1 y.2 n (subst (λ z. Within n z) y.4 w)) in
        let a : child a_type ts ≡ Some (node_of t.0 t.1, t.3) = types t.0 t.1 ts t.3 t.5 (v.0, tt) (subst Ends (turned p.1) (refl, refl)) in
        let b : (unary_first ts ≡ None) × (operand_label ts t.3 ≡ Some (kind call_expression)) = word_label ts t.3 (type_begins t.0 t.1 ts t.3 t.5) true (ap (λ z. begins_sign is.ParenLeft z) p.1) in (
          b.0,
          node_from child a_bare_expression (kind k) c (own a_call nothing) ts us (o ∙ ap (λ z. Some z) (turned q.1)) f
              (ap (λ z. operand_label ts z) (behind_type ts t.3 (node_of t.0 t.1) a) ∙ (b.1 ∙ ap (λ z. Some (kind z)) (turned q.0)))
              (row_reads child (read_part child) n c (own a_call nothing) Anything ((λ l c ts vs g v rest. calls l c ts vs g v tt), tt) ts us g w tt),
        )
    operand_of_row k c r ts us o f h s w e (inr (inr (inr (inr (inr (inl q)))))) =
        let g : fill ((spells c).row (own a_type nothing)) ts ≡ Some us = subst (λ z. fill ((spells c).row z) ts ≡ Some us) (turned q.1) h in
        let y : (j : Label) × (d : Forest) × (x : Forest) × (vs : List Token) × (c ≡ tree j d x) × (fill (first_slots j d (spells d) a_type) ts ≡ Some vs) × (fill ((spells x).row nothing) vs ≡ Some us) = own_first c a_type nothing ts us g in
        let m : y.3 ≡ us = (nothing_row y.2 y.3 us y.6).1 in
        let v : Within n (tree y.0 y.1 y.2) = subst (λ z. Within n z) y.4 w in
        let a : child a_type ts ≡ Some (node_of y.0 y.1, y.3) = types y.0 y.1 ts y.3 y.5 (v.0, tt) (subst Ends (turned m) e.0) in
        let b : (unary_first ts ≡ None) × (operand_label ts y.3 ≡ Some (kind type_or_identifier)) = word_label ts y.3 (type_begins y.0 y.1 ts y.3 y.5) false (ap (λ z. begins_sign is.ParenLeft z) m ∙ e.1) in (
          b.0,
          node_from child a_bare_expression (kind k) c (own a_type nothing) ts us (o ∙ ap (λ z. Some z) (turned q.1)) f
              (ap (λ z. operand_label ts z) (behind_type ts y.3 (node_of y.0 y.1) a) ∙ (b.1 ∙ ap (λ z. Some (kind z)) (turned q.0)))
              (row_reads child (read_part child) n c (own a_type nothing) Ends ((λ l c ts vs g v rest. types l c ts vs g v (subst Ends (turned (nothing_row rest.0 vs rest.1 rest.2).1) rest.4)), tt) ts us g w e.0),
        )
    operand_of_row k c r ts us o f h s w e (inr (inr (inr (inr (inr (inr q)))))) = absurd q

    base_reads : (b : Label) (c : Forest) (ts us : List Token) → fill (first_slots b c (spells c) a_bare_expression) ts ≡ Some us → is_base b ≡ true → Within n c → Closes us → Read_operand b c ts us
    base_reads (kind k) c ts us h s w e =
        let x : (r : Row) × (row_of {I = Text} a_bare_expression (kind k) ≡ Some r) × ((fits (kind k) c && stands_as a_bare_expression (kind k) c) ≡ true) × (fill ((spells c).row r) ts ≡ Some us) = first_parts (kind k) c (spells c) a_bare_expression ts us h in
        operand_of_row k c x.0 ts us x.1 x.2 x.3 s w e (in_rows rows_of_bare_expression k x.0 x.1)
    base_reads (unary o) c ts us h s w e = absurd (no_true s)
    base_reads b c ts us h s w e = absurd (no_true s)

-- ---- all levels

-- the expressions one level down, with any class
pub from_any : (r : (Class → Bool) → Reader) (n : ℕ) → ReadsExpressions r n → (l : Label) (c : Forest) (ts us : List Token) → fill (first_slots l c (spells c) an_expression) ts ≡ Some us → Within n (tree l c end) → Ended us → r any ts ≡ Some (node_of l c, us)
from_any r n ih l c ts us h w e =
    ih any (λ k d x y. refl) l c ts us h w refl e.0 e.1 (ap (λ z. elim z as (λ _. Bool) [ None ↦ true | Some p ↦ takes_left (operator_class p) (class_below c) ]) e.2) (ap (λ z. option_and_then (taken any (class_below c)) z) e.2)

pub complete : (n : ℕ) → ReadsExpressions (λ p ts. at_level n p an_expression ts) n
complete zero p closed l c ts us h w q b e f t = absurd (subst (λ z. Within 0 (tree z c end)) (expression_parts l c ts us h).0 w).0
complete (suc n) p closed l c ts us h w q b e f t =
    let exprs : (l : Label) (c : Forest) (ts us : List Token) → fill (first_slots l c (spells c) an_expression) ts ≡ Some us → Within n (tree l c end) → Ended us → at_level n any an_expression ts ≡ Some (node_of l c, us) = from_any (λ p ts. at_level n p an_expression ts) n (complete n) in
    let read : whole (ranked (at_level n any) 6) (λ p ts. at_level n p an_expression ts) p n ts ≡ Some (node_of l c, us)
    = whole_reads (ranked (at_level n any) 6) (λ p ts. at_level n p an_expression ts) n (complete n)
    (base_reads (ranked (at_level n any) 6) n exprs
    (type_reads (ranked (at_level n any) 1) n (argument_reads (ranked (at_level n any) 0) n exprs))
    (call_reads (ranked (at_level n any) 2) n exprs (type_reads (ranked (at_level n any) 1) n (argument_reads (ranked (at_level n any) 0) n exprs))))
    p closed l c ts us h w q b e f t in
    ap (λ z. within_levels (suc n) z) read ∙ ap (λ b. if b then Some (node_of l c, us) else None) (le-leb (levels (tree l c end)) (suc n) (levels_at_most (tree l c end) (suc n) w))

-- an expression that is said is read
pub expression_reads : (n : ℕ) (l : Label) (c : Forest) (ts us : List Token) → fill (first_slots l c (spells c) an_expression) ts ≡ Some us → Within n (tree l c end) → Ended us → reading n an_expression ts ≡ Some (node_of l c, us)
expression_reads n l c ts us h w e = from_any (λ p ts. at_level n p an_expression ts) n (complete n) l c ts us h w e

-- and a type, and a call
pub type_reads_at : (n : ℕ) (l : Label) (c : Forest) (ts us : List Token) → fill (first_slots l c (spells c) a_type) ts ≡ Some us → Within n (tree l c end) → Ends us → reading n a_type ts ≡ Some (node_of l c, us)
type_reads_at n l c ts us h w e =
    type_reads (ranked (at_level n any) 1) n (argument_reads (ranked (at_level n any) 0) n (from_any (λ p ts. at_level n p an_expression ts) n (complete n))) l c ts us h w e

pub call_reads_at : (n : ℕ) (l : Label) (c : Forest) (ts us : List Token) → fill (first_slots l c (spells c) a_call) ts ≡ Some us → Within n (tree l c end) → Unit {0} → reading n a_call ts ≡ Some (node_of l c, us)
call_reads_at n l c ts us h w u =
    let exprs : (l : Label) (c : Forest) (ts us : List Token) → fill (first_slots l c (spells c) an_expression) ts ≡ Some us → Within n (tree l c end) → Ended us → at_level n any an_expression ts ≡ Some (node_of l c, us) = from_any (λ p ts. at_level n p an_expression ts) n (complete n) in
    call_reads (ranked (at_level n any) 2) n exprs (type_reads (ranked (at_level n any) 1) n (argument_reads (ranked (at_level n any) 0) n exprs)) l c ts us h w u
