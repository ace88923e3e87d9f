-- Statements that end with `;`, and the same without it, as parts of `for`.
use Rattle.std.proofs.Common.{◌≡◌, ◌⊎◌, ℕ, zero, Bool, true, false, not, ◌&&◌, if◌then◌else◌, List, [], ◌∷◌, length, Option, Some, None, refl, sym as turned, inl, inr, ap, ◌∙◌, subst, codes}
use Rattle.std.specs.Option.{option_and_then}
use Rattle.std.proofs.lemmas.Slice.Eq.{bytes_eq-Decides}
use Rattle.wesl_tree_syntax.specs.Tree.{kind, at, ident, reference, binder, word, assignment, end, tree, before, attributes, expression_node, type_or_identifier, type_expression, absent}
use Rattle.wesl_tree_syntax.specs.declared.statement.AssignmentOperator.{AssignmentOperator}
use Rattle.wesl_tree_syntax.specs.declared.statement.AssignmentOperator.TheVariants as assignment_operator
use Rattle.wesl_text_tokens.specs.declared.symbol.Symbol.{Symbol}
use Rattle.wesl_text_tokens.specs.declared.symbol.Symbol.TheVariants as is
use Rattle.wesl_text_tokens.specs.Tokens.{Token, name, symbol}
use Rattle.wesl_text_form.specs.Operators.{assignment_symbol, class_of, is_tight}
use Rattle.wesl_text_form.specs.Productions.{Sort, an_expression, an_attribute, Row, sym, own, target, attrs}
use Rattle.wesl_text_form.specs.Spelling.{Label, Forest, spells, followed, named, label_at, is_wildcard, is_underscore, first_slots, class_at, from_place, leads_to_place, is_target_at, are_apart, ends_open, begins_enclosed}
use Rattle.wesl_text_reading.specs.FirstTokens.{begins_sign, begins_word, behind_first, ends_block, label_behind_expression}
use Rattle.wesl_text_reading.specs.Leaves.{after, where_so}
use Rattle.wesl_text_reading.specs.Reading.{Reader, node_of, all_of, begins_child, behind_attributes, label_of_statement, wildcard, read_target, read_row}
use Rattle.wesl_text_reading.proofs.Filled.{no_some, no_true, fill, parts, both, one, stands}
use Rattle.wesl_text_reading.proofs.Takes.{chosen, where_true}
use Rattle.wesl_text_reading.proofs.Classes.{denied}
use Rattle.wesl_text_reading.proofs.Within.{Within, within_below}
use Rattle.wesl_text_reading.proofs.RowReads.{RowOk, row_reads, joined, target_slots}
use Rattle.wesl_text_reading.proofs.Chains.{row_token, expression_parts}
use Rattle.wesl_text_reading.proofs.Operands.{Ended, begins_operand, own_first, operand_first}
use Rattle.wesl_text_reading.proofs.Complete.{ReadsSort}
use Rattle.wesl_text_reading.proofs.Targets.{PartedLast, ReadsParted, parted_read, attrs_parts, target_first}
use Rattle.wesl_text_reading.proofs.Selectors.{not_word}
use Rattle.wesl_text_reading.proofs.Starts.{Goes, operand_goes, operand_no_at, operand_tells_none}
use Rattle.std.proofs.lemmas.Bool.{and_parts}

-- behind attributes stand tokens that tell this label, and with which statements go on
abbrev pub Begun : (Sort → Reader) → Label → List Token → Type 0
Begun child l ts = (vs : List Token) × (behind_attributes child ts ≡ vs) × (label_of_statement child vs ≡ Some l) × Goes vs

pub assignment_ends : (o : AssignmentOperator) (vs : List Token) → Ended (symbol (assignment_symbol o) ∷ vs)
assignment_ends assignment_operator.Equal vs = (refl, ((refl, refl), refl), refl)
assignment_ends assignment_operator.PlusEqual vs = (refl, ((refl, refl), refl), refl)
assignment_ends assignment_operator.MinusEqual vs = (refl, ((refl, refl), refl), refl)
assignment_ends assignment_operator.TimesEqual vs = (refl, ((refl, refl), refl), refl)
assignment_ends assignment_operator.DivisionEqual vs = (refl, ((refl, refl), refl), refl)
assignment_ends assignment_operator.ModuloEqual vs = (refl, ((refl, refl), refl), refl)
assignment_ends assignment_operator.AndEqual vs = (refl, ((refl, refl), refl), refl)
assignment_ends assignment_operator.OrEqual vs = (refl, ((refl, refl), refl), refl)
assignment_ends assignment_operator.XorEqual vs = (refl, ((refl, refl), refl), refl)
assignment_ends assignment_operator.ShiftLeftAssign vs = (refl, ((refl, refl), refl), refl)
assignment_ends assignment_operator.ShiftRightAssign vs = (refl, ((refl, refl), refl), refl)

pub assignment_tells : (o : AssignmentOperator) (vs : List Token) → label_behind_expression (symbol (assignment_symbol o) ∷ vs) ≡ Some (assignment o)
assignment_tells assignment_operator.Equal vs = refl
assignment_tells assignment_operator.PlusEqual vs = refl
assignment_tells assignment_operator.MinusEqual vs = refl
assignment_tells assignment_operator.TimesEqual vs = refl
assignment_tells assignment_operator.DivisionEqual vs = refl
assignment_tells assignment_operator.ModuloEqual vs = refl
assignment_tells assignment_operator.AndEqual vs = refl
assignment_tells assignment_operator.OrEqual vs = refl
assignment_tells assignment_operator.XorEqual vs = refl
assignment_tells assignment_operator.ShiftLeftAssign vs = refl
assignment_tells assignment_operator.ShiftRightAssign vs = refl

-- `_` is one tree
pub wild_word : (m : Label) → is_underscore m ≡ true → m ≡ ident reference (codes "_")
wild_word (ident reference t) h = ap (λ z. let l : Label = ident reference z in l) ((bytes_eq-Decides t (codes "_")).0 h)
wild_word (ident binder t) h = absurd (no_true h)
wild_word (ident word t) h = absurd (no_true h)
wild_word l h = absurd (no_true h)

pub wild_is : (child : Sort → Reader) (l : Label) (c : Forest) → is_wildcard l c ≡ true → node_of l c ≡ wildcard child
wild_is child (at expression_node zero zero) (tree (kind type_or_identifier) (tree (kind type_expression) (tree (kind absent) end (tree m end (tree (kind absent) end end))) end) end) h =
    ap (λ z. node_of (at expression_node 0 0) (tree (kind type_or_identifier) (tree (kind type_expression) (tree (kind absent) end (tree z end (tree (kind absent) end end))) end) end)) (wild_word m h)
wild_is child l c h = absurd (no_true h)

module _ (child part : Sort → Reader) (n : ℕ) (parted : ReadsParted child n (child an_attribute)) (exprs : ReadsSort child n an_expression Ended (child an_expression)) (C : List Token → Type 0) where
  -- the label of a statement that begins with an expression, by what stands behind it
  pub told : (l : Label) (j : Label) (d : Forest) (vs ws : List Token) → begins_operand vs ≡ true → child an_expression vs ≡ Some (node_of j d, ws) → label_behind_expression ws ≡ Some l → label_of_statement child vs ≡ Some l
  told l j d vs ws b e k =
      ap (λ z. elim z as (λ _. Option Label) [ None ↦ option_and_then (λ x. label_behind_expression x.1) (child an_expression vs) | Some l ↦ Some l ]) (operand_tells_none vs b)
      ∙ (ap (λ z. option_and_then (λ x. label_behind_expression x.1) z) e ∙ k)

  -- attributes are apart from the expression behind them
  apart_by : (c g o : Forest) (j : Label) (d x : Forest) (row : Row) (vs us : List Token) → c ≡ tree (kind attributes) g o → o ≡ tree j d x → are_apart c ≡ true → leads_to_place o ≡ true → fill ((spells o).row (own an_expression row)) vs ≡ Some us → PartedLast g vs
  apart_by c g o j d x row vs us q p a lead h = by (ends_open g) refl where
    e : not (ends_open g && begins_enclosed (from_place 0 o)) ≡ true
    e = ap are_apart (turned q) ∙ a

    same : from_place 0 o ≡ o
    same = ap (λ z. from_place 0 z) p ∙ turned p

    by : (b : Bool) → ends_open g ≡ b → PartedLast g vs
    by false f = inr f
    by true f = inl (target_first o row vs us h lead (ap begins_enclosed (turned same) ∙ (ap (λ z. z && begins_enclosed (from_place 0 o)) (turned f) ∙ denied (ends_open g && begins_enclosed (from_place 0 o)) e)))

  -- a target, a symbol, and what is behind it
  pub target_reads : (l : Label) (s : Symbol) (rest : Row) (c : Forest) (ts us : List Token) → ((vs : List Token) → Ended (symbol s ∷ vs)) → ((vs : List Token) → label_behind_expression (symbol s ∷ vs) ≡ Some l) → RowOk child part n C rest
      → (is_target_at 1 c && are_apart c) ≡ true → fill ((spells c).row (attrs (own an_expression (sym s rest)))) ts ≡ Some us → Within n c
      → Begun child l ts × (C us → read_row child part (attrs (own an_expression (sym s rest))) ts ≡ Some (c, us))
  target_reads l s rest c ts us ends tells ok f h w =
      let p : (g : Forest) × (o : Forest) × (vs : List Token) × (c ≡ tree (kind attributes) g o) × (fill ((spells g).all an_attribute) ts ≡ Some vs) × (fill ((spells o).row (own an_expression (sym s rest))) vs ≡ Some us) = attrs_parts c (own an_expression (sym s rest)) ts us h in
      let y : (j : Label) × (d : Forest) × (x : Forest) × (ws : List Token) × (p.1 ≡ tree j d x) × (fill (first_slots j d (spells d) an_expression) p.2 ≡ Some ws) × (fill ((spells x).row (sym s rest)) ws ≡ Some us) = own_first p.1 an_expression (sym s rest) p.2 us p.5 in
      let z : (ws : List Token) × (y.3 ≡ symbol s ∷ ws) × (fill ((spells y.2).row rest) ws ≡ Some us) = row_token y.2 s rest y.3 us y.6 in
      let b : begins_operand p.2 ≡ true = operand_first y.0 y.1 p.2 y.3 y.5 in
      let v : Within n (tree (kind attributes) p.0 p.1) = subst (λ a. Within n a) p.3 w in
      let v1 : Within n (tree y.0 y.1 y.2) = subst (λ a. Within n a) y.4 v.1 in
      let fs : (is_target_at 1 c ≡ true) × (are_apart c ≡ true) = and_parts (is_target_at 1 c) (are_apart c) f in
      let lead1 : leads_to_place (from_place 1 c) ≡ true = (and_parts (is_tight (class_at 1 c)) (leads_to_place (from_place 1 c)) fs.0).1 in
      let lead : leads_to_place p.1 ≡ true = ap leads_to_place (y.4 ∙ (ap (λ a. from_place 0 a) (turned y.4) ∙ ap (λ a. from_place 1 a) (turned p.3))) ∙ lead1 in
      let a : PartedLast p.0 p.2 = apart_by c p.0 p.1 y.0 y.1 y.2 (sym s rest) p.2 us p.3 y.4 fs.1 lead p.5 in
      let t : all_of (begins_child child an_attribute) (child an_attribute) (length ts) ts ≡ Some (p.0, p.2) = parted_read child n parted p.0 ts p.2 p.4 (within_below (kind attributes) p.0 p.1 n v) (operand_no_at p.2 b) a in
      let e : child an_expression p.2 ≡ Some (node_of y.0 y.1, y.3) = exprs y.0 y.1 p.2 y.3 y.5 (v1.0, tt) (subst Ended (turned z.1) (ends z.0)) in (
        (p.2, ap (λ a. elim a as (λ _. List Token) [ None ↦ [] | Some x ↦ x.1 ]) t, told l y.0 y.1 p.2 y.3 b e (ap label_behind_expression z.1 ∙ tells z.0), operand_goes p.2 b),
        λ cu. joined (λ f. node_of (kind attributes) f) (all_of (begins_child child an_attribute) (child an_attribute) (length ts) ts) p.0 p.2 (read_row child part (own an_expression (sym s rest))) p.1 us t
            (row_reads child part n p.1 (own an_expression (sym s rest)) C
            ((λ l c ts vs g v more. exprs l c ts vs g v (let q : (ws : List Token) × (vs ≡ symbol s ∷ ws) × (fill ((spells more.0).row rest) ws ≡ Some more.1) = row_token more.0 s rest vs more.1 more.2 in subst Ended (turned q.1) (ends q.0))), ok) p.2 us p.5 v.1 cu)
            ∙ ap (λ a. Some (a, us)) (turned p.3),
      )

  -- ---- `=`, whose target may be `_`

  row_target : (f : Forest) (row : Row) (ts us : List Token) → fill ((spells f).row (target row)) ts ≡ Some us → (l : Label) × (c : Forest) × (o : Forest) × (vs : List Token) × (f ≡ tree l c o) × (fill (target_slots l c) ts ≡ Some vs) × (fill ((spells o).row row) vs ≡ Some us)
  row_target end row ts us h = absurd (no_some us h)
  row_target (tree l c o) row ts us h =
      let x : (vs : List Token) × (fill (target_slots l c) ts ≡ Some vs) × (fill ((spells o).row row) vs ≡ Some us) = parts (target_slots l c) ((spells o).row row) ts us (as_one (is_wildcard l c) (is_tight (class_of (label_at 0 c)) && leads_to_place c) h) in
      (l, c, o, x.0, refl, x.1, x.2) where
        as_one : (a b : Bool) → fill (if a then followed (Some (named (codes "_") ∷ [])) ((spells o).row row) else if b then followed (first_slots l c (spells c) an_expression) ((spells o).row row) else None) ts ≡ Some us
            → fill (followed (if a then Some (named (codes "_") ∷ []) else if b then first_slots l c (spells c) an_expression else None) ((spells o).row row)) ts ≡ Some us
        as_one true b g = g
        as_one false true g = g
        as_one false false g = g

  -- `_`, or an expression that leads to a place
  target_is : (l : Label) (c : Forest) (ts vs : List Token) → fill (target_slots l c) ts ≡ Some vs
      → ((node_of l c ≡ wildcard child) × (ts ≡ name (codes "_") ∷ vs)) ⊎ (((is_tight (class_of (label_at 0 c)) && leads_to_place c) ≡ true) × (fill (first_slots l c (spells c) an_expression) ts ≡ Some vs))
  target_is l c ts vs h = by (chosen (is_wildcard l c) (Some (named (codes "_") ∷ [])) (if is_tight (class_of (label_at 0 c)) && leads_to_place c then first_slots l c (spells c) an_expression else None) ts vs h) where
    by : ((is_wildcard l c ≡ true) × (fill (Some (named (codes "_") ∷ [])) ts ≡ Some vs)) ⊎ ((is_wildcard l c ≡ false) × (fill (if is_tight (class_of (label_at 0 c)) && leads_to_place c then first_slots l c (spells c) an_expression else None) ts ≡ Some vs))
        → ((node_of l c ≡ wildcard child) × (ts ≡ name (codes "_") ∷ vs)) ⊎ (((is_tight (class_of (label_at 0 c)) && leads_to_place c) ≡ true) × (fill (first_slots l c (spells c) an_expression) ts ≡ Some vs))
    by (inl x) = inl (wild_is child l c x.0, stands (name (codes "_")) ts vs (one (named (codes "_")) ts vs x.1))
    by (inr x) = inr (where_true (is_tight (class_of (label_at 0 c)) && leads_to_place c) (first_slots l c (spells c) an_expression) ts vs x.1)

  one_target_reads : (l : Label) (c : Forest) (ts vs : List Token) → fill (target_slots l c) ts ≡ Some vs → Within n (tree l c end) → Ended vs → read_target child ts ≡ Some (node_of l c, vs)
  one_target_reads l c ts vs h w e = by (target_is l c ts vs h) where
    by : ((node_of l c ≡ wildcard child) × (ts ≡ name (codes "_") ∷ vs)) ⊎ (((is_tight (class_of (label_at 0 c)) && leads_to_place c) ≡ true) × (fill (first_slots l c (spells c) an_expression) ts ≡ Some vs)) → read_target child ts ≡ Some (node_of l c, vs)
    by (inl x) = ap (λ z. read_target child z) x.1 ∙ ap (λ z. Some (z, vs)) (turned x.0)
    by (inr x) =
        ap (λ b. if b then Some (wildcard child, behind_first ts) else after (child an_expression ts) (λ t us. where_so (is_tight (class_of (label_at 0 t.children)) && leads_to_place (before t end)) t us)) (not_word (codes "_") refl ts (operand_first l c ts vs x.1))
        ∙ (ap (λ z. after z (λ t us. where_so (is_tight (class_of (label_at 0 t.children)) && leads_to_place (before t end)) t us)) (exprs l c ts vs x.1 w e)
        ∙ (ap (λ z. where_so (is_tight (class_of (label_at 0 c)) && leads_to_place (tree z c end)) (node_of l c) vs) (expression_parts l c ts vs x.1).0
        ∙ ap (λ b. if b then Some (node_of l c, vs) else None) x.0))

  abbrev equal_row : Row → Row
  equal_row tail = target (sym is.Equal (own an_expression tail))

  equals_ended : (f : Forest) (row : Row) (vs us : List Token) → fill ((spells f).row (sym is.Equal row)) vs ≡ Some us → Ended vs
  equals_ended f row vs us h = let q : (ws : List Token) × (vs ≡ symbol is.Equal ∷ ws) × (fill ((spells f).row row) ws ≡ Some us) = row_token f is.Equal row vs us h in subst Ended (turned q.1) (assignment_ends assignment_operator.Equal q.0)

  -- what a target begins with, behind attributes
  target_begun : (g o : Forest) (tail : Row) (vs us : List Token) → are_apart (tree (kind attributes) g o) ≡ true → fill ((spells o).row (equal_row tail)) vs ≡ Some us → Within n o
      → (begins_sign is.At vs ≡ false) × PartedLast g vs × (label_of_statement child vs ≡ Some (assignment assignment_operator.Equal)) × Goes vs
  target_begun g o tail vs us a h w = let y : (j : Label) × (d : Forest) × (x : Forest) × (ws : List Token) × (o ≡ tree j d x) × (fill (target_slots j d) vs ≡ Some ws) × (fill ((spells x).row (sym is.Equal (own an_expression tail))) ws ≡ Some us) = row_target o (sym is.Equal (own an_expression tail)) vs us h in
      by y.0 y.1 y.2 y.3 y.4 y.6 (target_is y.0 y.1 vs y.3 y.5) where
        by : (j : Label) (d x : Forest) (ws : List Token) → o ≡ tree j d x → fill ((spells x).row (sym is.Equal (own an_expression tail))) ws ≡ Some us
            → ((node_of j d ≡ wildcard child) × (vs ≡ name (codes "_") ∷ ws)) ⊎ (((is_tight (class_of (label_at 0 d)) && leads_to_place d) ≡ true) × (fill (first_slots j d (spells d) an_expression) vs ≡ Some ws))
            → (begins_sign is.At vs ≡ false) × PartedLast g vs × (label_of_statement child vs ≡ Some (assignment assignment_operator.Equal)) × Goes vs
        by j d x ws q k (inl z) = (ap (λ s. begins_sign is.At s) z.1, inl (ap (λ s. begins_sign is.ParenLeft s) z.1), ap (λ s. label_of_statement child s) z.1, (ap ends_block z.1, ap (λ s. begins_word (codes "else") s) z.1, ap (λ s. begins_sign is.ParenRight s) z.1))
        by j d x ws q k (inr z) =
            let b : begins_operand vs ≡ true = operand_first j d vs ws z.1 in
            let lead : leads_to_place o ≡ true = ap leads_to_place q ∙ (ap (λ s. leads_to_place (tree s d x)) (expression_parts j d vs ws z.1).0 ∙ (and_parts (is_tight (class_of (label_at 0 d))) (leads_to_place d) z.0).1) in (
              operand_no_at vs b,
              apart_by (tree (kind attributes) g o) g o j d x (sym is.Equal (own an_expression tail)) vs us refl q a lead (subst (λ s. fill ((spells s).row (own an_expression (sym is.Equal (own an_expression tail)))) vs ≡ Some us) (turned q) (both (first_slots j d (spells d) an_expression) ((spells x).row (sym is.Equal (own an_expression tail))) vs ws us z.1 k)),
              told (assignment assignment_operator.Equal) j d vs ws b (exprs j d vs ws z.1 ((subst (λ s. Within n s) q w).0, tt) (equals_ended x (own an_expression tail) ws us k)) (ap label_behind_expression (row_token x is.Equal (own an_expression tail) ws us k).1),
              operand_goes vs b,
            )

  pub equal_reads : (tail : Row) (c : Forest) (ts us : List Token) → ((f : Forest) (vs us : List Token) → fill ((spells f).row tail) vs ≡ Some us → C us → Ended vs) → RowOk child part n C tail
      → are_apart c ≡ true → fill ((spells c).row (attrs (equal_row tail))) ts ≡ Some us → Within n c
      → Begun child (assignment assignment_operator.Equal) ts × (C us → read_row child part (attrs (equal_row tail)) ts ≡ Some (c, us))
  equal_reads tail c ts us ends ok f h w =
      let p : (g : Forest) × (o : Forest) × (vs : List Token) × (c ≡ tree (kind attributes) g o) × (fill ((spells g).all an_attribute) ts ≡ Some vs) × (fill ((spells o).row (equal_row tail)) vs ≡ Some us) = attrs_parts c (equal_row tail) ts us h in
      let v : Within n (tree (kind attributes) p.0 p.1) = subst (λ a. Within n a) p.3 w in
      let b : (begins_sign is.At p.2 ≡ false) × PartedLast p.0 p.2 × (label_of_statement child p.2 ≡ Some (assignment assignment_operator.Equal)) × Goes p.2 = target_begun p.0 p.1 tail p.2 us (ap are_apart (turned p.3) ∙ f) p.5 v.1 in
      let t : all_of (begins_child child an_attribute) (child an_attribute) (length ts) ts ≡ Some (p.0, p.2) = parted_read child n parted p.0 ts p.2 p.4 (within_below (kind attributes) p.0 p.1 n v) b.0 b.1 in (
        (p.2, ap (λ a. elim a as (λ _. List Token) [ None ↦ [] | Some x ↦ x.1 ]) t, b.2, b.3),
        λ cu. joined (λ f. node_of (kind attributes) f) (all_of (begins_child child an_attribute) (child an_attribute) (length ts) ts) p.0 p.2 (read_row child part (equal_row tail)) p.1 us t
            (row_reads child part n p.1 (equal_row tail) C
            ((λ l c ts vs g v more. one_target_reads l c ts vs g v (equals_ended more.0 (own an_expression tail) vs more.1 more.2)), ((λ l c ts vs g v more. exprs l c ts vs g v (ends more.0 vs more.1 more.2 more.4)), ok)) p.2 us p.5 v.1 cu)
            ∙ ap (λ a. Some (a, us)) (turned p.3),
      )
