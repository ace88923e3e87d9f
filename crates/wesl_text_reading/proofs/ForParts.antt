-- Parts of `for`: simple statements without their `;`.
use Rattle.std.proofs.Common.{◌≡◌, ℕ, zero, Bool, true, false, not, ◌&&◌, ◌||◌, if◌then◌else◌, List, [], ◌∷◌, ◌++◌, Option, Some, None, option_map, option_and_then, refl, sym as turned, ap, ◌∙◌, subst}
use Rattle.wesl_tree_names.specs.Path.{Text}
use Rattle.wesl_tree_syntax.specs.Tree.{Kind, binder, kind, at, assignment, end, tree, TreeOf, before, statement_node, declaration, increment, decrement, call_statement, override_kind}
use Rattle.wesl_tree_syntax.specs.Kinds.{same_kind}
use Rattle.wesl_tree_syntax.specs.declared.statement.AssignmentOperator.{AssignmentOperator}
use Rattle.wesl_tree_syntax.specs.declared.statement.AssignmentOperator.TheVariants as assignment_operator
use Rattle.wesl_text_tokens.specs.declared.symbol.Symbol.{Symbol}
use Rattle.wesl_text_tokens.specs.declared.symbol.Symbol.TheVariants as is
use Rattle.wesl_text_tokens.specs.Tokens.{Token, symbol}
use Rattle.wesl_text_form.specs.Slots.{Slot}
use Rattle.wesl_text_form.specs.Operators.{assignment_symbol}
use Rattle.wesl_text_form.specs.Productions.{Sort, an_expression, an_attribute, a_call, a_kind, a_type, a_statement, a_bare_statement, an_ident, Row, nothing, sym, own, leaf, optional, target, attrs, row_of}
use Rattle.wesl_text_form.specs.Spelling.{Label, Forest, Slots, spells, followed, first_slots, fits, stands_as, is_simple, is_kind, label_at, are_apart, is_target_at, without_last}
use Rattle.wesl_text_reading.specs.Leaves.{Read, after, where_so}
use Rattle.wesl_text_reading.specs.FirstTokens.{label_behind_expression, begins_part, begins_sign}
use Rattle.wesl_text_reading.specs.Reading.{Reader, node_of, label_of_statement, read_row, read_node, read_part, without_end}
use Rattle.wesl_text_reading.proofs.Filled.{no_some, of_some, no_true, fill}
use Rattle.wesl_text_reading.proofs.Classes.{denied}
use Rattle.wesl_text_reading.proofs.KindsAgain.{kind_is}
use Rattle.wesl_text_reading.proofs.Within.{Within, within_below}
use Rattle.wesl_text_reading.proofs.RowReads.{RowOk}
use Rattle.wesl_text_reading.proofs.Chains.{Ends, nothing_row}
use Rattle.wesl_text_reading.proofs.Operands.{Ended}
use Rattle.wesl_text_reading.proofs.Complete.{ReadsSort}
use Rattle.wesl_text_reading.proofs.KindsRead.{NoList}
use Rattle.wesl_text_reading.proofs.Targets.{ReadsParted}
use Rattle.wesl_text_reading.proofs.Unended.{ends_with, unended_fills}
use Rattle.wesl_text_reading.proofs.Simple.{Begun, assignment_ends, assignment_tells, target_reads, equal_reads}
use Rattle.wesl_text_reading.proofs.SimpleWords.{Tail, tail_ends, declaration_reads, call_reads}
use Rattle.std.proofs.lemmas.Bool.{and_parts}

-- ---- a node without its last token

pub unended_parts : (l : Label) (c : Forest) (s : Sort) (ts us : List Token) → fill (option_map without_last (first_slots l c (spells c) s)) ts ≡ Some us
    → (r : Row) × (row_of s l ≡ Some r) × ((fits l c && stands_as s l c) ≡ true) × (fill (option_map without_last ((spells c).row r)) ts ≡ Some us)
unended_parts l c s ts us h = at (row_of s l) refl h where
  at : (o : Option Row) → row_of s l ≡ o → fill (option_map without_last (option_and_then (λ r. if fits l c && stands_as s l c then (spells c).row r else None) o)) ts ≡ Some us
      → (r : Row) × (row_of s l ≡ Some r) × ((fits l c && stands_as s l c) ≡ true) × (fill (option_map without_last ((spells c).row r)) ts ≡ Some us)
  at None e g = absurd (no_some us g)
  at (Some r) e g = by (fits l c && stands_as s l c) refl g where
    by : (b : Bool) → (fits l c && stands_as s l c) ≡ b → fill (option_map without_last (if b then (spells c).row r else None)) ts ≡ Some us → (r : Row) × (row_of s l ≡ Some r) × ((fits l c && stands_as s l c) ≡ true) × (fill (option_map without_last ((spells c).row r)) ts ≡ Some us)
    by true f k = (r, e, f, k)
    by false f k = absurd (no_some us k)

none_behind : (ss : List Slot) → ss ++ [] ≡ ss
none_behind [] = refl
none_behind (s ∷ ss) = ap (λ z. s ∷ z) (none_behind ss)

pub alone_again : (o : Slots) → followed o (Some []) ≡ o
alone_again None = refl
alone_again (Some ss) = ap (λ z. Some z) (none_behind ss)

pub no_slots : (o : Slots) → followed o None ≡ None
no_slots None = refl
no_slots (Some ss) = refl

-- the statement in a node with its span
pub unended_one : (c : Forest) (ts us : List Token) → fill (option_map without_last ((spells c).row (own a_bare_statement nothing))) ts ≡ Some us
    → (j : Label) × (d : Forest) × (c ≡ tree j d end) × (fill (option_map without_last (first_slots j d (spells d) a_bare_statement)) ts ≡ Some us)
unended_one end ts us h = absurd (no_some us h)
unended_one (tree j d end) ts us h = (j, d, refl, ap (λ z. fill (option_map without_last z) ts) (turned (alone_again (first_slots j d (spells d) a_bare_statement))) ∙ h)
unended_one (tree j d (tree k e o)) ts us h = absurd (no_some us (ap (λ z. fill (option_map without_last z) ts) (turned (no_slots (first_slots j d (spells d) a_bare_statement))) ∙ h))

pub statement_is : (l : Label) (r : Row) → row_of a_statement l ≡ Some r → (l ≡ at statement_node 0 0) × (own a_bare_statement nothing ≡ r)
statement_is (at k zero zero) r h = by (same_kind statement_node k) refl h where
  by : (b : Bool) → same_kind statement_node k ≡ b → (if b then Some (own a_bare_statement nothing) else None) ≡ Some r → ((let l : Label = at k 0 0 in l) ≡ at statement_node 0 0) × (own a_bare_statement nothing ≡ r)
  by true e g = (ap (λ z. let l : Label = at z 0 0 in l) (turned (kind_is statement_node k e)), of_some (own a_bare_statement nothing) r g)
  by false e g = absurd (no_some r g)
statement_is (kind k) r h = absurd (no_some r h)
statement_is l r h = absurd (no_some r h)

-- no part begins with `;` or `)`
part_begins : (child : Sort → Reader) (j : Label) (ts : List Token) → Begun child j ts → is_simple (Some j) ≡ true → begins_part ts ≡ true
part_begins child j [] b s = refl
part_begins child j (symbol is.Semicolon ∷ ts) b s = absurd (no_true (ap (λ z. is_simple z) (ap (λ z. label_of_statement child z) b.1 ∙ b.2) ∙ s))
part_begins child j (symbol is.ParenRight ∷ ts) b s = absurd (no_true (turned (ap (λ z. begins_sign is.ParenRight z) b.1 ∙ b.3.2)))
part_begins child j (t ∷ ts) b s = refl

module _ (child : Sort → Reader) (n : ℕ) (parted : ReadsParted child n (child an_attribute)) (exprs : ReadsSort child n an_expression Ended (child an_expression))
    (kinds : ReadsSort child n a_kind NoList (child a_kind)) (types : ReadsSort child n a_type Ends (child a_type)) (calls : ReadsSort child n a_call (λ us. Unit {0}) (child a_call)) where
  -- a part that is read, and begins where one does
  abbrev PartRead : Label → Forest → List Token → List Token → Type 0
  PartRead j d ts us = (begins_part ts ≡ true) × (read_part child a_statement ts ≡ Some (node_of (at statement_node 0 0) (tree j d end), us))

  -- reads no part of a part
  abbrev no_part : Sort → Reader
  no_part t us = None

  -- a simple statement is read where its label is told and its row is read
  from_row : (j : Label) (d : Forest) (r : Row) (ts us : List Token) → row_of a_bare_statement j ≡ Some r → (fits j d && stands_as a_bare_statement j d) ≡ true → is_simple (Some j) ≡ true → Begun child j ts → read_row child no_part (without_end child r) ts ≡ Some (d, us)
      → PartRead j d ts us
  from_row j d r ts us o f s b e = (
    part_begins child j ts b s,
    ap (λ z. elim z as (λ _. Read (TreeOf Text)) [
      | None ↦ None
      | Some l ↦ if is_simple (Some l) then after (read_node child (λ row. read_row child no_part (without_end child row)) a_bare_statement (Some l) ts) (λ t us. Some (node_of (at statement_node 0 0) (before t end), us)) else None
    ]) (ap (λ z. label_of_statement child z) b.1 ∙ b.2)
        ∙ (ap (λ z. if z then after (read_node child (λ row. read_row child no_part (without_end child row)) a_bare_statement (Some j) ts) (λ t us. Some (node_of (at statement_node 0 0) (before t end), us)) else None) s
        ∙ (ap (λ z. after (option_and_then (λ row. after (read_row child no_part (without_end child row) ts) (λ f us. where_so (fits j f && stands_as a_bare_statement j f) (node_of j f) us)) z) (λ t us. Some (node_of (at statement_node 0 0) (before t end), us))) o
        ∙ (ap (λ z. after (after z (λ f us. where_so (fits j f && stands_as a_bare_statement j f) (node_of j f) us)) (λ t us. Some (node_of (at statement_node 0 0) (before t end), us))) e
        ∙ ap (λ z. after (where_so z (node_of j d) us) (λ t us. Some (node_of (at statement_node 0 0) (before t end), us))) f))),
  )

  -- the same by the row of its label
  with_row : (j : Label) (d : Forest) (row : Row) (ts us : List Token) → row_of a_bare_statement j ≡ Some row → ends_with row ≡ true → is_simple (Some j) ≡ true → fill (option_map without_last (first_slots j d (spells d) a_bare_statement)) ts ≡ Some us
      → ((fits j d && stands_as a_bare_statement j d) ≡ true → fill ((spells d).row (without_end child row)) ts ≡ Some us → Begun child j ts × (read_row child no_part (without_end child row) ts ≡ Some (d, us)))
      → PartRead j d ts us
  with_row j d row ts us o e s h f =
      let x : (r : Row) × (row_of a_bare_statement j ≡ Some r) × ((fits j d && stands_as a_bare_statement j d) ≡ true) × (fill (option_map without_last ((spells d).row r)) ts ≡ Some us) = unended_parts j d a_bare_statement ts us h in
      let q : row ≡ x.0 = of_some row x.0 (turned o ∙ x.1) in
      let y : Begun child j ts × (read_row child no_part (without_end child row) ts ≡ Some (d, us)) = f x.2 (unended_fills child d row e ts us (subst (λ z. fill (option_map without_last ((spells d).row z)) ts ≡ Some us) (turned q) x.3)) in
      from_row j d row ts us o x.2 s y.0 y.1

  -- what ends a part
  tail_none : (f : Forest) (vs us : List Token) → fill ((spells f).row nothing) vs ≡ Some us → Tail us → Tail vs
  tail_none f vs us g c = subst Tail (turned (nothing_row f vs us g).1) c

  -- a target, a symbol and what is behind it, without `;`
  target_part : (j : Label) (d : Forest) (s : Symbol) (rest last : Row) (ts us : List Token) → row_of a_bare_statement j ≡ Some (attrs (own an_expression (sym s last))) → ends_with (attrs (own an_expression (sym s last))) ≡ true → without_end child (sym s last) ≡ sym s rest → is_simple (Some j) ≡ true
      → ((vs : List Token) → Ended (symbol s ∷ vs)) → ((vs : List Token) → label_behind_expression (symbol s ∷ vs) ≡ Some j) → RowOk child no_part n Tail rest → ((fits j d && stands_as a_bare_statement j d) ≡ true → (is_target_at 1 d && are_apart d) ≡ true)
      → fill (option_map without_last (first_slots j d (spells d) a_bare_statement)) ts ≡ Some us → Within n d → Tail us → PartRead j d ts us
  target_part j d s rest last ts us o e q i ends tells ok f h w t =
      with_row j d (attrs (own an_expression (sym s last))) ts us o e i h (λ g k.
      let y : Begun child j ts × (Tail us → read_row child no_part (attrs (own an_expression (sym s rest))) ts ≡ Some (d, us))
      = target_reads child no_part n parted exprs Tail j s rest d ts us ends tells ok (f g) (subst (λ z. fill ((spells d).row (attrs (own an_expression z))) ts ≡ Some us) q k) w in
      (y.0, subst (λ z. read_row child no_part (attrs (own an_expression z)) ts ≡ Some (d, us)) (turned q) (y.1 t)))

  abbrev value_ok : RowOk child no_part n Tail (own an_expression nothing)
  value_ok = ((λ l c ts vs g v more. exprs l c ts vs g v (tail_ends vs (tail_none more.0 vs more.1 more.2 more.4))), tt)

  assigned : (o : AssignmentOperator) (d : Forest) (ts us : List Token) → row_of {I = Text} a_bare_statement (assignment o) ≡ Some (attrs (own an_expression (sym (assignment_symbol o) (own an_expression (sym is.Semicolon nothing))))) → ends_with (attrs (own an_expression (sym (assignment_symbol o) (own an_expression (sym is.Semicolon nothing))))) ≡ true
      → ((fits (assignment o) d && stands_as a_bare_statement (assignment o) d) ≡ true → (is_target_at 1 d && are_apart d) ≡ true) → fill (option_map without_last (first_slots (assignment o) d (spells d) a_bare_statement)) ts ≡ Some us → Within n d → Tail us
      → PartRead (assignment o) d ts us
  assigned o d ts us r e f h w t = target_part (assignment o) d (assignment_symbol o) (own an_expression nothing) (own an_expression (sym is.Semicolon nothing)) ts us r e refl refl (assignment_ends o) (assignment_tells o) value_ok f h w t

  fit : (d : Forest) → ((is_target_at 1 d && are_apart d) && true) ≡ true → (is_target_at 1 d && are_apart d) ≡ true
  fit d f = (and_parts (is_target_at 1 d && are_apart d) true f).0

  assignment_part : (o : AssignmentOperator) (d : Forest) (ts us : List Token) → fill (option_map without_last (first_slots (assignment o) d (spells d) a_bare_statement)) ts ≡ Some us → Within n d → Tail us → PartRead (assignment o) d ts us
  assignment_part assignment_operator.Equal d ts us h w t =
      with_row (assignment assignment_operator.Equal) d (attrs (target (sym is.Equal (own an_expression (sym is.Semicolon nothing))))) ts us refl refl refl h (λ f k.
      let y : Begun child (assignment assignment_operator.Equal) ts × (Tail us → read_row child no_part (attrs (target (sym is.Equal (own an_expression nothing)))) ts ≡ Some (d, us))
      = equal_reads child no_part n parted exprs Tail nothing d ts us (λ f vs us g c. tail_ends vs (tail_none f vs us g c)) tt (and_parts (are_apart d) true f).0 k w in
      (y.0, y.1 t))
  assignment_part assignment_operator.PlusEqual d ts us h w t = assigned assignment_operator.PlusEqual d ts us refl refl (fit d) h w t
  assignment_part assignment_operator.MinusEqual d ts us h w t = assigned assignment_operator.MinusEqual d ts us refl refl (fit d) h w t
  assignment_part assignment_operator.TimesEqual d ts us h w t = assigned assignment_operator.TimesEqual d ts us refl refl (fit d) h w t
  assignment_part assignment_operator.DivisionEqual d ts us h w t = assigned assignment_operator.DivisionEqual d ts us refl refl (fit d) h w t
  assignment_part assignment_operator.ModuloEqual d ts us h w t = assigned assignment_operator.ModuloEqual d ts us refl refl (fit d) h w t
  assignment_part assignment_operator.AndEqual d ts us h w t = assigned assignment_operator.AndEqual d ts us refl refl (fit d) h w t
  assignment_part assignment_operator.OrEqual d ts us h w t = assigned assignment_operator.OrEqual d ts us refl refl (fit d) h w t
  assignment_part assignment_operator.XorEqual d ts us h w t = assigned assignment_operator.XorEqual d ts us refl refl (fit d) h w t
  assignment_part assignment_operator.ShiftLeftAssign d ts us h w t = assigned assignment_operator.ShiftLeftAssign d ts us refl refl (fit d) h w t
  assignment_part assignment_operator.ShiftRightAssign d ts us h w t = assigned assignment_operator.ShiftRightAssign d ts us refl refl (fit d) h w t

  -- those of the other kinds
  abbrev Part : Kind → Type 0
  Part k = (d : Forest) (ts us : List Token) → fill (option_map without_last (first_slots (kind k) d (spells d) a_bare_statement)) ts ≡ Some us → Within n (tree (kind k) d end) → Tail us → PartRead (kind k) d ts us

  increment_part : Part increment
  increment_part d ts us h w t = target_part (kind increment) d is.PlusPlus nothing (sym is.Semicolon nothing) ts us refl refl refl refl (λ vs. (refl, ((refl, refl), refl), refl)) (λ vs. refl) tt (fit d) h (within_below (kind increment) d end n w) t

  decrement_part : Part decrement
  decrement_part d ts us h w t = target_part (kind decrement) d is.MinusMinus nothing (sym is.Semicolon nothing) ts us refl refl refl refl (λ vs. (refl, ((refl, refl), refl), refl)) (λ vs. refl) tt (fit d) h (within_below (kind decrement) d end n w) t

  declaration_part : Part declaration
  declaration_part d ts us h w t =
      with_row (kind declaration) d (attrs (own a_kind (leaf (an_ident binder) (optional (sym is.Colon (own a_type nothing)) (optional (sym is.Equal (own an_expression nothing)) (sym is.Semicolon nothing)))))) ts us refl refl refl h (λ f k.
      let y : Begun child (kind declaration) ts × (Tail us → read_row child no_part (attrs (own a_kind (leaf (an_ident binder) (optional (sym is.Colon (own a_type nothing)) (optional (sym is.Equal (own an_expression nothing)) nothing))))) ts ≡ Some (d, us))
      = declaration_reads child no_part n parted exprs Tail nothing (λ f vs us g c. tail_none f vs us g c) tt kinds types d ts us
      (denied (is_kind override_kind (label_at 1 d)) (and_parts (fits (kind declaration) d) (not (is_kind override_kind (label_at 1 d))) f).1) k (within_below (kind declaration) d end n w) in
      (y.0, y.1 t))

  call_part : Part call_statement
  call_part d ts us h w t =
      with_row (kind call_statement) d (attrs (own a_call (sym is.Semicolon nothing))) ts us refl refl refl h (λ f k.
      let y : Begun child (kind call_statement) ts × (Tail us → read_row child no_part (attrs (own a_call nothing)) ts ≡ Some (d, us)) = call_reads child no_part n parted exprs Tail nothing (λ f vs us g c. tail_none f vs us g c) tt calls d ts us k w t in
      (y.0, y.1 t))

  kind_part : (k : Kind) → is_simple (Some (kind k)) ≡ true → Part k
  kind_part k s = by (same_kind declaration k) (same_kind increment k) (same_kind decrement k) (same_kind call_statement k) refl refl refl refl s where
    by : (a b c e : Bool) → same_kind declaration k ≡ a → same_kind increment k ≡ b → same_kind decrement k ≡ c → same_kind call_statement k ≡ e → (a || b || c || e) ≡ true → Part k
    by true b c e p q r u z = subst Part (kind_is declaration k p) declaration_part
    by false true c e p q r u z = subst Part (kind_is increment k q) increment_part
    by false false true e p q r u z = subst Part (kind_is decrement k r) decrement_part
    by false false false true p q r u z = subst Part (kind_is call_statement k u) call_part
    by false false false false p q r u z = absurd (no_true z)

  bare_part_reads : (j : Label) (d : Forest) (ts us : List Token) → fill (option_map without_last (first_slots j d (spells d) a_bare_statement)) ts ≡ Some us → Within n (tree j d end) → is_simple (Some j) ≡ true → Tail us
      → PartRead j d ts us
  bare_part_reads (assignment o) d ts us h w s t = assignment_part o d ts us h (within_below (assignment o) d end n w) t
  bare_part_reads (kind k) d ts us h w s t = kind_part k s d ts us h w t
  bare_part_reads l d ts us h w s t = absurd (no_true s)

  -- a part of `for` is read
  pub part_reads : (l : Label) (c : Forest) (ts us : List Token) → fill (option_map without_last (first_slots l c (spells c) a_statement)) ts ≡ Some us → Within n (tree l c end) → is_simple (label_at 0 c) ≡ true → Tail us → (begins_part ts ≡ true) × (read_part child a_statement ts ≡ Some (node_of l c, us))
  part_reads l c ts us h w s t =
      let x : (r : Row) × (row_of a_statement l ≡ Some r) × ((fits l c && stands_as a_statement l c) ≡ true) × (fill (option_map without_last ((spells c).row r)) ts ≡ Some us) = unended_parts l c a_statement ts us h in
      let z : (l ≡ at statement_node 0 0) × (own a_bare_statement nothing ≡ x.0) = statement_is l x.0 x.1 in
      let y : (j : Label) × (d : Forest) × (c ≡ tree j d end) × (fill (option_map without_last (first_slots j d (spells d) a_bare_statement)) ts ≡ Some us) = unended_one c ts us (subst (λ z. fill (option_map without_last ((spells c).row z)) ts ≡ Some us) (turned z.1) x.3) in
      let p : PartRead y.0 y.1 ts us = bare_part_reads y.0 y.1 ts us y.3 (subst (λ a. Within n a) y.2 (within_below l c end n w)) (ap (λ a. is_simple (label_at 0 a)) (turned y.2) ∙ s) t in
      (p.0, p.1 ∙ (ap (λ a. Some (node_of (at statement_node 0 0) a, us)) (turned y.2) ∙ ap (λ a. Some (node_of a c, us)) (turned z.0)))
