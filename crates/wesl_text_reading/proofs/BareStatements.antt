-- Statements without their spans, by their labels.
use Rattle.std.proofs.Common.{◌≡◌, ℕ, zero, suc, true, not, ◌&&◌, List, ◌∷◌, Some, refl, sym as turned, inl, inr, ap, ◌∙◌, subst, codes}
use Rattle.wesl_tree_names.specs.Path.{Text}
use Rattle.wesl_tree_syntax.specs.Tree.{Kind, kind, at, assignment, end, tree, declaration, const_assert, void, compound_statement, increment, decrement, if_statement, switch, loop, for_loop, while_loop, break, continue, discard, return, call_statement, override_kind}
use Rattle.wesl_tree_syntax.specs.declared.statement.AssignmentOperator.{AssignmentOperator}
use Rattle.wesl_tree_syntax.specs.declared.statement.AssignmentOperator.TheVariants as assignment_operator
use Rattle.wesl_text_tokens.specs.declared.symbol.Symbol.{Symbol}
use Rattle.wesl_text_tokens.specs.declared.symbol.Symbol.TheVariants as is
use Rattle.wesl_text_tokens.specs.Tokens.{Token, symbol}
use Rattle.wesl_text_form.specs.Operators.{assignment_symbol}
use Rattle.wesl_text_form.specs.Productions.{Sort, an_expression, an_attribute, a_call, a_kind, a_type, a_body, a_bare_statement, Row, nothing, sym, says, own, optional, target, attrs, row_of, rows_of_bare_statement}
use Rattle.wesl_text_form.specs.Spelling.{Label, Forest, spells, first_slots, fits, stands_as, is_kind, label_at, is_target_at, are_apart, is_simple_at}
use Rattle.wesl_text_reading.specs.FirstTokens.{label_behind_expression}
use Rattle.wesl_text_reading.specs.Reading.{Reader, node_of, node, label_of_statement, read_row, read_part}
use Rattle.wesl_text_reading.proofs.Filled.{no_some, of_some, fill}
use Rattle.wesl_text_reading.proofs.Takes.{first_parts}
use Rattle.wesl_text_reading.proofs.Classes.{denied}
use Rattle.wesl_text_reading.proofs.Within.{Within, within_below}
use Rattle.wesl_text_reading.proofs.RowReads.{RowOk}
use Rattle.wesl_text_reading.proofs.Chains.{Ends, row_token}
use Rattle.wesl_text_reading.proofs.Operands.{InRows, in_rows, Ended}
use Rattle.wesl_text_reading.proofs.Complete.{ReadsSort, node_from}
use Rattle.wesl_text_reading.proofs.Runs.{Unopened}
use Rattle.wesl_text_reading.proofs.KindsRead.{NoList}
use Rattle.wesl_text_reading.proofs.Targets.{ReadsParted}
use Rattle.wesl_text_reading.proofs.Blocks.{semicolon_ended}
use Rattle.wesl_text_reading.proofs.Simple.{Begun, assignment_ends, assignment_tells, target_reads, equal_reads}
use Rattle.wesl_text_reading.proofs.SimpleWords.{Tail, declaration_row, declaration_reads, call_reads}
use Rattle.wesl_text_reading.proofs.Statements.{Stands, Bodies, Statement, switch_row, loop_row, if_row, assert_reads, while_reads, break_reads, continue_reads, discard_reads, return_reads, void_reads, compound_reads, switch_reads, loop_reads, if_statement_reads}
use Rattle.wesl_text_reading.proofs.ForLoop.{for_row, for_reads}
use Rattle.std.proofs.lemmas.Bool.{and_parts}

module _ (child : Sort → Reader) (n : ℕ) (one_attribute : ReadsSort child n an_attribute Unopened (child an_attribute)) (parted : ReadsParted child n (child an_attribute)) (exprs : ReadsSort child n an_expression Ended (child an_expression))
    (kinds : ReadsSort child n a_kind NoList (child a_kind)) (types : ReadsSort child n a_type Ends (child a_type)) (calls : ReadsSort child n a_call (λ us. Unit {0}) (child a_call)) where
  -- what is promised of a statement without its span: its label is told, and it is read where no `else` comes behind
  abbrev pub Stated : Label → Forest → List Token → List Token → Type 0
  Stated l c ts us = Begun child l ts × (Bodies child n → Stands child us → node child a_bare_statement ts ≡ Some (node_of l c, us))

  -- by its row
  by_row : (l : Label) (c : Forest) (row : Row) (ts us : List Token) → row_of a_bare_statement l ≡ Some row → (fits l c && stands_as a_bare_statement l c) ≡ true → Statement child n one_attribute exprs l row c ts us → Stated l c ts us
  by_row l c row ts us o f s = (s.0, λ b e. node_from child a_bare_statement l c row ts us o f (ap (λ z. label_of_statement child z) s.0.1 ∙ s.0.2) (s.1 b e))

  -- what ends with `;`
  tail_is : (f : Forest) (vs us : List Token) → fill ((spells f).row (sym is.Semicolon nothing)) vs ≡ Some us → Tail vs
  tail_is f vs us g = let x : (ws : List Token) × (vs ≡ symbol is.Semicolon ∷ ws) × (fill ((spells f).row nothing) ws ≡ Some us) = row_token f is.Semicolon nothing vs us g in (x.0, inl x.1)

  -- ---- assignments

  abbrev value_row : Row
  value_row = own an_expression (sym is.Semicolon nothing)

  value_ok : RowOk child (read_part child) n (Stands child) value_row
  value_ok = ((λ l c ts vs g v more. exprs l c ts vs g v (semicolon_ended more.0 nothing vs more.1 more.2)), tt)

  -- a target, a symbol and what is behind it
  targeted : (l : Label) (c : Forest) (s : Symbol) (rest : Row) (ts us : List Token) → row_of a_bare_statement l ≡ Some (attrs (own an_expression (sym s rest))) → ((vs : List Token) → Ended (symbol s ∷ vs)) → ((vs : List Token) → label_behind_expression (symbol s ∷ vs) ≡ Some l) → RowOk child (read_part child) n (Stands child) rest
      → ((fits l c && stands_as a_bare_statement l c) ≡ true → (is_target_at 1 c && are_apart c) ≡ true) → (fits l c && stands_as a_bare_statement l c) ≡ true → fill ((spells c).row (attrs (own an_expression (sym s rest)))) ts ≡ Some us → Within n c → Stated l c ts us
  targeted l c s rest ts us o ends tells ok f g h w =
      let y : Begun child l ts × (Stands child us → read_row child (read_part child) (attrs (own an_expression (sym s rest))) ts ≡ Some (c, us)) = target_reads child (read_part child) n parted exprs (Stands child) l s rest c ts us ends tells ok (f g) h w in
      by_row l c (attrs (own an_expression (sym s rest))) ts us o g (y.0, λ b e. y.1 e)

  assigned : (a : AssignmentOperator) (c : Forest) (ts us : List Token) → row_of {I = Text} a_bare_statement (assignment a) ≡ Some (attrs (own an_expression (sym (assignment_symbol a) value_row))) → ((fits (assignment a) c && stands_as a_bare_statement (assignment a) c) ≡ true → (is_target_at 1 c && are_apart c) ≡ true)
      → fill (first_slots (assignment a) c (spells c) a_bare_statement) ts ≡ Some us → Within n c → Stated (assignment a) c ts us
  assigned a c ts us o f h w =
      let x : (r : Row) × (row_of {I = Text} a_bare_statement (assignment a) ≡ Some r) × ((fits (assignment a) c && stands_as a_bare_statement (assignment a) c) ≡ true) × (fill ((spells c).row r) ts ≡ Some us) = first_parts (assignment a) c (spells c) a_bare_statement ts us h in
      targeted (assignment a) c (assignment_symbol a) value_row ts us o (assignment_ends a) (assignment_tells a) value_ok f x.2 (subst (λ z. fill ((spells c).row z) ts ≡ Some us) (of_some x.0 (attrs (own an_expression (sym (assignment_symbol a) value_row))) (turned x.1 ∙ o)) x.3) w

  fit : (c : Forest) → ((is_target_at 1 c && are_apart c) && true) ≡ true → (is_target_at 1 c && are_apart c) ≡ true
  fit c f = (and_parts (is_target_at 1 c && are_apart c) true f).0

  assignment_reads : (a : AssignmentOperator) (c : Forest) (ts us : List Token) → fill (first_slots (assignment a) c (spells c) a_bare_statement) ts ≡ Some us → Within n c → Stated (assignment a) c ts us
  assignment_reads assignment_operator.Equal c ts us h w =
      let x : (r : Row) × (row_of {I = Text} a_bare_statement (assignment assignment_operator.Equal) ≡ Some r) × ((are_apart c && true) ≡ true) × (fill ((spells c).row r) ts ≡ Some us) = first_parts (assignment assignment_operator.Equal) c (spells c) a_bare_statement ts us h in
      let y : Begun child (assignment assignment_operator.Equal) ts × (Stands child us → read_row child (read_part child) (attrs (target (sym is.Equal value_row))) ts ≡ Some (c, us))
      = equal_reads child (read_part child) n parted exprs (Stands child) (sym is.Semicolon nothing) c ts us (λ f vs us g e. semicolon_ended f nothing vs us g) tt (and_parts (are_apart c) true x.2).0 (subst (λ z. fill ((spells c).row z) ts ≡ Some us) (of_some x.0 (attrs (target (sym is.Equal value_row))) (turned x.1)) x.3) w in
      by_row (assignment assignment_operator.Equal) c (attrs (target (sym is.Equal value_row))) ts us refl x.2 (y.0, λ b e. y.1 e)
  assignment_reads assignment_operator.PlusEqual c ts us h w = assigned assignment_operator.PlusEqual c ts us refl (fit c) h w
  assignment_reads assignment_operator.MinusEqual c ts us h w = assigned assignment_operator.MinusEqual c ts us refl (fit c) h w
  assignment_reads assignment_operator.TimesEqual c ts us h w = assigned assignment_operator.TimesEqual c ts us refl (fit c) h w
  assignment_reads assignment_operator.DivisionEqual c ts us h w = assigned assignment_operator.DivisionEqual c ts us refl (fit c) h w
  assignment_reads assignment_operator.ModuloEqual c ts us h w = assigned assignment_operator.ModuloEqual c ts us refl (fit c) h w
  assignment_reads assignment_operator.AndEqual c ts us h w = assigned assignment_operator.AndEqual c ts us refl (fit c) h w
  assignment_reads assignment_operator.OrEqual c ts us h w = assigned assignment_operator.OrEqual c ts us refl (fit c) h w
  assignment_reads assignment_operator.XorEqual c ts us h w = assigned assignment_operator.XorEqual c ts us refl (fit c) h w
  assignment_reads assignment_operator.ShiftLeftAssign c ts us h w = assigned assignment_operator.ShiftLeftAssign c ts us refl (fit c) h w
  assignment_reads assignment_operator.ShiftRightAssign c ts us h w = assigned assignment_operator.ShiftRightAssign c ts us refl (fit c) h w

  -- ---- statements of the other kinds

  -- what a row of a kind says, and what is read by it
  abbrev Of : Kind → Row → Type 0
  Of k row = (c : Forest) (ts us : List Token) → (fits (kind k) c && stands_as a_bare_statement (kind k) c) ≡ true → fill ((spells c).row row) ts ≡ Some us → Within n (tree (kind k) c end) → Stated (kind k) c ts us

  -- a row whose reading asks nothing else
  plain : (k : Kind) (row : Row) → row_of {I = Text} a_bare_statement (kind k) ≡ Some row → ((c : Forest) (ts us : List Token) → fill ((spells c).row row) ts ≡ Some us → Within n c → Statement child n one_attribute exprs (kind k) row c ts us) → Of k row
  plain k row o reads c ts us f h w = by_row (kind k) c row ts us o f (reads c ts us h (within_below (kind k) c end n w))

  abbrev declared_row : Row
  declared_row = attrs (declaration_row child (read_part child) n parted exprs (Stands child) (sym is.Semicolon nothing) (λ f vs us g e. tail_is f vs us g) tt)

  declaration_of : Of declaration declared_row
  declaration_of c ts us f h w =
      let y : Begun child (kind declaration) ts × (Stands child us → read_row child (read_part child) declared_row ts ≡ Some (c, us))
      = declaration_reads child (read_part child) n parted exprs (Stands child) (sym is.Semicolon nothing) (λ f vs us g e. tail_is f vs us g) tt kinds types c ts us
      (denied (is_kind override_kind (label_at 1 c)) (and_parts (fits (kind declaration) c) (not (is_kind override_kind (label_at 1 c))) f).1) h (within_below (kind declaration) c end n w) in
      by_row (kind declaration) c declared_row ts us refl f (y.0, λ b e. y.1 e)

  increment_of : Of increment (attrs (own an_expression (sym is.PlusPlus (sym is.Semicolon nothing))))
  increment_of c ts us f h w = targeted (kind increment) c is.PlusPlus (sym is.Semicolon nothing) ts us refl (λ vs. (refl, ((refl, refl), refl), refl)) (λ vs. refl) tt (fit c) f h (within_below (kind increment) c end n w)

  decrement_of : Of decrement (attrs (own an_expression (sym is.MinusMinus (sym is.Semicolon nothing))))
  decrement_of c ts us f h w = targeted (kind decrement) c is.MinusMinus (sym is.Semicolon nothing) ts us refl (λ vs. (refl, ((refl, refl), refl), refl)) (λ vs. refl) tt (fit c) f h (within_below (kind decrement) c end n w)

  for_of : Of for_loop (attrs (says (codes "for") for_row))
  for_of c ts us f h w =
      by_row (kind for_loop) c (attrs (says (codes "for") for_row)) ts us refl f (for_reads child n one_attribute parted exprs kinds types calls c ts us (and_parts (is_simple_at 1 c && is_simple_at 3 c) true f).0 h (within_below (kind for_loop) c end n w))

  call_of : Of call_statement (attrs (own a_call (sym is.Semicolon nothing)))
  call_of c ts us f h w =
      let y : Begun child (kind call_statement) ts × (Unit {0} → read_row child (read_part child) (attrs (own a_call (sym is.Semicolon nothing))) ts ≡ Some (c, us))
      = call_reads child (read_part child) n parted exprs (λ us. Unit {0}) (sym is.Semicolon nothing) (λ f vs us g e. tail_is f vs us g) tt calls c ts us h w tt in
      by_row (kind call_statement) c (attrs (own a_call (sym is.Semicolon nothing))) ts us refl f (y.0, λ b e. y.1 tt)

  -- by the place of its row in the table
  at_row : (k j : Kind) (row r : Row) (c : Forest) (ts us : List Token) → Of j row → k ≡ j → row ≡ r → (fits (kind k) c && stands_as a_bare_statement (kind k) c) ≡ true → fill ((spells c).row r) ts ≡ Some us → Within n (tree (kind k) c end) → Stated (kind k) c ts us
  at_row k j row r c ts us reads p q f h w =
      subst (λ z. (fits (kind z) c && stands_as a_bare_statement (kind z) c) ≡ true → Within n (tree (kind z) c end) → Stated (kind z) c ts us) (turned p) (λ g v. reads c ts us g (subst (λ z. fill ((spells c).row z) ts ≡ Some us) (turned q) h) v) f w

  kind_reads : (k : Kind) (c : Forest) (r : Row) (ts us : List Token) → (fits (kind k) c && stands_as a_bare_statement (kind k) c) ≡ true → fill ((spells c).row r) ts ≡ Some us → Within n (tree (kind k) c end) → InRows rows_of_bare_statement k r → Stated (kind k) c ts us
  kind_reads k c r ts us f h w (inl q) = at_row k declaration declared_row r c ts us declaration_of q.0 q.1 f h w
  kind_reads k c r ts us f h w (inr (inl q)) = at_row k const_assert (attrs (says (codes "const_assert") value_row)) r c ts us (plain const_assert (attrs (says (codes "const_assert") value_row)) refl (assert_reads child n one_attribute exprs)) q.0 q.1 f h w
  kind_reads k c r ts us f h w (inr (inr (inl q))) = at_row k void (sym is.Semicolon nothing) r c ts us (plain void (sym is.Semicolon nothing) refl (void_reads child n one_attribute exprs)) q.0 q.1 f h w
  kind_reads k c r ts us f h w (inr (inr (inr (inl q)))) = at_row k compound_statement (own a_body nothing) r c ts us (plain compound_statement (own a_body nothing) refl (compound_reads child n one_attribute exprs)) q.0 q.1 f h w
  kind_reads k c r ts us f h w (inr (inr (inr (inr (inl q))))) = at_row k increment (attrs (own an_expression (sym is.PlusPlus (sym is.Semicolon nothing)))) r c ts us increment_of q.0 q.1 f h w
  kind_reads k c r ts us f h w (inr (inr (inr (inr (inr (inl q)))))) = at_row k decrement (attrs (own an_expression (sym is.MinusMinus (sym is.Semicolon nothing)))) r c ts us decrement_of q.0 q.1 f h w
  kind_reads k c r ts us f h w (inr (inr (inr (inr (inr (inr (inl q))))))) = at_row k if_statement (attrs (if_row child n one_attribute exprs)) r c ts us (plain if_statement (attrs (if_row child n one_attribute exprs)) refl (if_statement_reads child n one_attribute exprs)) q.0 q.1 f h w
  kind_reads k c r ts us f h w (inr (inr (inr (inr (inr (inr (inr (inl q)))))))) = at_row k switch (attrs (says (codes "switch") (switch_row child n one_attribute exprs))) r c ts us (plain switch (attrs (says (codes "switch") (switch_row child n one_attribute exprs))) refl (switch_reads child n one_attribute exprs)) q.0 q.1 f h w
  kind_reads k c r ts us f h w (inr (inr (inr (inr (inr (inr (inr (inr (inl q))))))))) = at_row k loop (attrs (says (codes "loop") (loop_row child n one_attribute exprs))) r c ts us (plain loop (attrs (says (codes "loop") (loop_row child n one_attribute exprs))) refl (loop_reads child n one_attribute exprs)) q.0 q.1 f h w
  kind_reads k c r ts us f h w (inr (inr (inr (inr (inr (inr (inr (inr (inr (inl q)))))))))) = at_row k for_loop (attrs (says (codes "for") for_row)) r c ts us for_of q.0 q.1 f h w
  kind_reads k c r ts us f h w (inr (inr (inr (inr (inr (inr (inr (inr (inr (inr (inl q))))))))))) = at_row k while_loop (attrs (says (codes "while") (own an_expression (own a_body nothing)))) r c ts us (plain while_loop (attrs (says (codes "while") (own an_expression (own a_body nothing)))) refl (while_reads child n one_attribute exprs)) q.0 q.1 f h w
  kind_reads k c r ts us f h w (inr (inr (inr (inr (inr (inr (inr (inr (inr (inr (inr (inl q)))))))))))) = at_row k break (attrs (says (codes "break") (sym is.Semicolon nothing))) r c ts us (plain break (attrs (says (codes "break") (sym is.Semicolon nothing))) refl (break_reads child n one_attribute exprs)) q.0 q.1 f h w
  kind_reads k c r ts us f h w (inr (inr (inr (inr (inr (inr (inr (inr (inr (inr (inr (inr (inl q))))))))))))) = at_row k continue (attrs (says (codes "continue") (sym is.Semicolon nothing))) r c ts us (plain continue (attrs (says (codes "continue") (sym is.Semicolon nothing))) refl (continue_reads child n one_attribute exprs)) q.0 q.1 f h w
  kind_reads k c r ts us f h w (inr (inr (inr (inr (inr (inr (inr (inr (inr (inr (inr (inr (inr (inl q)))))))))))))) = at_row k discard (attrs (says (codes "discard") (sym is.Semicolon nothing))) r c ts us (plain discard (attrs (says (codes "discard") (sym is.Semicolon nothing))) refl (discard_reads child n one_attribute exprs)) q.0 q.1 f h w
  kind_reads k c r ts us f h w (inr (inr (inr (inr (inr (inr (inr (inr (inr (inr (inr (inr (inr (inr (inl q))))))))))))))) = at_row k return (attrs (says (codes "return") (optional (own an_expression nothing) (sym is.Semicolon nothing)))) r c ts us (plain return (attrs (says (codes "return") (optional (own an_expression nothing) (sym is.Semicolon nothing)))) refl (return_reads child n one_attribute exprs)) q.0 q.1 f h w
  kind_reads k c r ts us f h w (inr (inr (inr (inr (inr (inr (inr (inr (inr (inr (inr (inr (inr (inr (inr (inl q)))))))))))))))) = at_row k call_statement (attrs (own a_call (sym is.Semicolon nothing))) r c ts us call_of q.0 q.1 f h w
  kind_reads k c r ts us f h w (inr (inr (inr (inr (inr (inr (inr (inr (inr (inr (inr (inr (inr (inr (inr (inr q)))))))))))))))) = absurd q

  -- a statement without its span
  pub bare_statement_reads : (l : Label) (c : Forest) (ts us : List Token) → fill (first_slots l c (spells c) a_bare_statement) ts ≡ Some us → Within n (tree l c end) → Stated l c ts us
  bare_statement_reads (assignment a) c ts us h w = assignment_reads a c ts us h (within_below (assignment a) c end n w)
  bare_statement_reads (kind k) c ts us h w =
      let x : (r : Row) × (row_of {I = Text} a_bare_statement (kind k) ≡ Some r) × ((fits (kind k) c && stands_as a_bare_statement (kind k) c) ≡ true) × (fill ((spells c).row r) ts ≡ Some us) = first_parts (kind k) c (spells c) a_bare_statement ts us h in
      kind_reads k c x.0 ts us x.2 x.3 w (in_rows rows_of_bare_statement k x.0 x.1)
  bare_statement_reads (at k zero zero) c ts us h w = absurd (no_some us h)
  bare_statement_reads (at k zero (suc f)) c ts us h w = absurd (no_some us h)
  bare_statement_reads (at k (suc s) f) c ts us h w = absurd (no_some us h)
  bare_statement_reads l c ts us h w = absurd (no_some us h)
