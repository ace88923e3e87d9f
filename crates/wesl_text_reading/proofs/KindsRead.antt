-- Address spaces, access modes, and the words that declarations begin with are read.
use Rattle.std.proofs.Common.{◌≡◌, ℕ, zero, suc, true, false, ◌&&◌, List, [], ◌∷◌, Some, refl, sym as turned, inl, inr, ap, ◌∙◌, subst, codes}
use Rattle.wesl_tree_names.specs.Path.{Text}
use Rattle.wesl_tree_syntax.specs.Tree.{Kind, kind, at, space, access, end, tree}
use Rattle.wesl_tree_syntax.specs.declared.declaration.AddressSpace.{AddressSpace}
use Rattle.wesl_tree_syntax.specs.declared.declaration.AddressSpace.TheVariants as address_space
use Rattle.wesl_tree_syntax.specs.declared.declaration.AccessMode.{AccessMode}
use Rattle.wesl_tree_syntax.specs.declared.declaration.AccessMode.TheVariants as access_mode
use Rattle.wesl_text_tokens.specs.declared.symbol.Symbol.{Symbol}
use Rattle.wesl_text_tokens.specs.declared.symbol.Symbol.TheVariants as is
use Rattle.wesl_text_tokens.specs.Symbols.{look_up}
use Rattle.wesl_text_tokens.specs.Tokens.{Token, name, symbol, open_list, close_list}
use Rattle.wesl_text_form.specs.Slots.{comes_first, may, behind_if_there}
use Rattle.wesl_text_form.specs.Operators.{space_word, access_word}
use Rattle.wesl_text_form.specs.Productions.{Sort, a_kind, a_space, an_access, Row, nothing, sym, may_sym, says, opens, closes, own, optional, row_of, rows_of_kind}
use Rattle.wesl_text_form.specs.Spelling.{Label, Forest, spells, followed, first_slots, fits, stands_as}
use Rattle.wesl_text_reading.specs.FirstTokens.{words_of_accesses, words_of_spaces, words_of_kinds, by_word, labelled, begins_sign, goes_on_behind, behind_first}
use Rattle.wesl_text_reading.specs.Reading.{Reader, node_of, node, any, begins_row, read_part, ranked, at_level, reading}
use Rattle.wesl_text_reading.proofs.Filled.{no_some, of_some, fill, parts, one}
use Rattle.wesl_text_reading.proofs.Takes.{first_parts}
use Rattle.wesl_text_reading.proofs.Within.{Within, within_below}
use Rattle.wesl_text_reading.proofs.RowReads.{RowOk, row_reads}
use Rattle.wesl_text_reading.proofs.Chains.{nothing_row, row_token}
use Rattle.wesl_text_reading.proofs.Operands.{InRows, in_rows, row_opens, row_closes, own_first}
use Rattle.wesl_text_reading.proofs.Complete.{ReadsSort, node_from}
use Rattle.wesl_text_reading.proofs.Attributes.{row_word}

access_again : (a : AccessMode) → look_up (access_word a) words_of_accesses ≡ Some a
access_again access_mode.Read = refl
access_again access_mode.Write = refl
access_again access_mode.ReadWrite = refl

space_again : (s : AddressSpace) → look_up (space_word s) words_of_spaces ≡ Some s
space_again address_space.Function = refl
space_again address_space.Private = refl
space_again address_space.Workgroup = refl
space_again address_space.Uniform = refl
space_again address_space.Storage = refl
space_again address_space.Handle = refl

-- a symbol that may stand, and others
pub row_may : (f : Forest) (s : Symbol) (row : Row) (ts us : List Token) → fill ((spells f).row (may_sym s row)) ts ≡ Some us → (vs : List Token) × (behind_if_there (symbol s) ts ≡ vs) × (fill ((spells f).row row) vs ≡ Some us)
row_may f s row ts us h = with_forest f h where
  found : (f : Forest) → fill (followed (Some (may (symbol s) ∷ [])) ((spells f).row row)) ts ≡ Some us → (vs : List Token) × (behind_if_there (symbol s) ts ≡ vs) × (fill ((spells f).row row) vs ≡ Some us)
  found f g = let x : (vs : List Token) × (fill (Some (may (symbol s) ∷ [])) ts ≡ Some vs) × (fill ((spells f).row row) vs ≡ Some us) = parts (Some (may (symbol s) ∷ [])) ((spells f).row row) ts us g in
      (x.0, of_some (behind_if_there (symbol s) ts) x.0 (one (may (symbol s)) ts x.0 x.1), x.2)

  with_forest : (f : Forest) → fill ((spells f).row (may_sym s row)) ts ≡ Some us → (vs : List Token) × (behind_if_there (symbol s) ts ≡ vs) × (fill ((spells f).row row) vs ≡ Some us)
  with_forest end g = found end g
  with_forest (tree l c o) g = found (tree l c o) g

-- no list goes on: no comma comes first, or a bracket behind it
abbrev pub ListEnds : List Token → Type 0
ListEnds us = (begins_sign is.Comma us && goes_on_behind (behind_first us)) ≡ false

-- no list of a space is opened
abbrev pub NoList : List Token → Type 0
NoList us = comes_first open_list us ≡ false

-- what closes a list is no further one
list_ends : (vs ws xs : List Token) → behind_if_there (symbol is.Comma) vs ≡ ws → ws ≡ close_list ∷ xs → ListEnds vs
list_ends [] ws xs e g = refl
list_ends (name t ∷ vs) ws xs e g = refl
list_ends (symbol is.Comma ∷ vs) ws xs e g = ap goes_on_behind (e ∙ g)
list_ends (v ∷ vs) ws xs e g = refl

module _ (child : Sort → Reader) (n : ℕ) where
  abbrev Always : List Token → Type 0
  Always us = Unit {0}

  pub access_reads : ReadsSort child n an_access Always (node child an_access)
  access_reads (access a) c ts us h w e =
      let x : (r : Row) × (row_of {I = Text} an_access (access a) ≡ Some r) × ((fits (access a) c && stands_as an_access (access a) c) ≡ true) × (fill ((spells c).row r) ts ≡ Some us) = first_parts (access a) c (spells c) an_access ts us h in
      let g : fill ((spells c).row (says (access_word a) nothing)) ts ≡ Some us = subst (λ z. fill ((spells c).row z) ts ≡ Some us) (turned (of_some (says (access_word a) nothing) x.0 x.1)) x.3 in
      let y : (vs : List Token) × (ts ≡ name (access_word a) ∷ vs) × (fill ((spells c).row nothing) vs ≡ Some us) = row_word c (access_word a) nothing ts us g in
      node_from child an_access (access a) c (says (access_word a) nothing) ts us refl x.2
      (ap (λ z. labelled access (by_word words_of_accesses z)) y.1 ∙ ap (λ z. labelled access z) (access_again a))
      (row_reads child (read_part child) n c (says (access_word a) nothing) Always tt ts us g (within_below (access a) c end n w) tt)
  access_reads (kind k) c ts us h w e = absurd (no_some us h)
  access_reads (at k zero zero) c ts us h w e = absurd (no_some us h)
  access_reads (at k zero (suc f)) c ts us h w e = absurd (no_some us h)
  access_reads (at k (suc s) f) c ts us h w e = absurd (no_some us h)
  access_reads l c ts us h w e = absurd (no_some us h)

  -- an access mode begins with a word
  access_begins : (l : Label) (c : Forest) (ts us : List Token) → fill (first_slots l c (spells c) an_access) ts ≡ Some us → (t : Text) × (vs : List Token) × (ts ≡ name t ∷ vs)
  access_begins (access a) c ts us h =
      let x : (r : Row) × (row_of {I = Text} an_access (access a) ≡ Some r) × ((fits (access a) c && stands_as an_access (access a) c) ≡ true) × (fill ((spells c).row r) ts ≡ Some us) = first_parts (access a) c (spells c) an_access ts us h in
      let y : (vs : List Token) × (ts ≡ name (access_word a) ∷ vs) × (fill ((spells c).row nothing) vs ≡ Some us) = row_word c (access_word a) nothing ts us (subst (λ z. fill ((spells c).row z) ts ≡ Some us) (turned (of_some (says (access_word a) nothing) x.0 x.1)) x.3) in
      (access_word a, y.0, y.1)
  access_begins (kind k) c ts us h = absurd (no_some us h)
  access_begins (at k zero zero) c ts us h = absurd (no_some us h)
  access_begins (at k zero (suc f)) c ts us h = absurd (no_some us h)
  access_begins (at k (suc s) f) c ts us h = absurd (no_some us h)
  access_begins l c ts us h = absurd (no_some us h)

  -- an access mode behind a comma
  abbrev mode_row : Row
  mode_row = sym is.Comma (own an_access nothing)

  abbrev space_row : AddressSpace → Row
  space_row s = says (space_word s) (optional mode_row nothing)

  mode_begins : (f : Forest) (ts vs : List Token) → fill ((spells f).row mode_row) ts ≡ Some vs → begins_row child mode_row ts ≡ true
  mode_begins f ts vs h =
      let x : (ws : List Token) × (ts ≡ symbol is.Comma ∷ ws) × (fill ((spells f).row (own an_access nothing)) ws ≡ Some vs) = row_token f is.Comma (own an_access nothing) ts vs h in
      let y : (l : Label) × (c : Forest) × (o : Forest) × (ws : List Token) × (f ≡ tree l c o) × (fill (first_slots l c (spells c) an_access) x.0 ≡ Some ws) × (fill ((spells o).row nothing) ws ≡ Some vs) = own_first f an_access nothing x.0 vs x.2 in
      ap (λ z. begins_row child mode_row z) x.1 ∙ ap goes_on_behind (access_begins y.0 y.1 x.0 y.3 y.5).2

  space_ok : ReadsSort child n an_access Always (child an_access) → (s : AddressSpace) → RowOk child (read_part child) n ListEnds (space_row s)
  space_ok modes s = (
    (λ vs rest. ap (λ z. begins_row child mode_row z) (nothing_row rest.0 vs rest.1 rest.2).1 ∙ rest.4),
    (λ f ts vs h w rest. mode_begins f ts vs h),
    ((λ l c ts vs g v rest. modes l c ts vs g v tt), tt),
    tt,
  )

  pub space_reads : ReadsSort child n an_access Always (child an_access) → ReadsSort child n a_space ListEnds (node child a_space)
  space_reads modes (space s) c ts us h w e =
      let x : (r : Row) × (row_of {I = Text} a_space (space s) ≡ Some r) × ((fits (space s) c && stands_as a_space (space s) c) ≡ true) × (fill ((spells c).row r) ts ≡ Some us) = first_parts (space s) c (spells c) a_space ts us h in
      let g : fill ((spells c).row (space_row s)) ts ≡ Some us = subst (λ z. fill ((spells c).row z) ts ≡ Some us) (turned (of_some (space_row s) x.0 x.1)) x.3 in
      let y : (vs : List Token) × (ts ≡ name (space_word s) ∷ vs) × (fill ((spells c).row (optional mode_row nothing)) vs ≡ Some us) = row_word c (space_word s) (optional mode_row nothing) ts us g in
      node_from child a_space (space s) c (space_row s) ts us refl x.2
      (ap (λ z. labelled space (by_word words_of_spaces z)) y.1 ∙ ap (λ z. labelled space z) (space_again s))
      (row_reads child (read_part child) n c (space_row s) ListEnds (space_ok modes s) ts us g (within_below (space s) c end n w) e)
  space_reads modes (kind k) c ts us h w e = absurd (no_some us h)
  space_reads modes (at k zero zero) c ts us h w e = absurd (no_some us h)
  space_reads modes (at k zero (suc f)) c ts us h w e = absurd (no_some us h)
  space_reads modes (at k (suc s) f) c ts us h w e = absurd (no_some us h)
  space_reads modes l c ts us h w e = absurd (no_some us h)

  -- ---- kinds of declarations

  abbrev var_row : Row
  var_row = optional (opens (own a_space (may_sym is.Comma (closes nothing)))) nothing

  var_ok : ReadsSort child n a_space ListEnds (child a_space) → RowOk child (read_part child) n NoList var_row
  var_ok spaces = (
    (λ vs rest. ap (λ z. comes_first open_list z) (nothing_row rest.0 vs rest.1 rest.2).1 ∙ rest.4),
    (λ f ts vs h w rest. ap (λ z. comes_first open_list z) (row_opens f (own a_space (may_sym is.Comma (closes nothing))) ts vs h).1),
    (
      (λ l c ts vs g v rest. spaces l c ts vs g v (
          let x : (ws : List Token) × (behind_if_there (symbol is.Comma) vs ≡ ws) × (fill ((spells rest.0).row (closes nothing)) ws ≡ Some rest.1) = row_may rest.0 is.Comma (closes nothing) vs rest.1 rest.2 in
          let y : (xs : List Token) × (x.0 ≡ close_list ∷ xs) × (fill ((spells rest.0).row nothing) xs ≡ Some rest.1) = row_closes rest.0 nothing x.0 rest.1 x.2 in
          list_ends vs x.0 y.0 x.1 y.1)),
      tt,
    ),
    tt,
  )

  -- one with a word that is known, whose row is read
  known_kind : (k : Kind) (w : Text) (row : Row) (c : Forest) (r : Row) (ts us : List Token) → labelled kind (look_up w words_of_kinds) ≡ Some (kind k) → says w row ≡ r → row_of {I = Text} a_kind (kind k) ≡ Some r → (fits (kind k) c && stands_as a_kind (kind k) c) ≡ true
      → fill ((spells c).row r) ts ≡ Some us → RowOk child (read_part child) n NoList row → Within n c → NoList us → node child a_kind ts ≡ Some (node_of (kind k) c, us)
  known_kind k w row c r ts us e q o f h ok v u =
      let g : fill ((spells c).row (says w row)) ts ≡ Some us = subst (λ z. fill ((spells c).row z) ts ≡ Some us) (turned q) h in
      let y : (vs : List Token) × (ts ≡ name w ∷ vs) × (fill ((spells c).row row) vs ≡ Some us) = row_word c w row ts us g in
      node_from child a_kind (kind k) c (says w row) ts us (o ∙ ap (λ z. Some z) (turned q)) f (ap (λ z. labelled kind (by_word words_of_kinds z)) y.1 ∙ e)
      (row_reads child (read_part child) n c (says w row) NoList ok ts us g v u)

  of_row : ReadsSort child n a_space ListEnds (child a_space) → (k : Kind) (c : Forest) (r : Row) (ts us : List Token) → row_of {I = Text} a_kind (kind k) ≡ Some r → (fits (kind k) c && stands_as a_kind (kind k) c) ≡ true → fill ((spells c).row r) ts ≡ Some us → Within n c → NoList us
      → InRows rows_of_kind k r → node child a_kind ts ≡ Some (node_of (kind k) c, us)
  of_row spaces k c r ts us o f h w e (inl q) = known_kind k (codes "const") nothing c r ts us (ap (λ z. Some (kind z)) (turned q.0)) q.1 o f h tt w e
  of_row spaces k c r ts us o f h w e (inr (inl q)) = known_kind k (codes "override") nothing c r ts us (ap (λ z. Some (kind z)) (turned q.0)) q.1 o f h tt w e
  of_row spaces k c r ts us o f h w e (inr (inr (inl q))) = known_kind k (codes "let") nothing c r ts us (ap (λ z. Some (kind z)) (turned q.0)) q.1 o f h tt w e
  of_row spaces k c r ts us o f h w e (inr (inr (inr (inl q)))) = known_kind k (codes "var") var_row c r ts us (ap (λ z. Some (kind z)) (turned q.0)) q.1 o f h (var_ok spaces) w e
  of_row spaces k c r ts us o f h w e (inr (inr (inr (inr q)))) = absurd q

  pub kind_reads : ReadsSort child n a_space ListEnds (child a_space) → ReadsSort child n a_kind NoList (node child a_kind)
  kind_reads spaces (kind k) c ts us h w e =
      let x : (r : Row) × (row_of {I = Text} a_kind (kind k) ≡ Some r) × ((fits (kind k) c && stands_as a_kind (kind k) c) ≡ true) × (fill ((spells c).row r) ts ≡ Some us) = first_parts (kind k) c (spells c) a_kind ts us h in
      of_row spaces k c x.0 ts us x.1 x.2 x.3 (within_below (kind k) c end n w) e (in_rows rows_of_kind k x.0 x.1)
  kind_reads spaces (at k zero zero) c ts us h w e = absurd (no_some us h)
  kind_reads spaces (at k zero (suc f)) c ts us h w e = absurd (no_some us h)
  kind_reads spaces (at k (suc s) f) c ts us h w e = absurd (no_some us h)
  kind_reads spaces l c ts us h w e = absurd (no_some us h)

-- at each number of levels
pub access_reads_at : (n : ℕ) (l : Label) (c : Forest) (ts us : List Token) → fill (first_slots l c (spells c) an_access) ts ≡ Some us → Within n (tree l c end) → Unit {0} → reading n an_access ts ≡ Some (node_of l c, us)
access_reads_at n l c ts us h w e = access_reads (ranked (at_level n any) 0) n l c ts us h w e

pub space_reads_at : (n : ℕ) (l : Label) (c : Forest) (ts us : List Token) → fill (first_slots l c (spells c) a_space) ts ≡ Some us → Within n (tree l c end) → ListEnds us → reading n a_space ts ≡ Some (node_of l c, us)
space_reads_at n l c ts us h w e = space_reads (ranked (at_level n any) 1) n (λ l c ts us h w e. access_reads_at n l c ts us h w e) l c ts us h w e

pub kind_reads_at : (n : ℕ) (l : Label) (c : Forest) (ts us : List Token) → fill (first_slots l c (spells c) a_kind) ts ≡ Some us → Within n (tree l c end) → NoList us → reading n a_kind ts ≡ Some (node_of l c, us)
kind_reads_at n l c ts us h w e = kind_reads (ranked (at_level n any) 2) n (λ l c ts us h w e. space_reads_at n l c ts us h w e) l c ts us h w e
