-- Declarations are read where bodies are.
use Rattle.std.proofs.Common.{◌≡◌, ◌⊎◌, ℕ, zero, suc, Bool, true, false, not, ◌&&◌, if◌then◌else◌, is_some, List, ◌∷◌, Some, None, refl, sym as turned, inl, inr, ap, ◌∙◌, subst, codes}
use Rattle.wesl_tree_names.specs.Path.{Text}
use Rattle.wesl_tree_syntax.specs.Tree.{Kind, kind, at, binder, end, tree, attributes, absent, present, members, parameters, declaration_node, declaration, const_assert, void, type_alias, struct, function, let_kind}
use Rattle.wesl_tree_syntax.specs.Kinds.{same_kind}
use Rattle.wesl_text_tokens.specs.declared.symbol.Symbol.TheVariants as is
use Rattle.wesl_text_tokens.specs.Tokens.{Token, name, symbol}
use Rattle.wesl_text_form.specs.Productions.{Sort, an_expression, an_attribute, a_kind, a_type, a_body, a_member, a_bare_member, a_parameter, a_declaration, a_bare_declaration, Leaf, an_ident, a_name, Row, nothing, sym, says, own, leaf, commas, optional, arrow, attrs, row_of, rows_of_bare_declaration}
use Rattle.wesl_text_form.specs.Spelling.{Label, Forest, spells, followed, leaf_slots, first_slots, fits, stands_as, is_kind, is_end, is_absent_at, label_at}
use Rattle.wesl_text_reading.specs.FirstTokens.{begins_sign, begins_word, begins_name, are_none, by_word, words_of_directives, declaration_label}
use Rattle.wesl_text_reading.specs.Reading.{Reader, node_of, node, behind_attributes, begins_child, read_row, read_part}
use Rattle.wesl_text_reading.proofs.Filled.{no_some, of_some, no_true, fill, parts}
use Rattle.wesl_text_reading.proofs.Takes.{chosen, where_true, first_parts}
use Rattle.wesl_text_reading.proofs.Classes.{denied}
use Rattle.wesl_text_reading.proofs.KindsAgain.{kind_is}
use Rattle.wesl_text_reading.proofs.Within.{Within, within_below}
use Rattle.wesl_text_reading.proofs.RowReads.{RowOk, row_reads}
use Rattle.wesl_text_reading.proofs.Loops.{separate_reads}
use Rattle.wesl_text_reading.proofs.Chains.{Ends, nothing_row, row_token}
use Rattle.wesl_text_reading.proofs.Operands.{InRows, in_rows, Ended, own_first, leaf_first, row_optional, BeginsType, type_begins}
use Rattle.wesl_text_reading.proofs.Complete.{ReadsSort, node_from, node_by}
use Rattle.wesl_text_reading.proofs.Runs.{Unopened, Named, attributes_read, binder_reads, name_reads, parameter_is, member_is, spanned_member_is}
use Rattle.wesl_text_reading.proofs.KindsRead.{NoList}
use Rattle.wesl_text_reading.proofs.Worded.{Apart, behind_them, worded_ok, word_behind}
use Rattle.wesl_text_reading.proofs.Targets.{ReadsParted}
use Rattle.wesl_text_reading.proofs.Blocks.{Always, semicolon_ended, body_first, own_body_ended}
use Rattle.wesl_text_reading.proofs.SimpleWords.{Tail, declaration_row, declaration_ok, behind_reads, kind_by}
use Rattle.std.proofs.lemmas.Bool.{and_parts}

-- a declaration goes on: neither an import nor a directive begins
abbrev pub Declares : List Token → Type 0
Declares vs = (are_none vs ≡ false) × (begins_word (codes "import") vs ≡ false) × (is_some (by_word words_of_directives vs) ≡ false)

-- ---- names behind attributes

module _ (child : Sort → Reader) (n : ℕ) (one_attribute : ReadsSort child n an_attribute Unopened (child an_attribute)) where
  named_behind : (f : Leaf) (row : Row) → ((l : Label) (o : Forest) (ts vs : List Token) → fill (leaf_slots f l o) ts ≡ Some vs → Named ts) → (c : Forest) (ts us : List Token) → fill ((spells c).row (attrs (leaf f row))) ts ≡ Some us → Within n c → begins_name (behind_attributes child ts) ≡ true
  named_behind f row named c ts us h w =
      let y : (o : Forest) × (vs : List Token) × (behind_attributes child ts ≡ vs) × (fill ((spells o).row (leaf f row)) vs ≡ Some us) × Within n o = behind_them child n one_attribute c (leaf f row) ts us h w (λ o vs g u. let x : Named vs = first o vs us g in (ap (λ z. begins_sign is.At z) x.2, ap (λ z. begins_sign is.ParenLeft z) x.2)) in
      ap begins_name (y.2 ∙ (first y.0 y.1 us y.3).2) where
        first : (o : Forest) (vs us : List Token) → fill ((spells o).row (leaf f row)) vs ≡ Some us → Named vs
        first o vs us g = let x : (l : Label) × (p : Forest) × (ws : List Token) × (fill (leaf_slots f l p) vs ≡ Some ws) × (fill ((spells p).row row) ws ≡ Some us) = leaf_first o f row vs us g in named x.0 x.1 vs x.2 x.3

  parameter_begins : (l : Label) (c : Forest) (ts us : List Token) → fill (first_slots l c (spells c) a_parameter) ts ≡ Some us → Within n (tree l c end) → begins_child child a_parameter ts ≡ true
  parameter_begins l c ts us h w =
      let x : (r : Row) × (row_of a_parameter l ≡ Some r) × ((fits l c && stands_as a_parameter l c) ≡ true) × (fill ((spells c).row r) ts ≡ Some us) = first_parts l c (spells c) a_parameter ts us h in
      named_behind (an_ident binder) (sym is.Colon (own a_type nothing)) (λ l o ts vs h. (binder_reads l o ts vs h).0) c ts us (subst (λ z. fill ((spells c).row z) ts ≡ Some us) (turned (parameter_is child n one_attribute l x.0 x.1).1) x.3) (within_below l c end n w)

  member_begins : (l : Label) (c : Forest) (ts us : List Token) → fill (first_slots l c (spells c) a_member) ts ≡ Some us → Within n (tree l c end) → begins_child child a_member ts ≡ true
  member_begins l c ts us h w =
      let x : (r : Row) × (row_of a_member l ≡ Some r) × ((fits l c && stands_as a_member l c) ≡ true) × (fill ((spells c).row r) ts ≡ Some us) = first_parts l c (spells c) a_member ts us h in
      let y : (j : Label) × (d : Forest) × (o : Forest) × (vs : List Token) × (c ≡ tree j d o) × (fill (first_slots j d (spells d) a_bare_member) ts ≡ Some vs) × (fill ((spells o).row nothing) vs ≡ Some us)
      = own_first c a_bare_member nothing ts us (subst (λ z. fill ((spells c).row z) ts ≡ Some us) (turned (spanned_member_is l x.0 x.1).1) x.3) in
      let z : (r : Row) × (row_of a_bare_member y.0 ≡ Some r) × ((fits y.0 y.1 && stands_as a_bare_member y.0 y.1) ≡ true) × (fill ((spells y.1).row r) ts ≡ Some y.3) = first_parts y.0 y.1 (spells y.1) a_bare_member ts y.3 y.5 in
      named_behind a_name (sym is.Colon (own a_type nothing)) (λ l o ts vs h. (name_reads l o ts vs h).0) y.1 ts y.3 (subst (λ a. fill ((spells y.1).row a) ts ≡ Some y.3) (turned (member_is child n one_attribute y.0 z.0 z.1).1) z.3) (within_below y.0 y.1 y.2 n (subst (λ a. Within n a) y.4 (within_below l c end n w)))

-- a type comes first
own_type_first : (c : Forest) (row : Row) (vs us : List Token) → fill ((spells c).row (own a_type row)) vs ≡ Some us → Named vs
own_type_first c row vs us g =
    let y : (j : Label) × (d : Forest) × (p : Forest) × (xs : List Token) × (c ≡ tree j d p) × (fill (first_slots j d (spells d) a_type) vs ≡ Some xs) × (fill ((spells p).row row) xs ≡ Some us) = own_first c a_type row vs us g in
    let b : BeginsType vs = type_begins y.0 y.1 vs y.3 y.5 in
    (b.0, b.1, b.2)

-- where an option is there, it comes first
type_first : (f : Forest) (row : Row) (vs us : List Token) → is_absent_at 0 f ≡ false → fill ((spells f).row (optional (own a_type nothing) row)) vs ≡ Some us → Named vs
type_first end row vs us a h = absurd (no_some us h)
type_first (tree l c o) row vs us a h = by (chosen (is_kind absent (Some l) && is_end c) ((spells o).row row) (if is_kind present (Some l) then followed ((spells c).row (own a_type nothing)) ((spells o).row row) else None) vs us h) where
  by : (((is_kind absent (Some l) && is_end c) ≡ true) × (fill ((spells o).row row) vs ≡ Some us)) ⊎ (((is_kind absent (Some l) && is_end c) ≡ false) × (fill (if is_kind present (Some l) then followed ((spells c).row (own a_type nothing)) ((spells o).row row) else None) vs ≡ Some us)) → Named vs
  by (inl x) = absurd (no_true (turned a ∙ (and_parts (is_kind absent (Some l)) (is_end c) x.0).0))
  by (inr x) =
      let y : (is_kind present (Some l) ≡ true) × (fill (followed ((spells c).row (own a_type nothing)) ((spells o).row row)) vs ≡ Some us) = where_true (is_kind present (Some l)) (followed ((spells c).row (own a_type nothing)) ((spells o).row row)) vs us x.1 in
      let z : (ws : List Token) × (fill ((spells c).row (own a_type nothing)) vs ≡ Some ws) × (fill ((spells o).row row) ws ≡ Some us) = parts ((spells c).row (own a_type nothing)) ((spells o).row row) vs us y.1 in
      own_type_first c nothing vs z.0 z.1

-- a body begins with no word, and with no `->`
own_body_apart : (f : Forest) (row : Row) (vs us : List Token) → fill ((spells f).row (own a_body row)) vs ≡ Some us → (begins_name vs ≡ false) × (begins_sign is.Arrow vs ≡ false)
own_body_apart f row vs us h =
    let y : (l : Label) × (c : Forest) × (o : Forest) × (ws : List Token) × (f ≡ tree l c o) × (fill (first_slots l c (spells c) a_body) vs ≡ Some ws) × (fill ((spells o).row row) ws ≡ Some us) = own_first f a_body row vs us h in
    let z : (ws : List Token) × ((vs ≡ symbol is.At ∷ ws) ⊎ (vs ≡ symbol is.BraceLeft ∷ ws)) = body_first y.0 y.1 vs y.3 y.5 in
    by z.0 z.1 where
      by : (ws : List Token) → (vs ≡ symbol is.At ∷ ws) ⊎ (vs ≡ symbol is.BraceLeft ∷ ws) → (begins_name vs ≡ false) × (begins_sign is.Arrow vs ≡ false)
      by ws (inl q) = (ap begins_name q, ap (λ z. begins_sign is.Arrow z) q)
      by ws (inr q) = (ap begins_name q, ap (λ z. begins_sign is.Arrow z) q)

-- the rows of declarations
abbrev assert_row : Row
assert_row = own an_expression (sym is.Semicolon nothing)

abbrev alias_row : Row
alias_row = leaf (an_ident binder) (sym is.Equal (own a_type (sym is.Semicolon nothing)))

abbrev struct_row : Row
struct_row = leaf (an_ident binder) (sym is.BraceLeft (commas members a_member (sym is.BraceRight nothing)))

abbrev result_row : Row
result_row = optional (own a_type nothing) (own a_body nothing)

abbrev function_row : Row
function_row = leaf (an_ident binder) (sym is.ParenLeft (commas parameters a_parameter (sym is.ParenRight (arrow (attrs result_row)))))

declaration_is : (l : Label) (r : Row) → row_of a_declaration l ≡ Some r → (l ≡ at declaration_node 0 0) × (own a_bare_declaration nothing ≡ r)
declaration_is (at k zero zero) r h = by (same_kind declaration_node k) refl h where
  by : (b : Bool) → same_kind declaration_node k ≡ b → (if b then Some (own a_bare_declaration nothing) else None) ≡ Some r → ((let l : Label = at k 0 0 in l) ≡ at declaration_node 0 0) × (own a_bare_declaration nothing ≡ r)
  by true e g = (ap (λ z. let l : Label = at z 0 0 in l) (turned (kind_is declaration_node k e)), of_some (own a_bare_declaration nothing) r g)
  by false e g = absurd (no_some r g)
declaration_is (kind k) r h = absurd (no_some r h)
declaration_is l r h = absurd (no_some r h)

module _ (child : Sort → Reader) (n : ℕ) (one_attribute : ReadsSort child n an_attribute Unopened (child an_attribute)) (parted : ReadsParted child n (child an_attribute)) (exprs : ReadsSort child n an_expression Ended (child an_expression))
    (kinds : ReadsSort child n a_kind NoList (child a_kind)) (types : ReadsSort child n a_type Ends (child a_type)) (one_member : ReadsSort child n a_member Ends (child a_member)) (one_parameter : ReadsSort child n a_parameter Ends (child a_parameter))
    (bodies : ReadsSort child n a_body Always (child a_body)) where
  -- what is told of a declaration, behind its attributes
  abbrev Tells : Label → List Token → Type 0
  Tells l vs = (declaration_label vs ≡ Some l) × Declares vs

  abbrev pub Declared : Label → Forest → List Token → List Token → Type 0
  Declared l c ts us = ((vs : List Token) × (behind_attributes child ts ≡ vs) × Tells l vs) × (node child a_bare_declaration ts ≡ Some (node_of l c, us))

  -- by its row
  by_row : (l : Label) (c : Forest) (row : Row) (ts us : List Token) → row_of a_bare_declaration l ≡ Some row → (fits l c && stands_as a_bare_declaration l c) ≡ true → (vs : List Token) × (behind_attributes child ts ≡ vs) × Tells l vs → read_row child (read_part child) row ts ≡ Some (c, us) → Declared l c ts us
  by_row l c row ts us o f b e = (b, node_from child a_bare_declaration l c row ts us o f (ap declaration_label b.1 ∙ b.2.0) e)

  abbrev Of : Kind → Row → Type 0
  Of k row = (c : Forest) (ts us : List Token) → (fits (kind k) c && stands_as a_bare_declaration (kind k) c) ≡ true → fill ((spells c).row row) ts ≡ Some us → Within n c → Declared (kind k) c ts us

  -- one that begins with a word
  worded : (k : Kind) (w : Text) (row : Row) → row_of {I = Text} a_bare_declaration (kind k) ≡ Some (attrs (says w row)) → ((vs : List Token) → Tells (kind k) (name w ∷ vs)) → RowOk child (read_part child) n Always row → Of k (attrs (says w row))
  worded k w row o tells ok c ts us f h v =
      let y : (p : Forest) × (vs : List Token) × (behind_attributes child ts ≡ name w ∷ vs) × (fill ((spells p).row row) vs ≡ Some us) = word_behind child n one_attribute c w row ts us h v in
      by_row (kind k) c (attrs (says w row)) ts us o f (name w ∷ y.1, y.2, tells y.1) (row_reads child (read_part child) n c (attrs (says w row)) Always (worded_ok child n one_attribute Always w row ok) ts us h v tt)

  tail_is : (f : Forest) (vs us : List Token) → fill ((spells f).row (sym is.Semicolon nothing)) vs ≡ Some us → Tail vs
  tail_is f vs us g = let x : (ws : List Token) × (vs ≡ symbol is.Semicolon ∷ ws) × (fill ((spells f).row nothing) ws ≡ Some us) = row_token f is.Semicolon nothing vs us g in (x.0, inl x.1)

  abbrev named_row : Row
  named_row = leaf (an_ident binder) (optional (sym is.Colon (own a_type nothing)) (optional (sym is.Equal (own an_expression nothing)) (sym is.Semicolon nothing)))

  abbrev declared_row : Row
  declared_row = declaration_row child (read_part child) n parted exprs Always (sym is.Semicolon nothing) (λ f vs us g e. tail_is f vs us g) tt

  kind_tells : (j : Label) (d : Forest) (vs us : List Token) → fill (first_slots j d (spells d) a_kind) vs ≡ Some us → is_kind let_kind (Some j) ≡ false → Apart vs × Tells (kind declaration) vs
  kind_tells j d vs us h e =
      kind_by (λ vs. Apart vs × Tells (kind declaration) vs) j d vs us h (λ ws. ((refl, refl), (refl, (refl, refl, refl)))) (λ q ws. ((refl, refl), (refl, (refl, refl, refl)))) (λ q ws. absurd (no_true (turned e ∙ ap (λ z. is_kind let_kind (Some z)) q))) (λ ws. ((refl, refl), (refl, (refl, refl, refl))))

  declaration_of : Of declaration (attrs declared_row)
  declaration_of c ts us f h w =
      let e : is_kind let_kind (label_at 1 c) ≡ false = denied (is_kind let_kind (label_at 1 c)) (and_parts (fits (kind declaration) c) (not (is_kind let_kind (label_at 1 c))) f).1 in
      let b : ((vs : List Token) × (behind_attributes child ts ≡ vs) × Tells (kind declaration) vs) × (Unit {0} → read_row child (read_part child) (attrs declared_row) ts ≡ Some (c, us))
      = behind_reads child (read_part child) n parted exprs Always (sym is.Semicolon nothing) (λ f vs us g e. tail_is f vs us g) tt c declared_row (Tells (kind declaration)) ts us h w (declaration_ok child (read_part child) n parted exprs Always (sym is.Semicolon nothing) (λ f vs us g e. tail_is f vs us g) tt kinds types) (λ o vs k g q.
      let y : (j : Label) × (d : Forest) × (x : Forest) × (ws : List Token) × (o ≡ tree j d x) × (fill (first_slots j d (spells d) a_kind) vs ≡ Some ws) × (fill ((spells x).row (named_row)) ws ≡ Some us) = own_first o a_kind named_row vs us k in
      kind_tells y.0 y.1 vs y.3 y.5 (ap (λ z. is_kind let_kind (label_at 1 z)) (turned (q ∙ ap (λ z. tree (kind attributes) g z) y.4)) ∙ e)) in
      by_row (kind declaration) c (attrs declared_row) ts us refl f b.0 (b.1 tt)

  void_of : Of void (sym is.Semicolon nothing)
  void_of c ts us f h w =
      let y : (vs : List Token) × (ts ≡ symbol is.Semicolon ∷ vs) × (fill ((spells c).row nothing) vs ≡ Some us) = row_token c is.Semicolon nothing ts us h in
      by_row (kind void) c (sym is.Semicolon nothing) ts us refl f (symbol is.Semicolon ∷ y.0, ap (λ z. behind_attributes child z) y.1, (refl, (refl, refl, refl))) (row_reads child (read_part child) n c (sym is.Semicolon nothing) Always tt ts us h w tt)

  alias_ok : RowOk child (read_part child) n Always alias_row
  alias_ok = ((λ l o ts vs us h g e. (binder_reads l o ts vs h).1), ((λ l c ts vs g v more. types l c ts vs g v (semicolon_ended more.0 nothing vs more.1 more.2).1.0), tt))

  struct_ok : RowOk child (read_part child) n Always struct_row
  struct_ok = (
    (λ l o ts vs us h g e. (binder_reads l o ts vs h).1),
    (
      (λ g ts vs h w more.
          let x : (ws : List Token) × (vs ≡ symbol is.BraceRight ∷ ws) × (fill ((spells more.0).row nothing) ws ≡ Some more.1) = row_token more.0 is.BraceRight nothing vs more.1 more.2 in
          separate_reads (begins_child child a_member) (child a_member) a_member n Ends one_member (λ l c ts us h w. member_begins child n one_attribute l c ts us h w) (λ us. (refl, refl)) g ts vs h w
          (ap (λ z. begins_child child a_member z) x.1) (ap (λ z. begins_sign is.Comma z) x.1) (subst Ends (turned x.1) (refl, refl))),
      tt,
    ),
  )

  -- what comes behind parameters: a result, or a body
  result_apart : (f : Forest) (vs us : List Token) → fill ((spells f).row result_row) vs ≡ Some us → begins_sign is.Arrow vs ≡ false
  result_apart f vs us h = by (row_optional f (own a_type nothing) (own a_body nothing) vs us h) where
    by : ((g : Forest) × (fill ((spells g).row (own a_body nothing)) vs ≡ Some us)) ⊎ ((d : Forest) × (g : Forest) × (ws : List Token) × (fill ((spells d).row (own a_type nothing)) vs ≡ Some ws) × (fill ((spells g).row (own a_body nothing)) ws ≡ Some us)) → begins_sign is.Arrow vs ≡ false
    by (inl x) = (own_body_apart x.0 nothing vs us x.1).1
    by (inr x) = ap (λ z. begins_sign is.Arrow z) (own_type_first x.0 nothing vs x.2 x.3).2

  result_ok : RowOk child (read_part child) n Always result_row
  result_ok = (
    (λ vs more. (own_body_apart more.0 nothing vs more.1 more.2).0),
    (λ f ts vs h w more. ap begins_name (own_type_first f nothing ts vs h).2),
    ((λ l c ts vs g v more. types l c ts vs g v (subst Ends (turned (nothing_row more.0 vs more.1 more.2).1) (own_body_ended more.4.0 nothing more.1 more.4.1 more.4.2).1.0)), tt),
    ((λ l c ts vs g v more. bodies l c ts vs g v tt), tt),
  )

  function_ok : RowOk child (read_part child) n Always function_row
  function_ok = (
    (λ l o ts vs us h g e. (binder_reads l o ts vs h).1),
    (
      (λ g ts vs h w more.
          let x : (ws : List Token) × (vs ≡ symbol is.ParenRight ∷ ws) × (fill ((spells more.0).row (arrow (attrs result_row))) ws ≡ Some more.1) = row_token more.0 is.ParenRight (arrow (attrs result_row)) vs more.1 more.2 in
          separate_reads (begins_child child a_parameter) (child a_parameter) a_parameter n Ends one_parameter (λ l c ts us h w. parameter_begins child n one_attribute l c ts us h w) (λ us. (refl, refl)) g ts vs h w
          (ap (λ z. begins_child child a_parameter z) x.1) (ap (λ z. begins_sign is.Comma z) x.1) (subst Ends (turned x.1) (refl, refl))),
      (
        (λ vs more. result_apart more.0 vs more.1 more.2),
        (λ g f ts vs us h w a k v e. let x : Named vs = type_first f (own a_body nothing) vs us a k in attributes_read child n one_attribute g ts vs h w (ap (λ z. begins_sign is.At z) x.2) (ap (λ z. begins_sign is.ParenLeft z) x.2)),
        result_ok,
      ),
    ),
  )

  -- by the place of its row in the table
  at_row : (k j : Kind) (row r : Row) (c : Forest) (ts us : List Token) → Of j row → k ≡ j → row ≡ r → (fits (kind k) c && stands_as a_bare_declaration (kind k) c) ≡ true → fill ((spells c).row r) ts ≡ Some us → Within n c → Declared (kind k) c ts us
  at_row k j row r c ts us reads p q f h w =
      subst (λ z. (fits (kind z) c && stands_as a_bare_declaration (kind z) c) ≡ true → Declared (kind z) c ts us) (turned p) (λ g. reads c ts us g (subst (λ z. fill ((spells c).row z) ts ≡ Some us) (turned q) h) w) f

  kind_reads : (k : Kind) (c : Forest) (r : Row) (ts us : List Token) → (fits (kind k) c && stands_as a_bare_declaration (kind k) c) ≡ true → fill ((spells c).row r) ts ≡ Some us → Within n c → InRows rows_of_bare_declaration k r → Declared (kind k) c ts us
  kind_reads k c r ts us f h w (inl q) = at_row k declaration (attrs declared_row) r c ts us declaration_of q.0 q.1 f h w
  kind_reads k c r ts us f h w (inr (inl q)) =
      at_row k const_assert (attrs (says (codes "const_assert") assert_row)) r c ts us (worded const_assert (codes "const_assert") assert_row refl (λ vs. (refl, (refl, refl, refl))) ((λ l c ts vs g v more. exprs l c ts vs g v (semicolon_ended more.0 nothing vs more.1 more.2)), tt)) q.0 q.1 f h w
  kind_reads k c r ts us f h w (inr (inr (inl q))) = at_row k void (sym is.Semicolon nothing) r c ts us void_of q.0 q.1 f h w
  kind_reads k c r ts us f h w (inr (inr (inr (inl q)))) = at_row k type_alias (attrs (says (codes "alias") alias_row)) r c ts us (worded type_alias (codes "alias") alias_row refl (λ vs. (refl, (refl, refl, refl))) alias_ok) q.0 q.1 f h w
  kind_reads k c r ts us f h w (inr (inr (inr (inr (inl q))))) = at_row k struct (attrs (says (codes "struct") struct_row)) r c ts us (worded struct (codes "struct") struct_row refl (λ vs. (refl, (refl, refl, refl))) struct_ok) q.0 q.1 f h w
  kind_reads k c r ts us f h w (inr (inr (inr (inr (inr (inl q)))))) = at_row k function (attrs (says (codes "fn") function_row)) r c ts us (worded function (codes "fn") function_row refl (λ vs. (refl, (refl, refl, refl))) function_ok) q.0 q.1 f h w
  kind_reads k c r ts us f h w (inr (inr (inr (inr (inr (inr q)))))) = absurd q

  -- a declaration without its span
  pub bare_declaration_reads : (l : Label) (c : Forest) (ts us : List Token) → fill (first_slots l c (spells c) a_bare_declaration) ts ≡ Some us → Within n (tree l c end) → Declared l c ts us
  bare_declaration_reads (kind k) c ts us h w =
      let x : (r : Row) × (row_of {I = Text} a_bare_declaration (kind k) ≡ Some r) × ((fits (kind k) c && stands_as a_bare_declaration (kind k) c) ≡ true) × (fill ((spells c).row r) ts ≡ Some us) = first_parts (kind k) c (spells c) a_bare_declaration ts us h in
      kind_reads k c x.0 ts us x.2 x.3 (within_below (kind k) c end n w) (in_rows rows_of_bare_declaration k x.0 x.1)
  bare_declaration_reads (at k zero zero) c ts us h w = absurd (no_some us h)
  bare_declaration_reads (at k zero (suc f)) c ts us h w = absurd (no_some us h)
  bare_declaration_reads (at k (suc s) f) c ts us h w = absurd (no_some us h)
  bare_declaration_reads l c ts us h w = absurd (no_some us h)

  -- what a declaration with its span begins with, behind attributes
  pub declaration_behind : (l : Label) (c : Forest) (ts us : List Token) → fill (first_slots l c (spells c) a_declaration) ts ≡ Some us → Within n (tree l c end) → (vs : List Token) × (behind_attributes child ts ≡ vs) × Declares vs
  declaration_behind l c ts us h w =
      let x : (r : Row) × (row_of a_declaration l ≡ Some r) × ((fits l c && stands_as a_declaration l c) ≡ true) × (fill ((spells c).row r) ts ≡ Some us) = first_parts l c (spells c) a_declaration ts us h in
      let y : (j : Label) × (d : Forest) × (o : Forest) × (vs : List Token) × (c ≡ tree j d o) × (fill (first_slots j d (spells d) a_bare_declaration) ts ≡ Some vs) × (fill ((spells o).row nothing) vs ≡ Some us)
      = own_first c a_bare_declaration nothing ts us (subst (λ z. fill ((spells c).row z) ts ≡ Some us) (turned (declaration_is l x.0 x.1).1) x.3) in
      let b : Declared y.0 y.1 ts y.3 = bare_declaration_reads y.0 y.1 ts y.3 y.5 ((subst (λ z. Within n z) y.4 (within_below l c end n w)).0, tt) in
      (b.0.0, b.0.1, b.0.2.1)

-- a declaration with its span
pub declaration_reads : (child : Sort → Reader) (n : ℕ) → ReadsSort child n a_bare_declaration Always (child a_bare_declaration) → ReadsSort child n a_declaration Always (node child a_declaration)
declaration_reads child n bare l c ts us h w e =
    node_by child n a_declaration l (at declaration_node 0 0) c (own a_bare_declaration nothing) Always ts us h refl (declaration_is l) ((λ l c ts vs g v more. bare l c ts vs g v tt), tt) (within_below l c end n w) tt
