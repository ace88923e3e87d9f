-- Attributes with their spans, one behind the other; parameters and members.
use Rattle.std.proofs.Common.{◌≡◌, ℕ, zero, suc, Bool, true, false, ◌&&◌, if◌then◌else◌, List, [], ◌∷◌, length, Some, None, refl, sym as turned, ap, ◌∙◌, subst, le_refl}
use Rattle.wesl_tree_names.specs.Path.{Text}
use Rattle.wesl_tree_syntax.specs.Tree.{kind, at, ident, text, end, tree, binder, parameter, member, attribute_node, member_node}
use Rattle.wesl_tree_syntax.specs.Kinds.{same_kind, same_role}
use Rattle.wesl_text_tokens.specs.declared.symbol.Symbol.TheVariants as is
use Rattle.wesl_text_tokens.specs.Tokens.{Token, name, symbol}
use Rattle.wesl_text_form.specs.Names.{is_name, is_word, is_free}
use Rattle.wesl_text_form.specs.Productions.{Sort, an_expression, an_attribute, a_bare_attribute, a_type, a_parameter, a_member, a_bare_member, an_ident, a_name, Row, nothing, sym, own, leaf, attrs, row_of, rows_of_bare_attribute}
use Rattle.wesl_text_form.specs.Spelling.{Label, Forest, spells, named, leaf_slots, first_slots, fits, stands_as}
use Rattle.wesl_text_reading.specs.Leaves.{read_leaf}
use Rattle.wesl_text_reading.specs.FirstTokens.{begins_sign}
use Rattle.wesl_text_reading.specs.Reading.{Reader, node_of, node, any, all_of, begins_child, read_part, ranked, at_level, reading}
use Rattle.wesl_text_reading.proofs.Filled.{no_some, of_some, no_true, fill, one, stands}
use Rattle.wesl_text_reading.proofs.Takes.{where_true, first_parts, at_rows}
use Rattle.wesl_text_reading.proofs.KindsAgain.{kind_is, role_is}
use Rattle.wesl_text_reading.proofs.Within.{Within, within_below}
use Rattle.wesl_text_reading.proofs.RowReads.{RowOk}
use Rattle.wesl_text_reading.proofs.Loops.{Last, all_reads}
use Rattle.wesl_text_reading.proofs.Chains.{Ends, nothing_row, row_token}
use Rattle.wesl_text_reading.proofs.Operands.{only_row, leaf_first, own_first}
use Rattle.wesl_text_reading.proofs.Complete.{ReadsSort, node_by, from_any, complete, type_reads, argument_reads}
use Rattle.wesl_text_reading.proofs.Attributes.{attribute_reads}
use Rattle.std.proofs.lemmas.Bool.{and_parts}

-- no `(` comes first
abbrev pub Unopened : List Token → Type 0
Unopened us = begins_sign is.ParenLeft us ≡ false

-- the label of an attribute with its span
pub attribute_is : (l : Label) (r : Row) → row_of an_attribute l ≡ Some r → (l ≡ at attribute_node 0 0) × (own a_bare_attribute nothing ≡ r)
attribute_is (at k zero zero) r h = by (same_kind attribute_node k) refl h where
  by : (b : Bool) → same_kind attribute_node k ≡ b → (if b then Some (own a_bare_attribute nothing) else None) ≡ Some r → ((let l : Label = at k 0 0 in l) ≡ at attribute_node 0 0) × (own a_bare_attribute nothing ≡ r)
  by true e g = (ap (λ z. let l : Label = at z 0 0 in l) (turned (kind_is attribute_node k e)), of_some (own a_bare_attribute nothing) r g)
  by false e g = absurd (no_some r g)
attribute_is (kind k) r h = absurd (no_some r h)
attribute_is l r h = absurd (no_some r h)

-- whether a row begins with `@`
abbrev begins_at : Row → Bool
begins_at (sym is.At row) = true
begins_at _ = false

at_first : (r : Row) (c : Forest) (ts us : List Token) → begins_at r ≡ true → fill ((spells c).row r) ts ≡ Some us → (vs : List Token) × (ts ≡ symbol is.At ∷ vs)
at_first (sym is.At row) c ts us e h = let x : (vs : List Token) × (ts ≡ symbol is.At ∷ vs) × (fill ((spells c).row row) vs ≡ Some us) = row_token c is.At row ts us h in (x.0, x.1)
at_first r c ts us e h = absurd (no_true e)

-- an attribute begins with `@`
bare_at : (l : Label) (c : Forest) (ts us : List Token) → fill (first_slots l c (spells c) a_bare_attribute) ts ≡ Some us → (vs : List Token) × (ts ≡ symbol is.At ∷ vs)
bare_at (kind k) c ts us h =
    let x : (r : Row) × (row_of {I = Text} a_bare_attribute (kind k) ≡ Some r) × ((fits (kind k) c && stands_as a_bare_attribute (kind k) c) ≡ true) × (fill ((spells c).row r) ts ≡ Some us) = first_parts (kind k) c (spells c) a_bare_attribute ts us h in
    at_first x.0 c ts us (at_rows begins_at rows_of_bare_attribute k x.0 refl x.1) x.3
bare_at (at k zero zero) c ts us h = absurd (no_some us h)
bare_at (at k zero (suc f)) c ts us h = absurd (no_some us h)
bare_at (at k (suc s) f) c ts us h = absurd (no_some us h)
bare_at l c ts us h = absurd (no_some us h)

pub attribute_at : (l : Label) (c : Forest) (ts us : List Token) → fill (first_slots l c (spells c) an_attribute) ts ≡ Some us → (vs : List Token) × (ts ≡ symbol is.At ∷ vs)
attribute_at l c ts us h =
    let x : (r : Row) × (row_of an_attribute l ≡ Some r) × ((fits l c && stands_as an_attribute l c) ≡ true) × (fill ((spells c).row r) ts ≡ Some us) = first_parts l c (spells c) an_attribute ts us h in
    let y : (j : Label) × (d : Forest) × (o : Forest) × (vs : List Token) × (c ≡ tree j d o) × (fill (first_slots j d (spells d) a_bare_attribute) ts ≡ Some vs) × (fill ((spells o).row nothing) vs ≡ Some us)
    = own_first c a_bare_attribute nothing ts us (subst (λ z. fill ((spells c).row z) ts ≡ Some us) (turned (attribute_is l x.0 x.1).1) x.3) in
    bare_at y.0 y.1 ts y.3 y.5

module _ (child : Sort → Reader) (n : ℕ) where
  spanned_attribute_reads : ReadsSort child n a_bare_attribute Unopened (child a_bare_attribute) → ReadsSort child n an_attribute Unopened (node child an_attribute)
  spanned_attribute_reads bare l c ts us h w e =
      node_by child n an_attribute l (at attribute_node 0 0) c (own a_bare_attribute nothing) Unopened ts us h refl (attribute_is l)
      ((λ l c ts vs g v rest. bare l c ts vs g v (subst Unopened (turned (nothing_row rest.0 vs rest.1 rest.2).1) rest.4)), tt) (within_below l c end n w) e

-- an attribute that is said is read
pub attribute_reads_at : (n : ℕ) (l : Label) (c : Forest) (ts us : List Token) → fill (first_slots l c (spells c) an_attribute) ts ≡ Some us → Within n (tree l c end) → Unopened us → reading n an_attribute ts ≡ Some (node_of l c, us)
attribute_reads_at n l c ts us h w e =
    spanned_attribute_reads (ranked (at_level n any) 1) n (attribute_reads (ranked (at_level n any) 0) n (from_any (λ p ts. at_level n p an_expression ts) n (complete n))) l c ts us h w e

-- a word comes first
abbrev pub Named : List Token → Type 0
Named vs = (t : Text) × (ws : List Token) × (vs ≡ name t ∷ ws)

pub binder_reads : (l : Label) (o : Forest) (ts vs : List Token) → fill (leaf_slots (an_ident binder) l o) ts ≡ Some vs → Named ts × (read_leaf (an_ident binder) ts ≡ Some (l, vs))
binder_reads (ident q t) o ts vs h =
    let x : ((same_role binder q && is_name t) ≡ true) × (fill (Some (named t ∷ [])) ts ≡ Some vs) = where_true (same_role binder q && is_name t) (Some (named t ∷ [])) ts vs h in
    let y : (same_role binder q ≡ true) × (is_name t ≡ true) = and_parts (same_role binder q) (is_name t) x.0 in
    let e : ts ≡ name t ∷ vs = stands (name t) ts vs (one (named t) ts vs x.1) in
    ((t, vs, e), ap (λ z. read_leaf (an_ident binder) z) e ∙ (ap (λ b. if b then Some (ident binder t, vs) else None) (and_parts (is_word t) (is_free t) y.1).1 ∙ ap (λ z. Some (ident z t, vs)) (role_is binder q y.0)))
binder_reads (kind k) o ts vs h = absurd (no_some vs h)
binder_reads l o ts vs h = absurd (no_some vs h)

pub name_reads : (l : Label) (o : Forest) (ts vs : List Token) → fill (leaf_slots a_name l o) ts ≡ Some vs → Named ts × (read_leaf a_name ts ≡ Some (l, vs))
name_reads (text t) o ts vs h =
    let x : (is_name t ≡ true) × (fill (Some (named t ∷ [])) ts ≡ Some vs) = where_true (is_name t) (Some (named t ∷ [])) ts vs h in
    let e : ts ≡ name t ∷ vs = stands (name t) ts vs (one (named t) ts vs x.1) in
    ((t, vs, e), ap (λ z. read_leaf a_name z) e ∙ ap (λ b. if b then Some (text t, vs) else None) (and_parts (is_word t) (is_free t) x.0).1)
name_reads (kind k) o ts vs h = absurd (no_some vs h)
name_reads l o ts vs h = absurd (no_some vs h)

-- ---- attributes before a node

module _ (child : Sort → Reader) (n : ℕ) (one_attribute : ReadsSort child n an_attribute Unopened (child an_attribute)) where
  -- the last of them, whichever it is
  last_is : (g : Forest) (us : List Token) → Unopened us → Last (begins_child child an_attribute) (child an_attribute) an_attribute n (λ l c us. Unopened us) (λ l c ts us h w e. one_attribute l c ts us h w e) (λ l c ts us h w. ap (λ z. begins_child child an_attribute z) (attribute_at l c ts us h).1) (λ k d l c ts us h w. ap (λ z. begins_sign is.ParenLeft z) (attribute_at l c ts us h).1) g us
  last_is end us e = tt
  last_is (tree l c end) us e = e
  last_is (tree l c (tree k d o)) us e = last_is (tree k d o) us e

  -- attributes are read, where neither a further one nor `(` comes behind
  pub attributes_read : (g : Forest) (ts us : List Token) → fill ((spells g).all an_attribute) ts ≡ Some us → Within n g → begins_sign is.At us ≡ false → Unopened us → all_of (begins_child child an_attribute) (child an_attribute) (length ts) ts ≡ Some (g, us)
  attributes_read g ts us h w a e =
      all_reads (begins_child child an_attribute) (child an_attribute) an_attribute n (λ l c us. Unopened us)
      (λ l c ts us h w e. one_attribute l c ts us h w e)
      (λ l c ts us h w. ap (λ z. begins_child child an_attribute z) (attribute_at l c ts us h).1)
      (λ k d l c ts us h w. ap (λ z. begins_sign is.ParenLeft z) (attribute_at l c ts us h).1)
      g (length ts) ts us (le_refl (length ts)) h w a (last_is g us e)

  named_attributes : (g : Forest) (ts vs : List Token) → fill ((spells g).all an_attribute) ts ≡ Some vs → Within n g → Named vs → all_of (begins_child child an_attribute) (child an_attribute) (length ts) ts ≡ Some (g, vs)
  named_attributes g ts vs h w x = attributes_read g ts vs h w (ap (λ z. begins_sign is.At z) x.2) (ap (λ z. begins_sign is.ParenLeft z) x.2)

  -- parameters and members: attributes, a name, `:` and a type
  parameter_ok : ReadsSort child n a_type Ends (child a_type) → RowOk child (read_part child) n Ends (attrs (leaf (an_ident binder) (sym is.Colon (own a_type nothing))))
  parameter_ok types = (
    (λ g ts vs h w rest. let x : (l : Label) × (o : Forest) × (ws : List Token) × (fill (leaf_slots (an_ident binder) l o) vs ≡ Some ws) × (fill ((spells o).row (sym is.Colon (own a_type nothing))) ws ≡ Some rest.1) = leaf_first rest.0 (an_ident binder) (sym is.Colon (own a_type nothing)) vs rest.1 rest.2 in
        named_attributes g ts vs h w (binder_reads x.0 x.1 vs x.2 x.3).0),
    (
      (λ l o ts vs us h g e. (binder_reads l o ts vs h).1),
      ((λ l c ts vs g v rest. types l c ts vs g v (subst Ends (turned (nothing_row rest.0 vs rest.1 rest.2).1) rest.4)), tt),
    ),
  )

  member_ok : ReadsSort child n a_type Ends (child a_type) → RowOk child (read_part child) n Ends (attrs (leaf a_name (sym is.Colon (own a_type nothing))))
  member_ok types = (
    (λ g ts vs h w rest. let x : (l : Label) × (o : Forest) × (ws : List Token) × (fill (leaf_slots a_name l o) vs ≡ Some ws) × (fill ((spells o).row (sym is.Colon (own a_type nothing))) ws ≡ Some rest.1) = leaf_first rest.0 a_name (sym is.Colon (own a_type nothing)) vs rest.1 rest.2 in
        named_attributes g ts vs h w (name_reads x.0 x.1 vs x.2 x.3).0),
    (
      (λ l o ts vs us h g e. (name_reads l o ts vs h).1),
      ((λ l c ts vs g v rest. types l c ts vs g v (subst Ends (turned (nothing_row rest.0 vs rest.1 rest.2).1) rest.4)), tt),
    ),
  )

  pub parameter_is : (l : Label) (r : Row) → row_of a_parameter l ≡ Some r → (l ≡ kind parameter) × (attrs (leaf (an_ident binder) (sym is.Colon (own a_type nothing))) ≡ r)
  parameter_is (kind k) r h = let x : (k ≡ parameter) × (attrs (leaf (an_ident binder) (sym is.Colon (own a_type nothing))) ≡ r) = only_row parameter (attrs (leaf (an_ident binder) (sym is.Colon (own a_type nothing)))) k r h in (ap (λ z. let l : Label = kind z in l) x.0, x.1)
  parameter_is (at k zero zero) r h = absurd (no_some r h)
  parameter_is (at k zero (suc e)) r h = absurd (no_some r h)
  parameter_is (at k (suc s) e) r h = absurd (no_some r h)
  parameter_is l r h = absurd (no_some r h)

  pub member_is : (l : Label) (r : Row) → row_of a_bare_member l ≡ Some r → (l ≡ kind member) × (attrs (leaf a_name (sym is.Colon (own a_type nothing))) ≡ r)
  member_is (kind k) r h = let x : (k ≡ member) × (attrs (leaf a_name (sym is.Colon (own a_type nothing))) ≡ r) = only_row member (attrs (leaf a_name (sym is.Colon (own a_type nothing)))) k r h in (ap (λ z. let l : Label = kind z in l) x.0, x.1)
  member_is (at k zero zero) r h = absurd (no_some r h)
  member_is (at k zero (suc e)) r h = absurd (no_some r h)
  member_is (at k (suc s) e) r h = absurd (no_some r h)
  member_is l r h = absurd (no_some r h)

  pub parameter_reads : ReadsSort child n a_type Ends (child a_type) → ReadsSort child n a_parameter Ends (node child a_parameter)
  parameter_reads types l c ts us h w e = node_by child n a_parameter l (kind parameter) c (attrs (leaf (an_ident binder) (sym is.Colon (own a_type nothing)))) Ends ts us h refl (parameter_is l) (parameter_ok types) (within_below l c end n w) e

  pub bare_member_reads : ReadsSort child n a_type Ends (child a_type) → ReadsSort child n a_bare_member Ends (node child a_bare_member)
  bare_member_reads types l c ts us h w e = node_by child n a_bare_member l (kind member) c (attrs (leaf a_name (sym is.Colon (own a_type nothing)))) Ends ts us h refl (member_is l) (member_ok types) (within_below l c end n w) e

-- a parameter that is said is read, and a member without its span
pub types_at : (n : ℕ) → ReadsSort (ranked (at_level n any) 2) n a_type Ends (ranked (at_level n any) 2 a_type)
types_at n l c ts us h w e = type_reads (ranked (at_level n any) 1) n (argument_reads (ranked (at_level n any) 0) n (from_any (λ p ts. at_level n p an_expression ts) n (complete n))) l c ts us h w e

pub attributes_at : (n : ℕ) → ReadsSort (ranked (at_level n any) 2) n an_attribute Unopened (ranked (at_level n any) 2 an_attribute)
attributes_at n l c ts us h w e = attribute_reads_at n l c ts us h w e

pub parameter_reads_at : (n : ℕ) (l : Label) (c : Forest) (ts us : List Token) → fill (first_slots l c (spells c) a_parameter) ts ≡ Some us → Within n (tree l c end) → Ends us → reading n a_parameter ts ≡ Some (node_of l c, us)
parameter_reads_at n l c ts us h w e = parameter_reads (ranked (at_level n any) 2) n (attributes_at n) (types_at n) l c ts us h w e

pub bare_member_reads_at : (n : ℕ) (l : Label) (c : Forest) (ts us : List Token) → fill (first_slots l c (spells c) a_bare_member) ts ≡ Some us → Within n (tree l c end) → Ends us → reading n a_bare_member ts ≡ Some (node_of l c, us)
bare_member_reads_at n l c ts us h w e = bare_member_reads (ranked (at_level n any) 2) n (attributes_at n) (types_at n) l c ts us h w e

-- ---- members with their spans

pub spanned_member_is : (l : Label) (r : Row) → row_of a_member l ≡ Some r → (l ≡ at member_node 0 0) × (own a_bare_member nothing ≡ r)
spanned_member_is (at k zero zero) r h = by (same_kind member_node k) refl h where
  by : (b : Bool) → same_kind member_node k ≡ b → (if b then Some (own a_bare_member nothing) else None) ≡ Some r → ((let l : Label = at k 0 0 in l) ≡ at member_node 0 0) × (own a_bare_member nothing ≡ r)
  by true e g = (ap (λ z. let l : Label = at z 0 0 in l) (turned (kind_is member_node k e)), of_some (own a_bare_member nothing) r g)
  by false e g = absurd (no_some r g)
spanned_member_is (kind k) r h = absurd (no_some r h)
spanned_member_is l r h = absurd (no_some r h)

member_reads : (child : Sort → Reader) (n : ℕ) → ReadsSort child n a_bare_member Ends (child a_bare_member) → ReadsSort child n a_member Ends (node child a_member)
member_reads child n bare l c ts us h w e =
    node_by child n a_member l (at member_node 0 0) c (own a_bare_member nothing) Ends ts us h refl (spanned_member_is l)
    ((λ l c ts vs g v rest. bare l c ts vs g v (subst Ends (turned (nothing_row rest.0 vs rest.1 rest.2).1) rest.4)), tt) (within_below l c end n w) e

pub member_reads_at : (n : ℕ) (l : Label) (c : Forest) (ts us : List Token) → fill (first_slots l c (spells c) a_member) ts ≡ Some us → Within n (tree l c end) → Ends us → reading n a_member ts ≡ Some (node_of l c, us)
member_reads_at n l c ts us h w e = member_reads (ranked (at_level n any) 3) n (λ l c ts us h w e. bare_member_reads_at n l c ts us h w e) l c ts us h w e
