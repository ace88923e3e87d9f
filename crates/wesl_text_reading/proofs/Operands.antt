-- Types, calls and the operands of expressions are read.
use Rattle.std.proofs.Common.{◌≡◌, ◌⊎◌, zero, suc, Bool, true, false, ◌&&◌, ◌||◌, if◌then◌else◌, List, [], ◌∷◌, ◌++◌, Some, None, refl, sym as turned, inl, inr, ap, ◌∙◌, subst, codes, bytes_eq}
use Rattle.wesl_tree_names.specs.Path.{Text, Path, Origin, absolute, relative, from_package}
use Rattle.wesl_tree_syntax.specs.Tree.{Kind, reference, kind, at, ident, text, truth, path, unary, binary, end, tree, literal, call, type_expression, template_argument, list, present, absent}
use Rattle.wesl_tree_syntax.specs.Kinds.{same_kind, same_role}
use Rattle.wesl_tree_syntax.specs.declared.expression.UnaryOperator.{UnaryOperator}
use Rattle.wesl_tree_syntax.specs.declared.expression.UnaryOperator.TheVariants as unary_operator
use Rattle.wesl_text_tokens.specs.declared.symbol.Symbol.TheVariants as is
use Rattle.wesl_text_tokens.specs.Tokens.{Token, name, number, symbol, open_list, close_list}
use Rattle.wesl_text_form.specs.Slots.{must, left}
use Rattle.wesl_text_form.specs.Names.{is_among, is_name, is_word, is_free, is_number, is_path, is_origin, are_names}
use Rattle.wesl_text_form.specs.Operators.{unary_symbol, binary_symbol}
use Rattle.wesl_text_form.specs.Productions.{Sort, an_expression, a_bare_expression, a_call, a_type, an_argument, Leaf, an_ident, a_name, a_literal, a_path, Row, Rows, nothing, sym, opens, closes, own, leaf, commas, optional, row_of, row_at, rows_of_bare_expression}
use Rattle.wesl_text_form.specs.Spelling.{Label, Forest, Slots, spells, followed, named, leaf_slots, first_slots, below_first, fits, stands_as, is_end, is_kind, origin_slots, stepped}
use Rattle.wesl_text_reading.specs.Leaves.{read_leaf}
use Rattle.wesl_text_reading.specs.FirstTokens.{begins_expression, begins_path, binary_first, unary_first, operand_label}
use Rattle.wesl_text_reading.specs.Reading.{begins_post}
use Rattle.wesl_text_reading.proofs.Filled.{no_some, of_some, fill, parts, one, stands}
use Rattle.wesl_text_reading.proofs.Takes.{chosen, where_true, first_parts}
use Rattle.wesl_text_reading.proofs.KindsAgain.{kind_is, role_is}
use Rattle.wesl_text_reading.proofs.Types.{path_tokens, no_literal, free_no_literal}
use Rattle.wesl_text_reading.proofs.Chains.{Closes, expression_parts, row_token}
use Rattle.wesl_text_reading.proofs.Types.{origin_word, origin_rest}
use Rattle.std.proofs.lemmas.Bool.{and_parts}

-- the rows of a table, one after the other
abbrev pub InRows : Rows → Kind → Row → Type 0
InRows [] k r = ⊥
InRows (p ∷ ps) k r = ((k ≡ p.0) × (p.1 ≡ r)) ⊎ InRows ps k r

pub in_rows : (ps : Rows) (k : Kind) (r : Row) → row_at ps k ≡ Some r → InRows ps k r
in_rows [] k r h = absurd (no_some r h)
in_rows (p ∷ ps) k r h = at (λ e. in_rows ps k r e) (same_kind k p.0) refl h where
  at : (row_at ps k ≡ Some r → InRows ps k r) → (b : Bool) → same_kind k p.0 ≡ b → (if b then Some p.1 else row_at ps k) ≡ Some r → ((k ≡ p.0) × (p.1 ≡ r)) ⊎ InRows ps k r
  at others true e g = inl (kind_is k p.0 e, of_some p.1 r g)
  at others false e g = inr (others g)

-- tokens behind an expression that is in brackets or in a list
abbrev pub Ended : List Token → Type 0
Ended us = (begins_post us ≡ false) × Closes us × (binary_first us ≡ None)

-- an identifier is read
pub ident_reads : (l : Label) (o : Forest) (ts vs : List Token) → fill (leaf_slots (an_ident reference) l o) ts ≡ Some vs → (t : Text) × (is_free t ≡ true) × (l ≡ ident reference t) × (ts ≡ name t ∷ vs)
ident_reads (ident q t) o ts vs h =
    let x : ((same_role reference q && is_name t) ≡ true) × (fill (Some (named t ∷ [])) ts ≡ Some vs) = where_true (same_role reference q && is_name t) (Some (named t ∷ [])) ts vs h in
    let y : (same_role reference q ≡ true) × (is_name t ≡ true) = and_parts (same_role reference q) (is_name t) x.0 in
    (t, (and_parts (is_word t) (is_free t) y.1).1, ap (λ z. let l : Label = ident z t in l) (turned (role_is reference q y.0)), stands (name t) ts vs (one (named t) ts vs x.1))
ident_reads (kind k) o ts vs h = absurd (no_some vs h)
ident_reads l o ts vs h = absurd (no_some vs h)

-- the tokens of a list of template arguments begin with its bracket
pub row_opens : (f : Forest) (row : Row) (ts us : List Token) → fill ((spells f).row (opens row)) ts ≡ Some us → (vs : List Token) × (ts ≡ open_list ∷ vs) × (fill ((spells f).row row) vs ≡ Some us)
row_opens f row ts us h = with_forest f h where
  found : (b : Slots) → fill (followed (Some (must open_list ∷ [])) b) ts ≡ Some us → (vs : List Token) × (ts ≡ open_list ∷ vs) × (fill b vs ≡ Some us)
  found b g = let x : (vs : List Token) × (fill (Some (must open_list ∷ [])) ts ≡ Some vs) × (fill b vs ≡ Some us) = parts (Some (must open_list ∷ [])) b ts us g in (x.0, stands open_list ts x.0 (one (must open_list) ts x.0 x.1), x.2)

  with_forest : (f : Forest) → fill ((spells f).row (opens row)) ts ≡ Some us → (vs : List Token) × (ts ≡ open_list ∷ vs) × (fill ((spells f).row row) vs ≡ Some us)
  with_forest end g = found ((spells end).row row) g
  with_forest (tree l c o) g = found ((spells (tree l c o)).row row) g

pub row_closes : (f : Forest) (row : Row) (ts us : List Token) → fill ((spells f).row (closes row)) ts ≡ Some us → (vs : List Token) × (ts ≡ close_list ∷ vs) × (fill ((spells f).row row) vs ≡ Some us)
row_closes f row ts us h = with_forest f h where
  found : (b : Slots) → fill (followed (Some (must close_list ∷ [])) b) ts ≡ Some us → (vs : List Token) × (ts ≡ close_list ∷ vs) × (fill b vs ≡ Some us)
  found b g = let x : (vs : List Token) × (fill (Some (must close_list ∷ [])) ts ≡ Some vs) × (fill b vs ≡ Some us) = parts (Some (must close_list ∷ [])) b ts us g in (x.0, stands close_list ts x.0 (one (must close_list) ts x.0 x.1), x.2)

  with_forest : (f : Forest) → fill ((spells f).row (closes row)) ts ≡ Some us → (vs : List Token) × (ts ≡ close_list ∷ vs) × (fill ((spells f).row row) vs ≡ Some us)
  with_forest end g = found ((spells end).row row) g
  with_forest (tree l c o) g = found ((spells (tree l c o)).row row) g

-- the two ways of a part that need not stand, behind the first of trees
pub row_optional : (f : Forest) (ins row : Row) (ts us : List Token) → fill ((spells f).row (optional ins row)) ts ≡ Some us
    → ((g : Forest) × (fill ((spells g).row row) ts ≡ Some us)) ⊎ ((c : Forest) × (g : Forest) × (vs : List Token) × (fill ((spells c).row ins) ts ≡ Some vs) × (fill ((spells g).row row) vs ≡ Some us))
row_optional end ins row ts us h = absurd (no_some us h)
row_optional (tree l c o) ins row ts us h = at (chosen (is_kind absent (Some l) && is_end c) ((spells o).row row) (if is_kind present (Some l) then followed ((spells c).row ins) ((spells o).row row) else None) ts us h) where
  at : (((is_kind absent (Some l) && is_end c) ≡ true) × (fill ((spells o).row row) ts ≡ Some us)) ⊎ (((is_kind absent (Some l) && is_end c) ≡ false) × (fill (if is_kind present (Some l) then followed ((spells c).row ins) ((spells o).row row) else None) ts ≡ Some us))
      → ((g : Forest) × (fill ((spells g).row row) ts ≡ Some us)) ⊎ ((d : Forest) × (g : Forest) × (vs : List Token) × (fill ((spells d).row ins) ts ≡ Some vs) × (fill ((spells g).row row) vs ≡ Some us))
  at (inl x) = inl (o, x.1)
  at (inr x) =
      let y : (is_kind present (Some l) ≡ true) × (fill (followed ((spells c).row ins) ((spells o).row row)) ts ≡ Some us) = where_true (is_kind present (Some l)) (followed ((spells c).row ins) ((spells o).row row)) ts us x.1 in
      let z : (vs : List Token) × (fill ((spells c).row ins) ts ≡ Some vs) × (fill ((spells o).row row) vs ≡ Some us) = parts ((spells c).row ins) ((spells o).row row) ts us y.1 in
      inr (c, o, z.0, z.1, z.2)

-- the leaf that comes first in a row
pub leaf_first : (f : Forest) (x : Leaf) (row : Row) (ts us : List Token) → fill ((spells f).row (leaf x row)) ts ≡ Some us → (l : Label) × (o : Forest) × (vs : List Token) × (fill (leaf_slots x l o) ts ≡ Some vs) × (fill ((spells o).row row) vs ≡ Some us)
leaf_first end x row ts us h = absurd (no_some us h)
leaf_first (tree l c o) x row ts us h =
    let y : (is_end c ≡ true) × (fill (followed (leaf_slots x l o) ((spells o).row row)) ts ≡ Some us) = where_true (is_end c) (followed (leaf_slots x l o) ((spells o).row row)) ts us h in
    let z : (vs : List Token) × (fill (leaf_slots x l o) ts ≡ Some vs) × (fill ((spells o).row row) vs ≡ Some us) = parts (leaf_slots x l o) ((spells o).row row) ts us y.1 in
    (l, o, z.0, z.1, z.2)

-- the node that comes first in a row
pub own_first : (f : Forest) (s : Sort) (row : Row) (ts us : List Token) → fill ((spells f).row (own s row)) ts ≡ Some us → (l : Label) × (c : Forest) × (o : Forest) × (vs : List Token) × (f ≡ tree l c o) × (fill (first_slots l c (spells c) s) ts ≡ Some vs) × (fill ((spells o).row row) vs ≡ Some us)
own_first end s row ts us h = absurd (no_some us h)
own_first (tree l c o) s row ts us h =
    let z : (vs : List Token) × (fill (first_slots l c (spells c) s) ts ≡ Some vs) × (fill ((spells o).row row) vs ≡ Some us) = parts (first_slots l c (spells c) s) ((spells o).row row) ts us h in
    (l, c, o, z.0, refl, z.1, z.2)

-- ---- tables of one row

pub only_row : (j : Kind) (row : Row) (k : Kind) (r : Row) → row_at ((j, row) ∷ []) k ≡ Some r → (k ≡ j) × (row ≡ r)
only_row j row k r h = at (same_kind k j) refl h where
  at : (b : Bool) → same_kind k j ≡ b → (if b then Some row else None) ≡ Some r → (k ≡ j) × (row ≡ r)
  at true e g = (kind_is k j e, of_some row r g)
  at false e g = absurd (no_some r g)

abbrev pub type_row : Row
type_row = optional (leaf (a_path false) nothing) (leaf (an_ident reference) (optional (opens (commas list an_argument (closes nothing))) nothing))

abbrev pub call_row : Row
call_row = own a_type (sym is.ParenLeft (commas list an_expression (sym is.ParenRight nothing)))

pub type_label : (l : Label) (r : Row) → row_of a_type l ≡ Some r → (l ≡ kind type_expression) × (type_row ≡ r)
type_label (kind k) r h = let x : (k ≡ type_expression) × (type_row ≡ r) = only_row type_expression type_row k r h in (ap (λ z. let l : Label = kind z in l) x.0, x.1)
type_label (at k zero zero) r h = absurd (no_some r h)
type_label (at k zero (suc e)) r h = absurd (no_some r h)
type_label (at k (suc s) e) r h = absurd (no_some r h)
type_label l r h = absurd (no_some r h)

pub call_label : (l : Label) (r : Row) → row_of a_call l ≡ Some r → (l ≡ kind call) × (call_row ≡ r)
call_label (kind k) r h = let x : (k ≡ call) × (call_row ≡ r) = only_row call call_row k r h in (ap (λ z. let l : Label = kind z in l) x.0, x.1)
call_label (at k zero zero) r h = absurd (no_some r h)
call_label (at k zero (suc e)) r h = absurd (no_some r h)
call_label (at k (suc s) e) r h = absurd (no_some r h)
call_label l r h = absurd (no_some r h)

pub argument_label : (l : Label) (r : Row) → row_of an_argument l ≡ Some r → (l ≡ kind template_argument) × (own an_expression nothing ≡ r)
argument_label (kind k) r h = let x : (k ≡ template_argument) × (own an_expression nothing ≡ r) = only_row template_argument (own an_expression nothing) k r h in (ap (λ z. let l : Label = kind z in l) x.0, x.1)
argument_label (at k zero zero) r h = absurd (no_some r h)
argument_label (at k zero (suc e)) r h = absurd (no_some r h)
argument_label (at k (suc s) e) r h = absurd (no_some r h)
argument_label l r h = absurd (no_some r h)

-- ---- first tokens

-- whether a word may begin an expression
abbrev pub is_first_word : Text → Bool
is_first_word t = is_free t || is_among (codes "true" ∷ codes "false" ∷ codes "package" ∷ codes "self" ∷ codes "super" ∷ []) t

-- whether an operand begins: such a word, or what else begins an expression
abbrev pub begins_operand : List Token → Bool
begins_operand (name t ∷ ts) = is_first_word t
begins_operand ts = begins_expression ts

free_first : (t : Text) → is_free t ≡ true → is_first_word t ≡ true
free_first t h = ap (λ b. b || is_among (codes "true" ∷ codes "false" ∷ codes "package" ∷ codes "self" ∷ codes "super" ∷ []) t) h

operand_begins : (ts : List Token) → begins_operand ts ≡ true → begins_expression ts ≡ true
operand_begins [] h = h
operand_begins (name t ∷ ts) h = refl
operand_begins (t ∷ ts) h = h

-- the words of origins are such
origin_first : (p : Path) → is_path false p ≡ true → is_first_word (origin_word p.origin) ≡ true
origin_first p h = by p.origin (and_parts (is_origin false p.origin) (are_names p.components) h).0 where
  by : (o : Origin) → is_origin false o ≡ true → is_first_word (origin_word o) ≡ true
  by absolute g = refl
  by (relative zero) g = refl
  by (relative (suc n)) g = refl
  by (from_package q) g = free_first q (and_parts (is_word q) (is_free q) g).1

-- a word comes first, which is no literal
abbrev pub BeginsType : List Token → Type 0
BeginsType ts = (t : Text) × (vs : List Token) × (ts ≡ name t ∷ vs) × ((bytes_eq t (codes "true") || bytes_eq t (codes "false")) ≡ false) × (is_first_word t ≡ true)

pub path_begins_word : (l : Label) (o : Forest) (ts vs : List Token) → fill (leaf_slots (a_path false) l o) ts ≡ Some vs → BeginsType ts × (begins_path false ts ≡ true)
path_begins_word (path p) o ts vs h =
    let x : (is_path false p ≡ true) × (fill (Some (origin_slots false p.origin ++ stepped p.components)) ts ≡ Some vs) = where_true (is_path false p) (Some (origin_slots false p.origin ++ stepped p.components)) ts vs h in
    let y : (us : List Token) × (ts ≡ name (origin_word p.origin) ∷ symbol is.ColonColon ∷ us) × (left (stepped (origin_rest p.origin ++ p.components)) us ≡ Some vs) = path_tokens p ts vs x.1 in
    ((origin_word p.origin, symbol is.ColonColon ∷ y.0, y.1, no_literal p x.0, origin_first p x.0), ap (λ z. begins_path false z) y.1)
path_begins_word (kind k) o ts vs h = absurd (no_some vs h)
path_begins_word l o ts vs h = absurd (no_some vs h)

pub type_begins : (l : Label) (c : Forest) (ts us : List Token) → fill (first_slots l c (spells c) a_type) ts ≡ Some us → BeginsType ts
type_begins l c ts us h =
    let x : (r : Row) × (row_of a_type l ≡ Some r) × ((fits l c && stands_as a_type l c) ≡ true) × (fill ((spells c).row r) ts ≡ Some us) = first_parts l c (spells c) a_type ts us h in
    by (row_optional c (leaf (a_path false) nothing) (leaf (an_ident reference) (optional (opens (commas list an_argument (closes nothing))) nothing)) ts us (subst (λ z. fill ((spells c).row z) ts ≡ Some us) (turned (type_label l x.0 x.1).1) x.3)) where
      by : ((g : Forest) × (fill ((spells g).row (leaf (an_ident reference) (optional (opens (commas list an_argument (closes nothing))) nothing))) ts ≡ Some us))
          ⊎ ((d : Forest) × (g : Forest) × (vs : List Token) × (fill ((spells d).row (leaf (a_path false) nothing)) ts ≡ Some vs) × (fill ((spells g).row (leaf (an_ident reference) (optional (opens (commas list an_argument (closes nothing))) nothing))) vs ≡ Some us)) → BeginsType ts
      by (inl x) =
          let y : (l : Label) × (o : Forest) × (vs : List Token) × (fill (leaf_slots (an_ident reference) l o) ts ≡ Some vs) × (fill ((spells o).row (optional (opens (commas list an_argument (closes nothing))) nothing)) vs ≡ Some us)
          = leaf_first x.0 (an_ident reference) (optional (opens (commas list an_argument (closes nothing))) nothing) ts us x.1 in
          let z : (t : Text) × (is_free t ≡ true) × (y.0 ≡ ident reference t) × (ts ≡ name t ∷ y.2) = ident_reads y.0 y.1 ts y.2 y.3 in
          (z.0, y.2, z.3, free_no_literal z.0 z.1, free_first z.0 z.1)
      by (inr x) =
          let y : (l : Label) × (o : Forest) × (vs : List Token) × (fill (leaf_slots (a_path false) l o) ts ≡ Some vs) × (fill ((spells o).row nothing) vs ≡ Some x.2) = leaf_first x.0 (a_path false) nothing ts x.2 x.3 in
          (path_begins_word y.0 y.1 ts y.2 y.3).0

pub call_begins : (l : Label) (c : Forest) (ts us : List Token) → fill (first_slots l c (spells c) a_call) ts ≡ Some us → BeginsType ts
call_begins l c ts us h =
    let x : (r : Row) × (row_of a_call l ≡ Some r) × ((fits l c && stands_as a_call l c) ≡ true) × (fill ((spells c).row r) ts ≡ Some us) = first_parts l c (spells c) a_call ts us h in
    let y : (j : Label) × (d : Forest) × (o : Forest) × (vs : List Token) × (c ≡ tree j d o) × (fill (first_slots j d (spells d) a_type) ts ≡ Some vs) × (fill ((spells o).row (sym is.ParenLeft (commas list an_expression (sym is.ParenRight nothing)))) vs ≡ Some us)
    = own_first c a_type (sym is.ParenLeft (commas list an_expression (sym is.ParenRight nothing))) ts us (subst (λ z. fill ((spells c).row z) ts ≡ Some us) (turned (call_label l x.0 x.1).1) x.3) in
    type_begins y.0 y.1 ts y.3 y.5

word_begins : (ts : List Token) → BeginsType ts → begins_operand ts ≡ true
word_begins ts b = ap begins_operand b.2 ∙ b.4

abbrev pub Begins : Forest → Type 0
Begins c = (ts us : List Token) → fill ((spells c).row (own a_bare_expression nothing)) ts ≡ Some us → begins_operand ts ≡ true

-- an expression that comes first, by what it begins with
expression_first : (f : Forest) (row : Row) → Begins (below_first f) → (ts us : List Token) → fill ((spells f).row (own an_expression row)) ts ≡ Some us → begins_operand ts ≡ true
expression_first end row b ts us h = absurd (no_some us h)
expression_first (tree l c o) row b ts us h =
    let z : (vs : List Token) × (fill (first_slots l c (spells c) an_expression) ts ≡ Some vs) × (fill ((spells o).row row) vs ≡ Some us) = parts (first_slots l c (spells c) an_expression) ((spells o).row row) ts us h in
    b ts z.0 (expression_parts l c ts z.0 z.1).1

unary_begins : (o : UnaryOperator) (us : List Token) → begins_operand (symbol (unary_symbol o) ∷ us) ≡ true
unary_begins unary_operator.LogicalNegation us = refl
unary_begins unary_operator.Negation us = refl
unary_begins unary_operator.BitwiseComplement us = refl
unary_begins unary_operator.AddressOf us = refl
unary_begins unary_operator.Indirection us = refl

-- a literal's token
pub literal_token : (l : Label) (o : Forest) (ts vs : List Token) → fill (leaf_slots a_literal l o) ts ≡ Some vs
    → (begins_expression ts ≡ true) × (unary_first ts ≡ None) × ((us : List Token) → operand_label ts us ≡ Some (kind literal)) × (read_leaf a_literal ts ≡ Some (l, vs))
literal_token (truth true) o ts vs h = let e : ts ≡ name (codes "true") ∷ vs = stands (name (codes "true")) ts vs (one (named (codes "true")) ts vs h) in
    (ap begins_expression e, ap unary_first e, λ us. ap (λ z. operand_label z us) e, ap (λ z. read_leaf a_literal z) e)
literal_token (truth false) o ts vs h = let e : ts ≡ name (codes "false") ∷ vs = stands (name (codes "false")) ts vs (one (named (codes "false")) ts vs h) in
    (ap begins_expression e, ap unary_first e, λ us. ap (λ z. operand_label z us) e, ap (λ z. read_leaf a_literal z) e)
literal_token (text t) o ts vs h =
    let e : ts ≡ number t ∷ vs = stands (number t) ts vs (one (must (number t)) ts vs (where_true (is_number t) (Some (must (number t) ∷ [])) ts vs h).1) in
    (ap begins_expression e, ap unary_first e, λ us. ap (λ z. operand_label z us) e, ap (λ z. read_leaf a_literal z) e)
literal_token (kind k) o ts vs h = absurd (no_some vs h)
literal_token l o ts vs h = absurd (no_some vs h)

literal_first : (l : Label) (o : Forest) (ts vs : List Token) → fill (leaf_slots a_literal l o) ts ≡ Some vs → begins_operand ts ≡ true
literal_first (truth true) o ts vs h = ap begins_operand (stands (name (codes "true")) ts vs (one (named (codes "true")) ts vs h))
literal_first (truth false) o ts vs h = ap begins_operand (stands (name (codes "false")) ts vs (one (named (codes "false")) ts vs h))
literal_first (text t) o ts vs h = ap begins_operand (stands (number t) ts vs (one (must (number t)) ts vs (where_true (is_number t) (Some (must (number t) ∷ [])) ts vs h).1))
literal_first (kind k) o ts vs h = absurd (no_some vs h)
literal_first l o ts vs h = absurd (no_some vs h)

kind_begins : (k : Kind) (d : Forest) → Begins (below_first d) → (r : Row) → InRows rows_of_bare_expression k r → (ts vs : List Token) → fill ((spells d).row r) ts ≡ Some vs → begins_operand ts ≡ true
kind_begins k d b r (inl x) ts vs h =
    let y : (l : Label) × (o : Forest) × (us : List Token) × (fill (leaf_slots a_literal l o) ts ≡ Some us) × (fill ((spells o).row nothing) us ≡ Some vs) = leaf_first d a_literal nothing ts vs (subst (λ z. fill ((spells d).row z) ts ≡ Some vs) (turned x.1) h) in
    literal_first y.0 y.1 ts y.2 y.3
kind_begins k d b r (inr (inl x)) ts vs h =
    ap begins_operand (row_token d is.ParenLeft (own an_expression (sym is.ParenRight nothing)) ts vs (subst (λ z. fill ((spells d).row z) ts ≡ Some vs) (turned x.1) h)).1
kind_begins k d b r (inr (inr (inl x))) ts vs h = expression_first d (sym is.Period (leaf a_name nothing)) b ts vs (subst (λ z. fill ((spells d).row z) ts ≡ Some vs) (turned x.1) h)
kind_begins k d b r (inr (inr (inr (inl x)))) ts vs h = expression_first d (sym is.BracketLeft (own an_expression (sym is.BracketRight nothing))) b ts vs (subst (λ z. fill ((spells d).row z) ts ≡ Some vs) (turned x.1) h)
kind_begins k d b r (inr (inr (inr (inr (inl x))))) ts vs h =
    let y : (j : Label) × (e : Forest) × (o : Forest) × (us : List Token) × (d ≡ tree j e o) × (fill (first_slots j e (spells e) a_call) ts ≡ Some us) × (fill ((spells o).row nothing) us ≡ Some vs) = own_first d a_call nothing ts vs (subst (λ z. fill ((spells d).row z) ts ≡ Some vs) (turned x.1) h) in
    word_begins ts (call_begins y.0 y.1 ts y.3 y.5)
kind_begins k d b r (inr (inr (inr (inr (inr (inl x)))))) ts vs h =
    let y : (j : Label) × (e : Forest) × (o : Forest) × (us : List Token) × (d ≡ tree j e o) × (fill (first_slots j e (spells e) a_type) ts ≡ Some us) × (fill ((spells o).row nothing) us ≡ Some vs) = own_first d a_type nothing ts vs (subst (λ z. fill ((spells d).row z) ts ≡ Some vs) (turned x.1) h) in
    word_begins ts (type_begins y.0 y.1 ts y.3 y.5)
kind_begins k d b r (inr (inr (inr (inr (inr (inr x)))))) ts vs h = absurd x

bare_begins : (b : Label) (d : Forest) → Begins (below_first d) → (ts vs : List Token) → fill (first_slots b d (spells d) a_bare_expression) ts ≡ Some vs → begins_operand ts ≡ true
bare_begins b d first ts vs h = let x : (r : Row) × (row_of a_bare_expression b ≡ Some r) × ((fits b d && stands_as a_bare_expression b d) ≡ true) × (fill ((spells d).row r) ts ≡ Some vs) = first_parts b d (spells d) a_bare_expression ts vs h in by b x.0 x.1 x.3 where
  by : (b : Label) (r : Row) → row_of a_bare_expression b ≡ Some r → fill ((spells d).row r) ts ≡ Some vs → begins_operand ts ≡ true
  by (kind k) r e g = kind_begins k d first r (in_rows rows_of_bare_expression k r e) ts vs g
  by (unary o) r e g =
      let y : (us : List Token) × (ts ≡ symbol (unary_symbol o) ∷ us) × (fill ((spells d).row (own an_expression nothing)) us ≡ Some vs) = row_token d (unary_symbol o) (own an_expression nothing) ts vs (subst (λ z. fill ((spells d).row z) ts ≡ Some vs) (turned (of_some (sym (unary_symbol o) (own an_expression nothing)) r e)) g) in
      ap begins_operand y.1 ∙ unary_begins o y.0
  by (binary o) r e g = expression_first d (sym (binary_symbol o) (own an_expression nothing)) first ts vs (subst (λ z. fill ((spells d).row z) ts ≡ Some vs) (turned (of_some (own an_expression (sym (binary_symbol o) (own an_expression nothing))) r e)) g)
  by (at k zero zero) r e g = absurd (no_some r e)
  by (at k zero (suc f)) r e g = absurd (no_some r e)
  by (at k (suc s) f) r e g = absurd (no_some r e)
  by l r e g = absurd (no_some r e)

expression_begins : (c : Forest) → Begins c
expression_begins end ts us h = absurd (no_some us h)
expression_begins (tree b end x) ts us h =
    let z : (vs : List Token) × (fill (first_slots b end (spells end) a_bare_expression) ts ≡ Some vs) × (fill ((spells x).row nothing) vs ≡ Some us) = parts (first_slots b end (spells end) a_bare_expression) ((spells x).row nothing) ts us h in
    bare_begins b end (λ ts us g. absurd (no_some us g)) ts z.0 z.1
expression_begins (tree b (tree l c o) x) ts us h =
    let z : (vs : List Token) × (fill (first_slots b (tree l c o) (spells (tree l c o)) a_bare_expression) ts ≡ Some vs) × (fill ((spells x).row nothing) vs ≡ Some us) = parts (first_slots b (tree l c o) (spells (tree l c o)) a_bare_expression) ((spells x).row nothing) ts us h in
    bare_begins b (tree l c o) (expression_begins c) ts z.0 z.1

-- an expression begins with a token that begins one
pub operand_first : (l : Label) (c : Forest) (ts us : List Token) → fill (first_slots l c (spells c) an_expression) ts ≡ Some us → begins_operand ts ≡ true
operand_first l c ts us h = expression_begins c ts us (expression_parts l c ts us h).1

pub begins_one : (l : Label) (c : Forest) (ts us : List Token) → fill (first_slots l c (spells c) an_expression) ts ≡ Some us → begins_expression ts ≡ true
begins_one l c ts us h = operand_begins ts (operand_first l c ts us h)
