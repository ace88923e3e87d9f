-- Behind an import, a directive and a declaration nothing is pending.
use Rattle.std.proofs.Common.{◌≡◌, ◌⊎◌, zero, suc, Bool, true, false, ◌&&◌, if◌then◌else◌, List, [], ◌∷◌, Some, None, option_map, refl, inl, inr, ap, subst, codes}
use Rattle.wesl_tree_syntax.specs.Tree.{Kind, kind, at, end, tree, reference, binder, present, absent, list, members, attributes, member_node, declaration_node, member, type_expression}
use Rattle.wesl_tree_syntax.specs.Kinds.{same_kind}
use Rattle.wesl_text_tokens.specs.declared.symbol.Symbol.TheVariants as is
use Rattle.wesl_text_tokens.specs.Tokens.{Token, name, symbol, open_list}
use Rattle.wesl_text_form.specs.Slots.{Slot, must, may, alone}
use Rattle.wesl_text_form.specs.Productions.{Sort, an_argument, a_type, a_member, a_bare_member, an_attribute, an_import, a_directive, a_declaration, a_bare_declaration, an_ident, a_name, a_path, Row, Rows, nothing, sym, says, opens, closes, own, leaf, commas, optional, attrs, rows_of_bare_declaration, row_at, row_of, spanned}
use Rattle.wesl_text_form.specs.Spelling.{Label, Forest, Slots, spells, followed, named, signed, trailing, leaf_slots, first_slots, is_kind, is_end}
use Rattle.wesl_text_reading.proofs.Filled.{no_some, of_some, no_true}
use Rattle.wesl_text_respell.proofs.Ended.{closed_by, ended, are_ended, row_ends, rows_are_ended, nodes_are_ended}
use Rattle.wesl_text_respell.proofs.Rests.{Rest, rests, inside, rest_step}
use Rattle.wesl_text_respell.proofs.Lists.{rest_slots, Comes, comes_joined, comes_behind, comes_either, comes_trailing, comes_node, path_rests, ident_rests, separate_inside}

-- ---- what ends with `;` or `}`

closed_rests : (t : Token) (b : Bool) (r : Rest) → (b ≡ true → r ≡ rests) → closed_by b t ≡ true → rest_step r t ≡ rests
closed_rests (symbol is.Semicolon) b r f h = refl
closed_rests (symbol is.BraceLeft) b r f h = refl
closed_rests (symbol is.BraceRight) b r f h = ap (λ z. rest_step z (symbol is.BraceRight)) (f h)
closed_rests t b r f h = absurd (no_true h)

ended_rests : (ss : List Slot) (b : Bool) (r : Rest) → (b ≡ true → r ≡ rests) → ended b ss ≡ true → rest_slots r ss ≡ rests
ended_rests [] b r f h = f h
ended_rests (must t ∷ ss) b r f h = ended_rests ss (closed_by b t) (rest_step r t) (closed_rests t b r f) h
ended_rests (may t ∷ ss) b r f h = ended_rests ss b r f h
ended_rests (alone ∷ ss) b r f h = ended_rests ss false (rest_step r (name (codes "default"))) (λ e. absurd (no_true e)) h

ended_comes : (r : Rest) (a : Slots) → are_ended false a ≡ true → Comes r a rests
ended_comes r None h = tt
ended_comes r (Some ss) h = ended_rests ss false r (λ e. absurd (no_true e)) h

-- ---- types

no_more : (r : Rest) (o : Forest) → Comes r ((spells o).row nothing) r
no_more r end = refl
no_more r (tree l c o) = tt

close_last : (o : Forest) → Comes (inside zero) ((spells o).row (closes nothing)) rests
close_last end = refl
close_last (tree l c o) = tt

abbrev list_row : Row
list_row = opens (commas list an_argument (closes nothing))

list_comes : (c : Forest) → Comes rests ((spells c).row list_row) rests
list_comes end = tt
list_comes (tree l c o) = comes_joined rests (inside zero) rests (Some (must open_list ∷ [])) (if is_kind list (Some l) then followed (option_map trailing ((spells c).separate an_argument)) ((spells o).row (closes nothing)) else None) refl
    (comes_either (inside zero) rests (is_kind list (Some l)) (followed (option_map trailing ((spells c).separate an_argument)) ((spells o).row (closes nothing))) None
    (comes_joined (inside zero) (inside zero) rests (option_map trailing ((spells c).separate an_argument)) ((spells o).row (closes nothing)) (comes_trailing (inside zero) (inside zero) ((spells c).separate an_argument) (separate_inside c an_argument zero refl)) (close_last o)) tt)

optional_comes : (l : Label) (c o : Forest) (ins row : Row) → Comes rests ((spells c).row ins) rests → Comes rests ((spells o).row row) rests → Comes rests ((spells (tree l c o)).row (optional ins row)) rests
optional_comes l c o ins row h g =
    comes_either rests rests (is_kind absent (Some l) && is_end c) ((spells o).row row) (if is_kind present (Some l) then followed ((spells c).row ins) ((spells o).row row) else None) g
    (comes_either rests rests (is_kind present (Some l)) (followed ((spells c).row ins) ((spells o).row row)) None (comes_joined rests rests rests ((spells c).row ins) ((spells o).row row) h g) tt)

arguments_come : (f : Forest) → Comes rests ((spells f).row (optional list_row nothing)) rests
arguments_come end = tt
arguments_come (tree l c o) = optional_comes l c o list_row nothing (list_comes c) (no_more rests o)

abbrev name_row : Row
name_row = leaf (an_ident reference) (optional list_row nothing)

name_comes : (f : Forest) → Comes rests ((spells f).row name_row) rests
name_comes end = tt
name_comes (tree l c o) = comes_either rests rests (is_end c) (followed (leaf_slots (an_ident reference) l o) ((spells o).row (optional list_row nothing))) None
    (comes_joined rests rests rests (leaf_slots (an_ident reference) l o) ((spells o).row (optional list_row nothing)) (ident_rests reference l o) (arguments_come o)) tt

path_comes : (f : Forest) → Comes rests ((spells f).row (leaf (a_path false) nothing)) rests
path_comes end = tt
path_comes (tree l c o) = comes_either rests rests (is_end c) (followed (leaf_slots (a_path false) l o) ((spells o).row nothing)) None
    (comes_joined rests rests rests (leaf_slots (a_path false) l o) ((spells o).row nothing) (path_rests l o) (no_more rests o)) tt

abbrev type_row : Row
type_row = optional (leaf (a_path false) nothing) name_row

type_row_comes : (f : Forest) → Comes rests ((spells f).row type_row) rests
type_row_comes end = tt
type_row_comes (tree l c o) = optional_comes l c o (leaf (a_path false) nothing) name_row (path_comes c) (name_comes o)

-- the only row of a table
one_row : (k : Kind) (x : Row) (j : Kind) (r : Row) → (if same_kind j k then Some x else None) ≡ Some r → x ≡ r
one_row k x j r h = by (same_kind j k) h where
  by : (b : Bool) → (if b then Some x else None) ≡ Some r → x ≡ r
  by true g = of_some x r g
  by false g = absurd (no_some r g)

type_comes : (l : Label) (c : Forest) → Comes rests (first_slots l c (spells c) a_type) rests
type_comes l c = comes_node rests rests a_type l c (λ x e. by l x e) where
  by : (l : Label) (x : Row) → row_of a_type l ≡ Some x → Comes rests ((spells c).row x) rests
  by (kind k) x e = subst (λ z. Comes rests ((spells c).row z) rests) (one_row type_expression type_row k x e) (type_row_comes c)
  by (at k zero zero) x e = absurd (no_some x e)
  by (at k zero (suc f)) x e = absurd (no_some x e)
  by (at k (suc s) f) x e = absurd (no_some x e)
  by l x e = absurd (no_some x e)

-- ---- members

abbrev typed_row : Row
typed_row = sym is.Colon (own a_type nothing)

typed_comes : (f : Forest) (r : Rest) → Comes r ((spells f).row typed_row) rests
typed_comes end r = tt
typed_comes (tree l c o) r = comes_joined r rests rests (Some (signed is.Colon ∷ [])) (followed (first_slots l c (spells c) a_type) ((spells o).row nothing)) refl
    (comes_joined rests rests rests (first_slots l c (spells c) a_type) ((spells o).row nothing) (type_comes l c) (no_more rests o))

-- behind attributes
attrs_come : (row : Row) → ((f : Forest) (r : Rest) → Comes r ((spells f).row row) rests) → (f : Forest) (r : Rest) → Comes r ((spells f).row (attrs row)) rests
attrs_come row h end r = tt
attrs_come row h (tree l c o) r = comes_either r rests (is_kind attributes (Some l)) (followed ((spells c).all an_attribute) ((spells o).row row)) None (comes_behind r rests ((spells c).all an_attribute) ((spells o).row row) (λ q. h o q)) tt

named_typed : (f : Forest) (r : Rest) → Comes r ((spells f).row (leaf a_name typed_row)) rests
named_typed end r = tt
named_typed (tree l c o) r = comes_either r rests (is_end c) (followed (leaf_slots a_name l o) ((spells o).row typed_row)) None (comes_behind r rests (leaf_slots a_name l o) ((spells o).row typed_row) (λ q. typed_comes o q)) tt

bare_member_comes : (l : Label) (c : Forest) (r : Rest) → Comes r (first_slots l c (spells c) a_bare_member) rests
bare_member_comes l c r = comes_node r rests a_bare_member l c (λ x e. by l x e) where
  by : (l : Label) (x : Row) → row_of a_bare_member l ≡ Some x → Comes r ((spells c).row x) rests
  by (kind k) x e = subst (λ z. Comes r ((spells c).row z) rests) (one_row member (attrs (leaf a_name typed_row)) k x e) (attrs_come (leaf a_name typed_row) named_typed c r)
  by (at k zero zero) x e = absurd (no_some x e)
  by (at k zero (suc f)) x e = absurd (no_some x e)
  by (at k (suc s) f) x e = absurd (no_some x e)
  by l x e = absurd (no_some x e)

-- a node in one that has its span
own_comes : (s : Sort) → ((l : Label) (c : Forest) (r : Rest) → Comes r (first_slots l c (spells c) s) rests) → (f : Forest) (r : Rest) → Comes r ((spells f).row (own s nothing)) rests
own_comes s h end r = tt
own_comes s h (tree l c o) r = comes_joined r rests rests (first_slots l c (spells c) s) ((spells o).row nothing) (h l c r) (no_more rests o)

one_spanned : (k : Kind) (s : Sort) (j : Kind) (x : Row) → spanned k s j ≡ Some x → own s nothing ≡ x
one_spanned k s j x h = by (same_kind k j) h where
  by : (b : Bool) → (if b then Some (own s nothing) else None) ≡ Some x → own s nothing ≡ x
  by true g = of_some (own s nothing) x g
  by false g = absurd (no_some x g)

member_comes : (l : Label) (c : Forest) (r : Rest) → Comes r (first_slots l c (spells c) a_member) rests
member_comes l c r = comes_node r rests a_member l c (λ x e. by l x e) where
  by : (l : Label) (x : Row) → row_of a_member l ≡ Some x → Comes r ((spells c).row x) rests
  by (at k zero zero) x e = subst (λ z. Comes r ((spells c).row z) rests) (one_spanned member_node a_bare_member k x e) (own_comes a_bare_member bare_member_comes c r)
  by (kind k) x e = absurd (no_some x e)
  by (at k zero (suc f)) x e = absurd (no_some x e)
  by (at k (suc s) f) x e = absurd (no_some x e)
  by l x e = absurd (no_some x e)

-- members, where there are any, and where none are behind what rests
members_come : (l : Label) (c o : Forest) (r : Rest) → Comes r ((spells (tree l c o)).separate a_member) rests
members_come l c end r = member_comes l c r
members_come l c (tree m d o) r = comes_joined r rests rests (first_slots l c (spells c) a_member) (option_map (λ ss. signed is.Comma ∷ ss) ((spells (tree m d o)).separate a_member)) (member_comes l c r)
    (by ((spells (tree m d o)).separate a_member) (members_come m d o (rest_step rests (symbol is.Comma)))) where
      by : (a : Slots) → Comes (rest_step rests (symbol is.Comma)) a rests → Comes rests (option_map (λ ss. signed is.Comma ∷ ss) a) rests
      by None h = tt
      by (Some ss) h = h

all_members : (f : Forest) → Comes rests ((spells f).separate a_member) rests
all_members end = refl
all_members (tree l c o) = members_come l c o rests

-- ---- structures

last_brace : (o : Forest) → Comes rests ((spells o).row (sym is.BraceRight nothing)) rests
last_brace end = refl
last_brace (tree l c o) = tt

abbrev braces_row : Row
braces_row = sym is.BraceLeft (commas members a_member (sym is.BraceRight nothing))

braces_come : (f : Forest) (r : Rest) → Comes r ((spells f).row braces_row) rests
braces_come end r = tt
braces_come (tree l c o) r = comes_joined r rests rests (Some (signed is.BraceLeft ∷ [])) (if is_kind members (Some l) then followed (option_map trailing ((spells c).separate a_member)) ((spells o).row (sym is.BraceRight nothing)) else None) refl
    (comes_either rests rests (is_kind members (Some l)) (followed (option_map trailing ((spells c).separate a_member)) ((spells o).row (sym is.BraceRight nothing))) None
    (comes_joined rests rests rests (option_map trailing ((spells c).separate a_member)) ((spells o).row (sym is.BraceRight nothing)) (comes_trailing rests rests ((spells c).separate a_member) (all_members c)) (last_brace o)) tt)

bound_braces : (f : Forest) (r : Rest) → Comes r ((spells f).row (leaf (an_ident binder) braces_row)) rests
bound_braces end r = tt
bound_braces (tree l c o) r = comes_either r rests (is_end c) (followed (leaf_slots (an_ident binder) l o) ((spells o).row braces_row)) None (comes_behind r rests (leaf_slots (an_ident binder) l o) ((spells o).row braces_row) (λ q. braces_come o q)) tt

struct_words : (f : Forest) (r : Rest) → Comes r ((spells f).row (says (codes "struct") (leaf (an_ident binder) braces_row))) rests
struct_words end r = tt
struct_words (tree l c o) r = comes_behind r rests (Some (named (codes "struct") ∷ [])) ((spells (tree l c o)).row (leaf (an_ident binder) braces_row)) (λ q. bound_braces (tree l c o) q)

-- ---- declarations

abbrev struct_row : Row
struct_row = attrs (says (codes "struct") (leaf (an_ident binder) braces_row))

-- a row that ends so, or that of structures
abbrev Ends : Row → Type 0
Ends x = (row_ends false x ≡ true) ⊎ (struct_row ≡ x)

abbrev AllEnd : Rows → Type 0
AllEnd [] = Unit {0}
AllEnd (p ∷ ps) = Ends p.1 × AllEnd ps

one_ends : (ps : Rows) → AllEnd ps → (k : Kind) (x : Row) → row_at ps k ≡ Some x → Ends x
one_ends [] e k x h = absurd (no_some x h)
one_ends (p ∷ ps) e k x h = by (same_kind k p.0) (λ g. one_ends ps e.1 k x g) h where
  by : (b : Bool) → (row_at ps k ≡ Some x → Ends x) → (if b then Some p.1 else row_at ps k) ≡ Some x → Ends x
  by true f g = subst Ends (of_some p.1 x g) e.0
  by false f g = f g

declarations_end : AllEnd rows_of_bare_declaration
declarations_end = (inl refl, (inl refl, (inl refl, (inl refl, (inr refl, (inl refl, tt))))))

bare_declaration_comes : (l : Label) (c : Forest) (r : Rest) → Comes r (first_slots l c (spells c) a_bare_declaration) rests
bare_declaration_comes l c r = comes_node r rests a_bare_declaration l c (λ x e. by l x e) where
  of : (x : Row) → Ends x → Comes r ((spells c).row x) rests
  of x (inl e) = ended_comes r ((spells c).row x) (rows_are_ended c x false e)
  of x (inr e) = subst (λ z. Comes r ((spells c).row z) rests) e (attrs_come (says (codes "struct") (leaf (an_ident binder) braces_row)) struct_words c r)

  by : (l : Label) (x : Row) → row_of a_bare_declaration l ≡ Some x → Comes r ((spells c).row x) rests
  by (kind k) x e = of x (one_ends rows_of_bare_declaration declarations_end k x e)
  by (at k zero zero) x e = absurd (no_some x e)
  by (at k zero (suc f)) x e = absurd (no_some x e)
  by (at k (suc s) f) x e = absurd (no_some x e)
  by l x e = absurd (no_some x e)

pub declaration_comes : (l : Label) (c : Forest) (r : Rest) → Comes r (first_slots l c (spells c) a_declaration) rests
declaration_comes l c r = comes_node r rests a_declaration l c (λ x e. by l x e) where
  by : (l : Label) (x : Row) → row_of a_declaration l ≡ Some x → Comes r ((spells c).row x) rests
  by (at k zero zero) x e = subst (λ z. Comes r ((spells c).row z) rests) (one_spanned declaration_node a_bare_declaration k x e) (own_comes a_bare_declaration bare_declaration_comes c r)
  by (kind k) x e = absurd (no_some x e)
  by (at k zero (suc f)) x e = absurd (no_some x e)
  by (at k (suc s) f) x e = absurd (no_some x e)
  by l x e = absurd (no_some x e)

pub directive_comes : (l : Label) (c : Forest) (r : Rest) → Comes r (first_slots l c (spells c) a_directive) rests
directive_comes l c r = ended_comes r (first_slots l c (spells c) a_directive) (nodes_are_ended a_directive l c false refl)

pub import_comes : (l : Label) (c : Forest) (r : Rest) → Comes r (first_slots l c (spells c) an_import) rests
import_comes l c r = ended_comes r (first_slots l c (spells c) an_import) (nodes_are_ended an_import l c false refl)
