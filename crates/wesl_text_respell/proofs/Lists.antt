-- The brackets of lists stand in pairs in what is printed for types and expressions.
use Rattle.std.proofs.Common.{◌≡◌, ℕ, zero, suc, Bool, true, false, ◌&&◌, if◌then◌else◌, List, [], ◌∷◌, ◌++◌, Option, Some, None, option_map, option_and_then, refl, sym as turned, ap, ◌∙◌, codes}
use Rattle.wesl_tree_base.specs.Pieces.{supers}
use Rattle.wesl_tree_names.specs.Path.{Text, Origin, absolute, relative, from_package}
use Rattle.wesl_tree_syntax.specs.Tree.{Kind, Role, kind, at, ident, text, truth, path, unary, binary, assignment, space, access, end, tree, present, absent, expression_node}
use Rattle.wesl_tree_syntax.specs.Kinds.{same_kind, same_role}
use Rattle.wesl_tree_syntax.specs.declared.expression.UnaryOperator.{UnaryOperator}
use Rattle.wesl_tree_syntax.specs.declared.expression.UnaryOperator.TheVariants as unary_operator
use Rattle.wesl_tree_syntax.specs.declared.expression.BinaryOperator.{BinaryOperator}
use Rattle.wesl_tree_syntax.specs.declared.expression.BinaryOperator.TheVariants as binary_operator
use Rattle.wesl_text_tokens.specs.declared.symbol.Symbol.{Symbol}
use Rattle.wesl_text_tokens.specs.declared.symbol.Symbol.TheVariants as is
use Rattle.wesl_text_tokens.specs.Tokens.{name, number, symbol, open_list, close_list}
use Rattle.wesl_text_form.specs.Slots.{Slot, must, may, alone, fewest}
use Rattle.wesl_text_form.specs.Names.{is_name, is_number, is_path}
use Rattle.wesl_text_form.specs.Operators.{unary_symbol, binary_symbol}
use Rattle.wesl_text_form.specs.Productions.{Sort, an_expression, a_bare_expression, a_bare_statement, a_statement, an_attribute, a_member, an_import, a_directive, a_declaration, a_space, an_access, a_call, a_type, an_argument, Leaf, an_ident, a_name, a_literal, a_path, Row, nothing, sym, may_sym, says, opens, closes, own, leaf, commas, optional, rows_of, row_of, spanned}
use Rattle.wesl_text_form.specs.Spelling.{Label, Forest, Slots, spells, followed, provided, named, signed, stepped, trailing, origin_slots, leaf_slots, first_slots, row_slots, row_of_none, with_comma, fits, stands_as, is_kind, is_end}
use Rattle.wesl_text_reading.proofs.Filled.{no_some, of_some, no_true}
use Rattle.wesl_text_reading.proofs.Takes.{all_rows, at_rows}
use Rattle.wesl_text_respell.proofs.Rests.{Rest, rests, inside, rest_step, rest_behind}
use Rattle.wesl_text_respell.proofs.Moved.{on}
use Rattle.std.proofs.lemmas.Bool.{and_parts}

-- ---- what is told behind slots

abbrev pub rest_slots : Rest → List Slot → Rest
rest_slots r [] = r
rest_slots r (must t ∷ ss) = rest_slots (rest_step r t) ss
rest_slots r (may t ∷ ss) = rest_slots r ss
rest_slots r (alone ∷ ss) = rest_slots (rest_step r (name (codes "default"))) ss

pub rest_fewest : (ss : List Slot) (r : Rest) → rest_behind r (fewest ss) ≡ rest_slots r ss
rest_fewest [] r = refl
rest_fewest (must t ∷ ss) r = rest_fewest ss (rest_step r t)
rest_fewest (may t ∷ ss) r = rest_fewest ss r
rest_fewest (alone ∷ ss) r = rest_fewest ss (rest_step r (name (codes "default")))

pub slots_joined : (ss us : List Slot) (r : Rest) → rest_slots r (ss ++ us) ≡ rest_slots (rest_slots r ss) us
slots_joined [] us r = refl
slots_joined (must t ∷ ss) us r = slots_joined ss us (rest_step r t)
slots_joined (may t ∷ ss) us r = slots_joined ss us r
slots_joined (alone ∷ ss) us r = slots_joined ss us (rest_step r (name (codes "default")))

-- from the first to the second, where there are slots
abbrev pub Comes : Rest → Slots → Rest → Type 0
Comes r None q = Unit {0}
Comes r (Some ss) q = rest_slots r ss ≡ q

pub comes_joined : (r q p : Rest) (a c : Slots) → Comes r a q → Comes q c p → Comes r (followed a c) p
comes_joined r q p None c h g = tt
comes_joined r q p (Some ss) None h g = tt
comes_joined r q p (Some ss) (Some us) h g = slots_joined ss us r ∙ (ap (λ z. rest_slots z us) h ∙ g)

-- from anything
pub comes_behind : (r p : Rest) (a c : Slots) → ((q : Rest) → Comes q c p) → Comes r (followed a c) p
comes_behind r p None c g = tt
comes_behind r p (Some ss) None g = tt
comes_behind r p (Some ss) (Some us) g = slots_joined ss us r ∙ g (rest_slots r ss)

pub comes_either : (r q : Rest) (b : Bool) (x y : Slots) → Comes r x q → Comes r y q → Comes r (if b then x else y) q
comes_either r q true x y h g = h
comes_either r q false x y h g = g

pub comes_trailing : (r q : Rest) (a : Slots) → Comes r a q → Comes r (option_map trailing a) q
comes_trailing r q None h = tt
comes_trailing r q (Some []) h = h
comes_trailing r q (Some (s ∷ ss)) h = slots_joined (s ∷ ss) (may (symbol is.Comma) ∷ []) r ∙ h

pub comes_node : (r q : Rest) (s : Sort) (l : Label) (c : Forest) → ((x : Row) → row_of s l ≡ Some x → Comes r ((spells c).row x) q) → Comes r (first_slots l c (spells c) s) q
comes_node r q s l c f = by (row_of s l) f where
  by : (o : Option Row) → ((x : Row) → o ≡ Some x → Comes r ((spells c).row x) q) → Comes r (option_and_then (λ x. if fits l c && stands_as s l c then (spells c).row x else None) o) q
  by None f = tt
  by (Some x) f = comes_either r q (fits l c && stands_as s l c) ((spells c).row x) None (f x refl) tt

-- ---- leaves

pub comes_provided : (r q : Rest) (b : Bool) (ss : List Slot) → rest_slots r ss ≡ q → Comes r (provided b ss) q
comes_provided r q true ss h = h
comes_provided r q false ss h = tt

-- steps of paths leave both as they are
pub steps_rest : (ts : List Text) → rest_slots rests (stepped ts) ≡ rests
steps_rest [] = refl
steps_rest (t ∷ ts) = steps_rest ts

steps_inside : (n : ℕ) (ts : List Text) → rest_slots (inside n) (stepped ts) ≡ inside n
steps_inside n [] = refl
steps_inside n (t ∷ ts) = steps_inside n ts

origin_rests : (o : Origin) → rest_slots rests (origin_slots false o) ≡ rests
origin_rests absolute = refl
origin_rests (relative zero) = refl
origin_rests (relative (suc n)) = steps_rest (supers (suc n))
origin_rests (from_package p) = refl

origin_inside : (n : ℕ) (o : Origin) → rest_slots (inside n) (origin_slots false o) ≡ inside n
origin_inside n absolute = refl
origin_inside n (relative zero) = refl
origin_inside n (relative (suc m)) = steps_inside n (supers (suc m))
origin_inside n (from_package p) = refl

pub path_rests : (l : Label) (o : Forest) → Comes rests (leaf_slots (a_path false) l o) rests
path_rests (path p) o = comes_provided rests rests (is_path false p) (origin_slots false p.origin ++ stepped p.components)
    (slots_joined (origin_slots false p.origin) (stepped p.components) rests ∙ (ap (λ z. rest_slots z (stepped p.components)) (origin_rests p.origin) ∙ steps_rest p.components))
path_rests l o = tt

pub ident_rests : (x : Role) (l : Label) (o : Forest) → Comes rests (leaf_slots (an_ident x) l o) rests
ident_rests x (ident q t) o = comes_provided rests rests (same_role x q && is_name t) (named t ∷ []) refl
ident_rests x l o = tt

-- the leaves in expressions
abbrev is_inner_leaf : Leaf → Bool
is_inner_leaf (an_ident r) = true
is_inner_leaf a_name = true
is_inner_leaf a_literal = true
is_inner_leaf (a_path false) = true
is_inner_leaf f = false

leaf_inside : (f : Leaf) (l : Label) (o : Forest) (n : ℕ) → is_inner_leaf f ≡ true → Comes (inside n) (leaf_slots f l o) (inside n)
leaf_inside (an_ident r) (ident q t) o n h = comes_provided (inside n) (inside n) (same_role r q && is_name t) (named t ∷ []) refl
leaf_inside a_name (text t) o n h = comes_provided (inside n) (inside n) (is_name t) (named t ∷ []) refl
leaf_inside a_literal (truth b) o n h = refl
leaf_inside a_literal (text t) o n h = comes_provided (inside n) (inside n) (is_number t) (must (number t) ∷ []) refl
leaf_inside (a_path false) (path p) o n h = comes_provided (inside n) (inside n) (is_path false p) (origin_slots false p.origin ++ stepped p.components)
    (slots_joined (origin_slots false p.origin) (stepped p.components) (inside n) ∙ (ap (λ z. rest_slots z (stepped p.components)) (origin_inside n p.origin) ∙ steps_inside n p.components))
leaf_inside (an_ident r) l o n h = tt
leaf_inside a_name l o n h = tt
leaf_inside a_literal l o n h = tt
leaf_inside (a_path false) l o n h = tt
leaf_inside f l o n h = absurd (no_true h)

-- ---- which rows

-- a symbol behind which nothing is forgotten
abbrev is_plain : Symbol → Bool
is_plain is.Semicolon = false
is_plain is.BraceLeft = false
is_plain is.Colon = false
is_plain s = true

plain_step : (s : Symbol) (n : ℕ) → is_plain s ≡ true → rest_step (inside n) (symbol s) ≡ inside n
plain_step is.Semicolon n h = absurd (no_true h)
plain_step is.BraceLeft n h = absurd (no_true h)
plain_step is.Colon n h = absurd (no_true h)
plain_step s n h = refl

-- types and expressions
abbrev pub is_inner : Sort → Bool
is_inner an_expression = true
is_inner a_bare_expression = true
is_inner a_call = true
is_inner a_type = true
is_inner an_argument = true
is_inner s = false

-- whether a row has the brackets of lists in pairs, where so many are open
abbrev pub in_pairs : Row → ℕ → Bool
in_pairs nothing zero = true
in_pairs nothing (suc d) = false
in_pairs (closes row) zero = false
in_pairs (closes row) (suc d) = in_pairs row d
in_pairs (opens row) d = in_pairs row (suc d)
in_pairs (sym s row) d = is_plain s && in_pairs row d
in_pairs (may_sym s row) d = in_pairs row d
in_pairs (says w row) d = in_pairs row d
in_pairs (own s row) d = is_inner s && in_pairs row d
in_pairs (leaf f row) d = is_inner_leaf f && in_pairs row d
in_pairs (commas k s row) d = is_inner s && in_pairs row d
in_pairs (optional ins row) d = in_pairs ins zero && in_pairs row d
in_pairs row d = false

table_pairs : (s : Sort) → is_inner s ≡ true → all_rows (λ x. in_pairs x zero) (rows_of s) ≡ true
table_pairs an_expression h = refl
table_pairs a_bare_expression h = refl
table_pairs a_call h = refl
table_pairs a_type h = refl
table_pairs an_argument h = refl
table_pairs s h = absurd (no_true h)

unary_plain : (o : UnaryOperator) → is_plain (unary_symbol o) ≡ true
unary_plain unary_operator.LogicalNegation = refl
unary_plain unary_operator.Negation = refl
unary_plain unary_operator.BitwiseComplement = refl
unary_plain unary_operator.AddressOf = refl
unary_plain unary_operator.Indirection = refl

binary_plain : (o : BinaryOperator) → is_plain (binary_symbol o) ≡ true
binary_plain binary_operator.ShortCircuitOr = refl
binary_plain o = refl

spanned_pairs : (k : Kind) (s : Sort) (j : Kind) (r : Row) → is_inner s ≡ true → spanned k s j ≡ Some r → in_pairs r zero ≡ true
spanned_pairs k s j r i h = by (same_kind k j) h where
  by : (b : Bool) → (if b then Some (own s nothing) else None) ≡ Some r → in_pairs r zero ≡ true
  by true g = ap (λ x. in_pairs x zero) (of_some r (own s nothing) (turned g)) ∙ ap (λ z. z && true) i
  by false g = absurd (no_some r g)

and_true : (b : Bool) → b ≡ true → (b && true) ≡ true
and_true b h = ap (λ z. z && true) h

rows_pairs : (s : Sort) (l : Label) (r : Row) → is_inner s ≡ true → row_of s l ≡ Some r → in_pairs r zero ≡ true
rows_pairs a_bare_expression (unary o) r i h = ap (λ x. in_pairs x zero) (of_some r _ (turned h)) ∙ and_true (is_plain (unary_symbol o)) (unary_plain o)
rows_pairs a_bare_expression (binary o) r i h = ap (λ x. in_pairs x zero) (of_some r _ (turned h)) ∙ and_true (is_plain (binary_symbol o)) (binary_plain o)
rows_pairs an_expression (at k zero zero) r i h = spanned_pairs expression_node a_bare_expression k r refl h
rows_pairs a_bare_statement (assignment o) r i h = absurd (no_true i)
rows_pairs a_space (space x) r i h = absurd (no_true i)
rows_pairs an_access (access x) r i h = absurd (no_true i)
rows_pairs a_statement (at k zero zero) r i h = absurd (no_true i)
rows_pairs an_attribute (at k zero zero) r i h = absurd (no_true i)
rows_pairs a_member (at k zero zero) r i h = absurd (no_true i)
rows_pairs an_import (at k zero zero) r i h = absurd (no_true i)
rows_pairs a_directive (at k zero zero) r i h = absurd (no_true i)
rows_pairs a_declaration (at k zero zero) r i h = absurd (no_true i)
rows_pairs s (kind k) r i h = at_rows (λ x. in_pairs x zero) (rows_of s) k r (table_pairs s i) h
rows_pairs s (at k zero zero) r i h = absurd (no_some r h)
rows_pairs s (at k zero (suc f)) r i h = absurd (no_some r h)
rows_pairs s (at k (suc a) f) r i h = absurd (no_some r h)
rows_pairs s l r i h = absurd (no_some r h)

-- ---- trees

abbrev RowsPair : Forest → Type 0
RowsPair f = (r : Row) (d n : ℕ) → in_pairs r d ≡ true → Comes (inside (on d n)) ((spells f).row r) (inside n)

abbrev SeparatePairs : Forest → Type 0
SeparatePairs f = (s : Sort) (n : ℕ) → is_inner s ≡ true → Comes (inside n) ((spells f).separate s) (inside n)

none_pair : RowsPair end
none_pair nothing zero n h = refl
none_pair nothing (suc d) n h = absurd (no_true h)
none_pair (sym s row) d n h =
    let x : (is_plain s ≡ true) × (in_pairs row d ≡ true) = and_parts (is_plain s) (in_pairs row d) h in
    comes_joined (inside (on d n)) (inside (on d n)) (inside n) (Some (signed s ∷ [])) (row_of_none row) (plain_step s (on d n) x.0) (none_pair row d n x.1)
none_pair (may_sym s row) d n h = comes_joined (inside (on d n)) (inside (on d n)) (inside n) (Some (may (symbol s) ∷ [])) (row_of_none row) refl (none_pair row d n h)
none_pair (says w row) d n h = comes_joined (inside (on d n)) (inside (on d n)) (inside n) (Some (named w ∷ [])) (row_of_none row) refl (none_pair row d n h)
none_pair (opens row) d n h = comes_joined (inside (on d n)) (inside (suc (on d n))) (inside n) (Some (must open_list ∷ [])) (row_of_none row) refl (none_pair row (suc d) n h)
none_pair (closes row) zero n h = absurd (no_true h)
none_pair (closes row) (suc d) n h = comes_joined (inside (suc (on d n))) (inside (on d n)) (inside n) (Some (must close_list ∷ [])) (row_of_none row) refl (none_pair row d n h)
none_pair r d n h = tt

module _ (l : Label) (c o : Forest) (below : RowsPair c) (list : SeparatePairs c) (later : RowsPair o) (others : SeparatePairs o) where
  first_pairs : (s : Sort) (n : ℕ) → is_inner s ≡ true → Comes (inside n) (first_slots l c (spells c) s) (inside n)
  first_pairs s n i = comes_node (inside n) (inside n) s l c (λ x e. below x zero n (rows_pairs s l x i e))

  separate_pairs : SeparatePairs (tree l c o)
  separate_pairs s n i = by o (others s n i) where
    comma : (a : Slots) → Comes (inside n) a (inside n) → Comes (inside n) (option_map (λ ss. signed is.Comma ∷ ss) a) (inside n)
    comma None h = tt
    comma (Some ss) h = h

    by : (o : Forest) → Comes (inside n) ((spells o).separate s) (inside n) → Comes (inside n) (with_comma (first_slots l c (spells c) s) o ((spells o).separate s)) (inside n)
    by end h = first_pairs s n i
    by (tree m d p) h = comes_joined (inside n) (inside n) (inside n) (first_slots l c (spells c) s) (option_map (λ ss. signed is.Comma ∷ ss) ((spells (tree m d p)).separate s)) (first_pairs s n i) (comma ((spells (tree m d p)).separate s) h)

  tree_pairs : RowsPair (tree l c o)
  tree_pairs nothing d n h = tt
  tree_pairs (sym s row) d n h =
      let x : (is_plain s ≡ true) × (in_pairs row d ≡ true) = and_parts (is_plain s) (in_pairs row d) h in
      comes_joined (inside (on d n)) (inside (on d n)) (inside n) (Some (signed s ∷ [])) (row_slots l c o (spells c) (spells o) row) (plain_step s (on d n) x.0) (tree_pairs row d n x.1)
  tree_pairs (may_sym s row) d n h = comes_joined (inside (on d n)) (inside (on d n)) (inside n) (Some (may (symbol s) ∷ [])) (row_slots l c o (spells c) (spells o) row) refl (tree_pairs row d n h)
  tree_pairs (says w row) d n h = comes_joined (inside (on d n)) (inside (on d n)) (inside n) (Some (named w ∷ [])) (row_slots l c o (spells c) (spells o) row) refl (tree_pairs row d n h)
  tree_pairs (opens row) d n h = comes_joined (inside (on d n)) (inside (suc (on d n))) (inside n) (Some (must open_list ∷ [])) (row_slots l c o (spells c) (spells o) row) refl (tree_pairs row (suc d) n h)
  tree_pairs (closes row) zero n h = absurd (no_true h)
  tree_pairs (closes row) (suc d) n h = comes_joined (inside (suc (on d n))) (inside (on d n)) (inside n) (Some (must close_list ∷ [])) (row_slots l c o (spells c) (spells o) row) refl (tree_pairs row d n h)
  tree_pairs (own s row) d n h =
      let x : (is_inner s ≡ true) × (in_pairs row d ≡ true) = and_parts (is_inner s) (in_pairs row d) h in
      comes_joined (inside (on d n)) (inside (on d n)) (inside n) (first_slots l c (spells c) s) ((spells o).row row) (first_pairs s (on d n) x.0) (later row d n x.1)
  tree_pairs (leaf f row) d n h =
      let x : (is_inner_leaf f ≡ true) × (in_pairs row d ≡ true) = and_parts (is_inner_leaf f) (in_pairs row d) h in
      comes_either (inside (on d n)) (inside n) (is_end c) (followed (leaf_slots f l o) ((spells o).row row)) None
      (comes_joined (inside (on d n)) (inside (on d n)) (inside n) (leaf_slots f l o) ((spells o).row row) (leaf_inside f l o (on d n) x.0) (later row d n x.1)) tt
  tree_pairs (commas k s row) d n h =
      let x : (is_inner s ≡ true) × (in_pairs row d ≡ true) = and_parts (is_inner s) (in_pairs row d) h in
      comes_either (inside (on d n)) (inside n) (is_kind k (Some l)) (followed (option_map trailing ((spells c).separate s)) ((spells o).row row)) None
      (comes_joined (inside (on d n)) (inside (on d n)) (inside n) (option_map trailing ((spells c).separate s)) ((spells o).row row)
      (comes_trailing (inside (on d n)) (inside (on d n)) ((spells c).separate s) (list s (on d n) x.0)) (later row d n x.1)) tt
  tree_pairs (optional ins row) d n h =
      let x : (in_pairs ins zero ≡ true) × (in_pairs row d ≡ true) = and_parts (in_pairs ins zero) (in_pairs row d) h in
      comes_either (inside (on d n)) (inside n) (is_kind absent (Some l) && is_end c) ((spells o).row row) (if is_kind present (Some l) then followed ((spells c).row ins) ((spells o).row row) else None) (later row d n x.1)
      (comes_either (inside (on d n)) (inside n) (is_kind present (Some l)) (followed ((spells c).row ins) ((spells o).row row)) None
      (comes_joined (inside (on d n)) (inside (on d n)) (inside n) ((spells c).row ins) ((spells o).row row) (below ins zero (on d n) x.0) (later row d n x.1)) tt)
  tree_pairs r d n h = absurd (no_true h)

all_pairs : (f : Forest) → RowsPair f × SeparatePairs f
all_pairs end = (none_pair, λ s n i. refl)
all_pairs (tree l c o) = by (all_pairs c) (all_pairs o) where
  by : RowsPair c × SeparatePairs c → RowsPair o × SeparatePairs o → RowsPair (tree l c o) × SeparatePairs (tree l c o)
  by x y = (tree_pairs l c o x.0 x.1 y.0 y.1, separate_pairs l c o x.0 x.1 y.0 y.1)

-- in a list as many are open behind its arguments as before them
pub separate_inside : (f : Forest) (s : Sort) (n : ℕ) → is_inner s ≡ true → Comes (inside n) ((spells f).separate s) (inside n)
separate_inside f = (all_pairs f).1
