-- Parentheses stand in pairs in what is printed for types and expressions: so nothing is pending behind attributes, where nothing is before them.
use Rattle.std.proofs.Common.{◌≡◌, ℕ, zero, suc, Bool, true, false, ◌&&◌, if◌then◌else◌, List, [], ◌∷◌, ◌++◌, Option, Some, None, option_map, refl, sym as turned, ap, ◌∙◌, subst}
use Rattle.std.proofs.lemmas.Bool.{and_parts}
use Rattle.wesl_tree_base.specs.Pieces.{cut, supers}
use Rattle.wesl_tree_names.specs.Path.{Text, Origin, absolute, relative, from_package}
use Rattle.wesl_tree_syntax.specs.Tree.{Kind, kind, at, ident, text, texts, truth, path, unary, binary, assignment, space, access, end, tree, present, absent, expression_node, attribute_node}
use Rattle.wesl_tree_syntax.specs.Kinds.{same_kind, same_role}
use Rattle.wesl_tree_syntax.specs.declared.expression.UnaryOperator.{UnaryOperator}
use Rattle.wesl_tree_syntax.specs.declared.expression.UnaryOperator.TheVariants as unary_operator
use Rattle.wesl_tree_syntax.specs.declared.expression.BinaryOperator.{BinaryOperator}
use Rattle.wesl_tree_syntax.specs.declared.expression.BinaryOperator.TheVariants as binary_operator
use Rattle.wesl_text_tokens.specs.declared.symbol.Symbol.{Symbol}
use Rattle.wesl_text_tokens.specs.declared.symbol.Symbol.TheVariants as is
use Rattle.wesl_text_tokens.specs.Tokens.{name, number, symbol, open_list, close_list}
use Rattle.wesl_text_form.specs.Slots.{Slot, must, may}
use Rattle.wesl_text_form.specs.Names.{is_name, is_number, is_path, is_word}
use Rattle.wesl_text_form.specs.Operators.{unary_symbol, binary_symbol}
use Rattle.wesl_text_form.specs.Productions.{Sort, an_expression, a_bare_expression, a_bare_attribute, a_bare_statement, a_statement, an_attribute, a_member, an_import, a_directive, a_declaration, a_space, an_access, a_call, a_type, an_argument, Leaf, an_ident, a_name, a_word, a_custom, a_literal, a_rule, one_or_two, a_path, Row, nothing, sym, may_sym, says, opens, closes, own, leaf, commas, optional, rows_of, row_of, spanned}
use Rattle.wesl_text_form.specs.Spelling.{Label, Forest, Slots, spells, followed, named, signed, stepped, parted, trailing, origin_slots, leaf_slots, first_slots, row_slots, row_of_none, with_comma, is_kind, is_end, dot}
use Rattle.wesl_text_reading.proofs.Filled.{no_some, of_some, no_true}
use Rattle.wesl_text_reading.proofs.Takes.{all_rows, at_rows}
use Rattle.wesl_text_respell.proofs.Rests.{Rest, rests, enclosed, rest_step}
use Rattle.wesl_text_respell.proofs.Moved.{on}
use Rattle.wesl_text_respell.proofs.Lists.{rest_slots, slots_joined, Comes, comes_joined, comes_either, comes_trailing, comes_node, comes_provided, is_inner}

-- what is told in so many parentheses
abbrev level : ℕ → Rest
level zero = rests
level (suc n) = enclosed n

-- whether there are any
abbrev is_open : ℕ → Bool
is_open zero = false
is_open (suc n) = true

abbrev is_level : Bool → ℕ → Bool
is_level o zero = o
is_level o (suc d) = true

open_on : (d n : ℕ) → is_open (on d n) ≡ is_level (is_open n) d
open_on zero n = refl
open_on (suc d) n = refl

there_on : (m : ℕ) → is_open m ≡ true → (n : ℕ) × (m ≡ suc n)
there_on zero h = absurd (no_true h)
there_on (suc n) h = (n, refl)

-- ---- symbols

-- in how many parentheses what is behind a symbol stands
abbrev level_behind : Bool → ℕ → Symbol → Option ℕ
level_behind o d is.ParenLeft = Some (suc d)
level_behind true d is.BracketLeft = Some (suc d)
level_behind false zero is.BracketLeft = None
level_behind false (suc d) is.BracketLeft = Some (suc (suc d))
level_behind o zero is.ParenRight = None
level_behind o (suc d) is.ParenRight = Some d
level_behind o zero is.BracketRight = None
level_behind o (suc d) is.BracketRight = Some d
level_behind o d is.Semicolon = None
level_behind o d is.BraceLeft = None
level_behind o d is.Colon = None
level_behind o d is.At = Some d
level_behind o d is.Comma = Some d
level_behind true d s = Some d
level_behind false zero s = None
level_behind false (suc d) s = Some (suc d)

opening : (m : ℕ) → rest_step (level m) (symbol is.ParenLeft) ≡ level (suc m)
opening zero = refl
opening (suc m) = refl

closing : (m : ℕ) → rest_step (enclosed m) (symbol is.ParenRight) ≡ level m
closing zero = refl
closing (suc m) = refl

closing_bracket : (m : ℕ) → rest_step (enclosed m) (symbol is.BracketRight) ≡ level m
closing_bracket zero = refl
closing_bracket (suc m) = refl

-- a symbol that has no bearing
comma_stays : (m : ℕ) → rest_step (level m) (symbol is.Comma) ≡ level m
comma_stays zero = refl
comma_stays (suc m) = refl

at_stays : (m : ℕ) → rest_step (level m) (symbol is.At) ≡ level m
at_stays zero = refl
at_stays (suc m) = refl

behind_is : (n d e : ℕ) (s : Symbol) → level_behind (is_open n) d s ≡ Some e → rest_step (level (on d n)) (symbol s) ≡ level (on e n)
behind_is n d e is.ParenLeft h = opening (on d n) ∙ ap (λ z. level (on z n)) (of_some (suc d) e h)
behind_is n (suc d) e is.ParenRight h = closing (on d n) ∙ ap (λ z. level (on z n)) (of_some d e h)
behind_is n zero e is.ParenRight h = absurd (no_some e h)
behind_is n (suc d) e is.BracketRight h = closing_bracket (on d n) ∙ ap (λ z. level (on z n)) (of_some d e h)
behind_is n zero e is.BracketRight h = absurd (no_some e h)
behind_is n d e is.Comma h = comma_stays (on d n) ∙ ap (λ z. level (on z n)) (of_some d e h)
behind_is n d e is.At h = at_stays (on d n) ∙ ap (λ z. level (on z n)) (of_some d e h)
behind_is n d e is.Semicolon h = absurd (no_some e h)
behind_is n d e is.BraceLeft h = absurd (no_some e h)
behind_is n d e is.Colon h = absurd (no_some e h)
behind_is zero zero e s h = absurd (no_some e h)
behind_is zero (suc d) e is.BracketLeft h = ap (λ z. level (on z 0)) (of_some (suc (suc d)) e h)
behind_is (suc n) zero e is.BracketLeft h = ap (λ z. level (on z (suc n))) (of_some 1 e h)
behind_is (suc n) (suc d) e is.BracketLeft h = ap (λ z. level (on z (suc n))) (of_some (suc (suc d)) e h)
behind_is zero (suc d) e s h = ap (λ z. level (on z 0)) (of_some (suc d) e h)
behind_is (suc n) zero e s h = ap (λ z. level (on z (suc n))) (of_some 0 e h)
behind_is (suc n) (suc d) e s h = ap (λ z. level (on z (suc n))) (of_some (suc d) e h)

-- ---- leaves

word_stays : (m : ℕ) (w : Text) → rest_step (level m) (name w) ≡ level m
word_stays zero w = refl
word_stays (suc m) w = refl

steps_stay : (n : ℕ) (ts : List Text) → rest_slots (enclosed n) (stepped ts) ≡ enclosed n
steps_stay n [] = refl
steps_stay n (t ∷ ts) = steps_stay n ts

origin_stays : (n : ℕ) (o : Origin) → rest_slots (enclosed n) (origin_slots false o) ≡ enclosed n
origin_stays n absolute = refl
origin_stays n (relative zero) = refl
origin_stays n (relative (suc m)) = steps_stay n (supers (suc m))
origin_stays n (from_package p) = refl

periods_stay : (n : ℕ) (ts : List Text) → rest_slots (enclosed n) (parted is.Period ts) ≡ enclosed n
periods_stay n [] = refl
periods_stay n (t ∷ []) = refl
periods_stay n (t ∷ u ∷ us) = periods_stay n (u ∷ us)

commas_stay : (n : ℕ) (ts : List Text) → rest_slots (enclosed n) (parted is.Comma ts) ≡ enclosed n
commas_stay n [] = refl
commas_stay n (t ∷ []) = refl
commas_stay n (t ∷ u ∷ us) = commas_stay n (u ∷ us)

trailing_stays : (n : ℕ) (ss : List Slot) → rest_slots (enclosed n) ss ≡ enclosed n → rest_slots (enclosed n) (trailing ss) ≡ enclosed n
trailing_stays n [] h = h
trailing_stays n (s ∷ ss) h = slots_joined (s ∷ ss) (may (symbol is.Comma) ∷ []) (enclosed n) ∙ h

-- the leaves in attributes
abbrev is_leaf_at : Bool → Leaf → Bool
is_leaf_at o a_custom = true
is_leaf_at o (an_ident r) = o
is_leaf_at o a_name = o
is_leaf_at o a_word = o
is_leaf_at o a_literal = o
is_leaf_at o a_rule = o
is_leaf_at o one_or_two = o
is_leaf_at o (a_path false) = o
is_leaf_at o f = false

custom_stays : (m : ℕ) (l : Label) (o : Forest) → Comes (level m) (leaf_slots a_custom l o) (level m)
custom_stays m (text t) o = comes_provided (level m) (level m) _ (named t ∷ []) (word_stays m t)
custom_stays m l o = tt

leaf_stays : (f : Leaf) (l : Label) (o : Forest) (n : ℕ) → is_leaf_at true f ≡ true → Comes (enclosed n) (leaf_slots f l o) (enclosed n)
leaf_stays a_custom l o n h = custom_stays (suc n) l o
leaf_stays (an_ident r) (ident q t) o n h = comes_provided (enclosed n) (enclosed n) (same_role r q && is_name t) (named t ∷ []) refl
leaf_stays a_name (text t) o n h = comes_provided (enclosed n) (enclosed n) (is_name t) (named t ∷ []) refl
leaf_stays a_word (text t) o n h = comes_provided (enclosed n) (enclosed n) (is_word t) (named t ∷ []) refl
leaf_stays a_literal (truth b) o n h = refl
leaf_stays a_literal (text t) o n h = comes_provided (enclosed n) (enclosed n) (is_number t) (must (number t) ∷ []) refl
leaf_stays a_rule (text t) o n h = comes_provided (enclosed n) (enclosed n) _ (parted is.Period (cut dot t)) (periods_stay n (cut dot t))
leaf_stays one_or_two (texts ts) o n h = comes_provided (enclosed n) (enclosed n) _ (trailing (parted is.Comma ts)) (trailing_stays n (parted is.Comma ts) (commas_stay n ts))
leaf_stays (a_path false) (path p) o n h = comes_provided (enclosed n) (enclosed n) (is_path false p) (origin_slots false p.origin ++ stepped p.components)
    (slots_joined (origin_slots false p.origin) (stepped p.components) (enclosed n) ∙ (ap (λ z. rest_slots z (stepped p.components)) (origin_stays n p.origin) ∙ steps_stay n p.components))
leaf_stays (an_ident r) l o n h = tt
leaf_stays a_name l o n h = tt
leaf_stays a_word l o n h = tt
leaf_stays a_literal l o n h = tt
leaf_stays a_rule l o n h = tt
leaf_stays one_or_two l o n h = tt
leaf_stays (a_path false) l o n h = tt
leaf_stays f l o n h = absurd (no_true h)

leaf_at : (f : Leaf) (l : Label) (o : Forest) (m : ℕ) → is_leaf_at (is_open m) f ≡ true → Comes (level m) (leaf_slots f l o) (level m)
leaf_at f l o (suc n) h = leaf_stays f l o n h
leaf_at a_custom l o zero h = custom_stays zero l o
leaf_at (a_path true) l o zero h = absurd (no_true h)
leaf_at (a_path false) l o zero h = absurd (no_true h)
leaf_at f l o zero h = absurd (no_true h)

-- ---- which rows

-- whether a row has its parentheses in pairs, where so many are open
abbrev balanced : Bool → Row → ℕ → Bool
balanced o nothing zero = true
balanced o nothing (suc d) = false
balanced o (sym s row) d = elim (level_behind o d s) as (λ _. Bool) [ None ↦ false | Some e ↦ balanced o row e ]
balanced o (may_sym s row) d = balanced o row d
balanced o (says w row) d = balanced o row d
balanced o (opens row) d = is_level o d && balanced o row d
balanced o (closes row) d = is_level o d && balanced o row d
balanced o (own s row) d = (is_inner s && is_level o d) && balanced o row d
balanced o (leaf f row) d = is_leaf_at (is_level o d) f && balanced o row d
balanced o (commas k s row) d = (is_inner s && is_level o d) && balanced o row d
balanced o (optional ins row) d = balanced (is_level o d) ins zero && balanced o row d
balanced o row d = false

table_balanced : (s : Sort) → is_inner s ≡ true → all_rows (λ x. balanced true x zero) (rows_of s) ≡ true
table_balanced an_expression h = refl
table_balanced a_bare_expression h = refl
table_balanced a_call h = refl
table_balanced a_type h = refl
table_balanced an_argument h = refl
table_balanced s h = absurd (no_true h)

unary_balanced : (o : UnaryOperator) (r : Row) → balanced true (sym (unary_symbol o) r) zero ≡ balanced true r zero
unary_balanced unary_operator.LogicalNegation r = refl
unary_balanced unary_operator.Negation r = refl
unary_balanced unary_operator.BitwiseComplement r = refl
unary_balanced unary_operator.AddressOf r = refl
unary_balanced unary_operator.Indirection r = refl

binary_balanced : (o : BinaryOperator) (r : Row) → balanced true (sym (binary_symbol o) r) zero ≡ balanced true r zero
binary_balanced binary_operator.ShortCircuitOr r = refl
binary_balanced o r = refl

spanned_balanced : (k : Kind) (s : Sort) (j : Kind) (r : Row) → is_inner s ≡ true → spanned k s j ≡ Some r → balanced true r zero ≡ true
spanned_balanced k s j r i h = by (same_kind k j) h where
  by : (b : Bool) → (if b then Some (own s nothing) else None) ≡ Some r → balanced true r zero ≡ true
  by true g = ap (λ x. balanced true x zero) (of_some r (own s nothing) (turned g)) ∙ ap (λ z. (z && true) && true) i
  by false g = absurd (no_some r g)

rows_balanced : (s : Sort) (l : Label) (r : Row) → is_inner s ≡ true → row_of s l ≡ Some r → balanced true r zero ≡ true
rows_balanced a_bare_expression (unary o) r i h = ap (λ x. balanced true x zero) (of_some r _ (turned h)) ∙ unary_balanced o (own an_expression nothing)
rows_balanced a_bare_expression (binary o) r i h = ap (λ x. balanced true x zero) (of_some r _ (turned h)) ∙ binary_balanced o (own an_expression nothing)
rows_balanced an_expression (at k zero zero) r i h = spanned_balanced expression_node a_bare_expression k r refl h
rows_balanced a_bare_statement (assignment o) r i h = absurd (no_true i)
rows_balanced a_space (space x) r i h = absurd (no_true i)
rows_balanced an_access (access x) r i h = absurd (no_true i)
rows_balanced a_statement (at k zero zero) r i h = absurd (no_true i)
rows_balanced an_attribute (at k zero zero) r i h = absurd (no_true i)
rows_balanced a_member (at k zero zero) r i h = absurd (no_true i)
rows_balanced an_import (at k zero zero) r i h = absurd (no_true i)
rows_balanced a_directive (at k zero zero) r i h = absurd (no_true i)
rows_balanced a_declaration (at k zero zero) r i h = absurd (no_true i)
rows_balanced s (kind k) r i h = at_rows (λ x. balanced true x zero) (rows_of s) k r (table_balanced s i) h
rows_balanced s (at k zero zero) r i h = absurd (no_some r h)
rows_balanced s (at k zero (suc f)) r i h = absurd (no_some r h)
rows_balanced s (at k (suc a) f) r i h = absurd (no_some r h)
rows_balanced s l r i h = absurd (no_some r h)

-- ---- trees

abbrev RowsLevel : Forest → Type 0
RowsLevel f = (r : Row) (d n : ℕ) → balanced (is_open n) r d ≡ true → Comes (level (on d n)) ((spells f).row r) (level n)

abbrev SeparateLevel : Forest → Type 0
SeparateLevel f = (s : Sort) (n : ℕ) → is_inner s ≡ true → Comes (enclosed n) ((spells f).separate s) (enclosed n)

-- behind a symbol
behind_sign : (s : Symbol) (row : Row) (d n : ℕ) (a : Slots) → balanced (is_open n) (sym s row) d ≡ true
    → ((e : ℕ) → balanced (is_open n) row e ≡ true → Comes (level (on e n)) a (level n)) → Comes (level (on d n)) (followed (Some (signed s ∷ [])) a) (level n)
behind_sign s row d n a h f = by (level_behind (is_open n) d s) refl h where
  by : (o : Option ℕ) → level_behind (is_open n) d s ≡ o → (elim o as (λ _. Bool) [ None ↦ false | Some e ↦ balanced (is_open n) row e ]) ≡ true → Comes (level (on d n)) (followed (Some (signed s ∷ [])) a) (level n)
  by None e g = absurd (no_true g)
  by (Some x) e g = comes_joined (level (on d n)) (level (on x n)) (level n) (Some (signed s ∷ [])) a (behind_is n d x s e) (f x g)

-- the brackets of a list have no bearing in parentheses
list_stays : (d n : ℕ) → is_level (is_open n) d ≡ true → (rest_step (level (on d n)) open_list ≡ level (on d n)) × (rest_step (level (on d n)) close_list ≡ level (on d n))
list_stays zero zero h = absurd (no_true h)
list_stays zero (suc n) h = (refl, refl)
list_stays (suc d) n h = (refl, refl)

none_level : RowsLevel end
none_level nothing zero n h = refl
none_level nothing (suc d) n h = absurd (no_true h)
none_level (sym s row) d n h = behind_sign s row d n (row_of_none row) h (λ e g. none_level row e n g)
none_level (may_sym s row) d n h = comes_joined (level (on d n)) (level (on d n)) (level n) (Some (may (symbol s) ∷ [])) (row_of_none row) refl (none_level row d n h)
none_level (says w row) d n h = comes_joined (level (on d n)) (level (on d n)) (level n) (Some (named w ∷ [])) (row_of_none row) (word_stays (on d n) w) (none_level row d n h)
none_level (opens row) d n h =
    let x : (is_level (is_open n) d ≡ true) × (balanced (is_open n) row d ≡ true) = and_parts (is_level (is_open n) d) (balanced (is_open n) row d) h in
    comes_joined (level (on d n)) (level (on d n)) (level n) (Some (must open_list ∷ [])) (row_of_none row) (list_stays d n x.0).0 (none_level row d n x.1)
none_level (closes row) d n h =
    let x : (is_level (is_open n) d ≡ true) × (balanced (is_open n) row d ≡ true) = and_parts (is_level (is_open n) d) (balanced (is_open n) row d) h in
    comes_joined (level (on d n)) (level (on d n)) (level n) (Some (must close_list ∷ [])) (row_of_none row) (list_stays d n x.0).1 (none_level row d n x.1)
none_level r d n h = tt

module _ (l : Label) (c o : Forest) (below : RowsLevel c) (list_below : SeparateLevel c) (later : RowsLevel o) (others : SeparateLevel o) where
  first_level : (s : Sort) (n : ℕ) → is_inner s ≡ true → Comes (enclosed n) (first_slots l c (spells c) s) (enclosed n)
  first_level s n i = comes_node (enclosed n) (enclosed n) s l c (λ x e. below x zero (suc n) (rows_balanced s l x i e))

  -- the same in parentheses, or where they are told so
  first_at : (s : Sort) (d n : ℕ) → (is_inner s && is_level (is_open n) d) ≡ true → Comes (level (on d n)) (first_slots l c (spells c) s) (level (on d n))
  first_at s d n h =
      let x : (is_inner s ≡ true) × (is_level (is_open n) d ≡ true) = and_parts (is_inner s) (is_level (is_open n) d) h in
      let y : (m : ℕ) × (on d n ≡ suc m) = there_on (on d n) (open_on d n ∙ x.1) in
      subst (λ z. Comes (level z) (first_slots l c (spells c) s) (level z)) (turned y.1) (first_level s y.0 x.0)

  list_at : (s : Sort) (d n : ℕ) → (is_inner s && is_level (is_open n) d) ≡ true → Comes (level (on d n)) ((spells c).separate s) (level (on d n))
  list_at s d n h =
      let x : (is_inner s ≡ true) × (is_level (is_open n) d ≡ true) = and_parts (is_inner s) (is_level (is_open n) d) h in
      let y : (m : ℕ) × (on d n ≡ suc m) = there_on (on d n) (open_on d n ∙ x.1) in
      subst (λ z. Comes (level z) ((spells c).separate s) (level z)) (turned y.1) (list_below s y.0 x.0)

  separate_level : SeparateLevel (tree l c o)
  separate_level s n i = by o (others s n i) where
    comma : (a : Slots) → Comes (enclosed n) a (enclosed n) → Comes (enclosed n) (option_map (λ ss. signed is.Comma ∷ ss) a) (enclosed n)
    comma None h = tt
    comma (Some ss) h = h

    by : (o : Forest) → Comes (enclosed n) ((spells o).separate s) (enclosed n) → Comes (enclosed n) (with_comma (first_slots l c (spells c) s) o ((spells o).separate s)) (enclosed n)
    by end h = first_level s n i
    by (tree m d p) h = comes_joined (enclosed n) (enclosed n) (enclosed n) (first_slots l c (spells c) s) (option_map (λ ss. signed is.Comma ∷ ss) ((spells (tree m d p)).separate s)) (first_level s n i) (comma ((spells (tree m d p)).separate s) h)

  tree_level : RowsLevel (tree l c o)
  tree_level nothing d n h = tt
  tree_level (sym s row) d n h = behind_sign s row d n (row_slots l c o (spells c) (spells o) row) h (λ e g. tree_level row e n g)
  tree_level (may_sym s row) d n h = comes_joined (level (on d n)) (level (on d n)) (level n) (Some (may (symbol s) ∷ [])) (row_slots l c o (spells c) (spells o) row) refl (tree_level row d n h)
  tree_level (says w row) d n h = comes_joined (level (on d n)) (level (on d n)) (level n) (Some (named w ∷ [])) (row_slots l c o (spells c) (spells o) row) (word_stays (on d n) w) (tree_level row d n h)
  tree_level (opens row) d n h =
      let x : (is_level (is_open n) d ≡ true) × (balanced (is_open n) row d ≡ true) = and_parts (is_level (is_open n) d) (balanced (is_open n) row d) h in
      comes_joined (level (on d n)) (level (on d n)) (level n) (Some (must open_list ∷ [])) (row_slots l c o (spells c) (spells o) row) (list_stays d n x.0).0 (tree_level row d n x.1)
  tree_level (closes row) d n h =
      let x : (is_level (is_open n) d ≡ true) × (balanced (is_open n) row d ≡ true) = and_parts (is_level (is_open n) d) (balanced (is_open n) row d) h in
      comes_joined (level (on d n)) (level (on d n)) (level n) (Some (must close_list ∷ [])) (row_slots l c o (spells c) (spells o) row) (list_stays d n x.0).1 (tree_level row d n x.1)
  tree_level (own s row) d n h =
      let x : ((is_inner s && is_level (is_open n) d) ≡ true) × (balanced (is_open n) row d ≡ true) = and_parts (is_inner s && is_level (is_open n) d) (balanced (is_open n) row d) h in
      comes_joined (level (on d n)) (level (on d n)) (level n) (first_slots l c (spells c) s) ((spells o).row row) (first_at s d n x.0) (later row d n x.1)
  tree_level (leaf f row) d n h =
      let x : (is_leaf_at (is_level (is_open n) d) f ≡ true) × (balanced (is_open n) row d ≡ true) = and_parts (is_leaf_at (is_level (is_open n) d) f) (balanced (is_open n) row d) h in
      comes_either (level (on d n)) (level n) (is_end c) (followed (leaf_slots f l o) ((spells o).row row)) None
      (comes_joined (level (on d n)) (level (on d n)) (level n) (leaf_slots f l o) ((spells o).row row) (leaf_at f l o (on d n) (ap (λ z. is_leaf_at z f) (open_on d n) ∙ x.0)) (later row d n x.1)) tt
  tree_level (commas k s row) d n h =
      let x : ((is_inner s && is_level (is_open n) d) ≡ true) × (balanced (is_open n) row d ≡ true) = and_parts (is_inner s && is_level (is_open n) d) (balanced (is_open n) row d) h in
      comes_either (level (on d n)) (level n) (is_kind k (Some l)) (followed (option_map trailing ((spells c).separate s)) ((spells o).row row)) None
      (comes_joined (level (on d n)) (level (on d n)) (level n) (option_map trailing ((spells c).separate s)) ((spells o).row row)
      (comes_trailing (level (on d n)) (level (on d n)) ((spells c).separate s) (list_at s d n x.0)) (later row d n x.1)) tt
  tree_level (optional ins row) d n h =
      let x : (balanced (is_level (is_open n) d) ins zero ≡ true) × (balanced (is_open n) row d ≡ true) = and_parts (balanced (is_level (is_open n) d) ins zero) (balanced (is_open n) row d) h in
      comes_either (level (on d n)) (level n) (is_kind absent (Some l) && is_end c) ((spells o).row row) (if is_kind present (Some l) then followed ((spells c).row ins) ((spells o).row row) else None) (later row d n x.1)
      (comes_either (level (on d n)) (level n) (is_kind present (Some l)) (followed ((spells c).row ins) ((spells o).row row)) None
      (comes_joined (level (on d n)) (level (on d n)) (level n) ((spells c).row ins) ((spells o).row row) (below ins zero (on d n) (ap (λ z. balanced z ins zero) (open_on d n) ∙ x.0)) (later row d n x.1)) tt)
  tree_level r d n h = absurd (no_true h)

all_level : (f : Forest) → RowsLevel f × SeparateLevel f
all_level end = (none_level, λ s n i. refl)
all_level (tree l c o) = by (all_level c) (all_level o) where
  by : RowsLevel c × SeparateLevel c → RowsLevel o × SeparateLevel o → RowsLevel (tree l c o) × SeparateLevel (tree l c o)
  by x y = (tree_level l c o x.0 x.1 y.0 y.1, separate_level l c o x.0 x.1 y.0 y.1)

-- ---- attributes

table_attributes : all_rows (λ x. balanced false x zero) (rows_of a_bare_attribute) ≡ true
table_attributes = refl

bare_attribute : (l : Label) (c : Forest) → Comes rests (first_slots l c (spells c) a_bare_attribute) rests
bare_attribute l c = comes_node rests rests a_bare_attribute l c (λ x e. by l x e) where
  by : (l : Label) (x : Row) → row_of a_bare_attribute l ≡ Some x → Comes rests ((spells c).row x) rests
  by (kind k) x e = (all_level c).0 x zero zero (at_rows (λ x. balanced false x zero) (rows_of a_bare_attribute) k x table_attributes e)
  by (at k zero zero) x e = absurd (no_some x e)
  by (at k zero (suc f)) x e = absurd (no_some x e)
  by (at k (suc s) f) x e = absurd (no_some x e)
  by l x e = absurd (no_some x e)

no_more : (o : Forest) → Comes rests ((spells o).row nothing) rests
no_more end = refl
no_more (tree l c o) = tt

pub attribute_comes : (l : Label) (c : Forest) → Comes rests (first_slots l c (spells c) an_attribute) rests
attribute_comes l c = comes_node rests rests an_attribute l c (λ x e. by l x e) where
  own_comes : (f : Forest) → Comes rests ((spells f).row (own a_bare_attribute nothing)) rests
  own_comes end = tt
  own_comes (tree m d o) = comes_joined rests rests rests (first_slots m d (spells d) a_bare_attribute) ((spells o).row nothing) (bare_attribute m d) (no_more o)

  one : (k : Kind) (x : Row) → spanned attribute_node a_bare_attribute k ≡ Some x → own a_bare_attribute nothing ≡ x
  one k x h = of (same_kind attribute_node k) h where
    of : (b : Bool) → (if b then Some (own a_bare_attribute nothing) else None) ≡ Some x → own a_bare_attribute nothing ≡ x
    of true g = of_some (own a_bare_attribute nothing) x g
    of false g = absurd (no_some x g)

  by : (l : Label) (x : Row) → row_of an_attribute l ≡ Some x → Comes rests ((spells c).row x) rests
  by (at k zero zero) x e = subst (λ z. Comes rests ((spells c).row z) rests) (one k x e) (own_comes c)
  by (kind k) x e = absurd (no_some x e)
  by (at k zero (suc f)) x e = absurd (no_some x e)
  by (at k (suc s) f) x e = absurd (no_some x e)
  by l x e = absurd (no_some x e)
