-- What is printed for a body: attributes, of which none reaches back, and `{`.
use Rattle.std.proofs.Common.{◌≡◌, ℕ, zero, suc, Bool, true, false, not, ◌&&◌, ◌||◌, if◌then◌else◌, List, [], ◌∷◌, ◌++◌, length, Option, Some, None, option_map, option_and_then, refl, sym as turned, ap, ◌∙◌, subst, append_assoc, codes, nat_le}
use Rattle.wesl_tree_base.specs.Pieces.{cut, supers}
use Rattle.wesl_tree_names.specs.Path.{Text, Origin, absolute, relative, from_package}
use Rattle.wesl_tree_syntax.specs.Tree.{Kind, kind, at, ident, text, texts, truth, path, unary, binary, end, tree, present, absent, attributes, statements, compound, expression_node, attribute_node}
use Rattle.wesl_tree_syntax.specs.Kinds.{same_kind, same_role}
use Rattle.wesl_tree_syntax.specs.declared.expression.UnaryOperator.{UnaryOperator}
use Rattle.wesl_tree_syntax.specs.declared.expression.UnaryOperator.TheVariants as unary_operator
use Rattle.wesl_tree_syntax.specs.declared.expression.BinaryOperator.{BinaryOperator}
use Rattle.wesl_tree_syntax.specs.declared.expression.BinaryOperator.TheVariants as binary_operator
use Rattle.wesl_text_tokens.specs.declared.symbol.Symbol.{Symbol}
use Rattle.wesl_text_tokens.specs.declared.symbol.Symbol.TheVariants as is
use Rattle.wesl_text_tokens.specs.Pieces.{What, a_name, a_number, a_sign, Bit}
use Rattle.wesl_text_tokens.specs.Tokens.{Token, name, number, symbol, open_list, close_list}
use Rattle.wesl_text_form.specs.Slots.{Slot, must, may}
use Rattle.wesl_text_form.specs.Says.{token_bits}
use Rattle.wesl_text_form.specs.Names.{is_word, is_number, is_name, are_words, are_names, is_path, is_among, known_attributes}
use Rattle.wesl_text_form.specs.Operators.{unary_symbol, binary_symbol}
use Rattle.wesl_text_form.specs.Productions.{Sort, an_expression, a_bare_expression, a_call, a_type, an_argument, an_attribute, a_bare_attribute, a_body, a_statement, attrs, Leaf, an_ident, an_item, a_name as a_name_leaf, a_word, a_custom, a_literal, a_rule, some_words, one_or_two, steps, a_path, Row, nothing, sym, may_sym, says, opens, closes, own, leaf, run, commas, optional, rows_of, row_of, spanned}
use Rattle.wesl_text_form.specs.Spelling.{Label, Forest, Slots, spells, followed, provided, named, signed, parted, trailing, stepped, package_words, origin_slots, dot, is_one_or_two, item_role, leaf_slots, first_slots, row_slots, row_of_none, with_comma, is_kind, is_end, fits, stands_as}
use Rattle.wesl_text_reading.proofs.Filled.{no_some, of_some, no_true}
use Rattle.wesl_text_reading.proofs.Takes.{at_rows}
use Rattle.wesl_text_reading.proofs.Operands.{only_row}
use Rattle.wesl_text_writable.proofs.Fresh.{either_is}
use Rattle.wesl_text_writable.proofs.Clear.{braced}
use Rattle.wesl_text_writable.proofs.HardTrees.{of_either, of_node}
use Rattle.wesl_text_writable.proofs.Braced.{is_level, are_level, after, is_brace, is_comma, is_braced, braced_joined}
use Rattle.std.proofs.lemmas.Bool.{and_parts, or_right}

-- slots from so many parentheses to so many
abbrev Passes : ℕ → ℕ → List Slot → Type 0
Passes n m ss = (rest : List Slot) → is_braced m rest ≡ true → is_braced n (ss ++ rest) ≡ true

abbrev pub SlotsPass : ℕ → ℕ → Slots → Type 0
SlotsPass n m None = Unit {0}
SlotsPass n m (Some ss) = Passes n m ss

joined_pass : (ss us : List Slot) (n m k : ℕ) → Passes n m ss → Passes m k us → Passes n k (ss ++ us)
joined_pass ss us n m k p q rest h = ap (is_braced n) (append_assoc ss us rest) ∙ p (us ++ rest) (q rest h)

followed_pass : (a b : Slots) (n m k : ℕ) → SlotsPass n m a → SlotsPass m k b → SlotsPass n k (followed a b)
followed_pass None b n m k p q = tt
followed_pass (Some ss) None n m k p q = tt
followed_pass (Some ss) (Some us) n m k p q = joined_pass ss us n m k p q

must_pass : (t : Token) (n m : ℕ) → after t n ≡ Some m → Passes n m (must t ∷ [])
must_pass t n m e rest h = ap (λ o. is_brace t || (elim o as (λ _. Bool) [ None ↦ false | Some m ↦ is_braced m rest ])) e ∙ or_right (is_brace t) (is_braced m rest) h

name_after : (t : Text) (n : ℕ) → after (name t) n ≡ Some n
name_after t zero = refl
name_after t (suc n) = refl

number_after : (t : Text) (n : ℕ) → after (number t) n ≡ Some n
number_after t zero = refl
number_after t (suc n) = refl

name_pass : (t : Text) (n : ℕ) → Passes n n (named t ∷ [])
name_pass t n = must_pass (name t) n n (name_after t n)

-- signs that may stand anywhere
abbrev Easy : Symbol → Type 0
Easy s = (n : ℕ) → after (symbol s) n ≡ Some n

period_easy : Easy is.Period
period_easy zero = refl
period_easy (suc n) = refl

comma_easy : Easy is.Comma
comma_easy zero = refl
comma_easy (suc n) = refl

slash_easy : Easy is.Slash
slash_easy zero = refl
slash_easy (suc n) = refl

colons_easy : Easy is.ColonColon
colons_easy zero = refl
colons_easy (suc n) = refl

sign_pass : (s : Symbol) → Easy s → (n : ℕ) → Passes n n (signed s ∷ [])
sign_pass s e n = must_pass (symbol s) n n (e n)

parted_pass : (s : Symbol) → Easy s → (ts : List Text) (n : ℕ) → Passes n n (parted s ts)
parted_pass s e [] n = λ rest h. h
parted_pass s e (t ∷ []) n = name_pass t n
parted_pass s e (t ∷ u ∷ us) n = joined_pass (named t ∷ []) (signed s ∷ parted s (u ∷ us)) n n n (name_pass t n) (joined_pass (signed s ∷ []) (parted s (u ∷ us)) n n n (sign_pass s e n) (parted_pass s e (u ∷ us) n))

stepped_pass : (ts : List Text) (n : ℕ) → Passes n n (stepped ts)
stepped_pass [] n = λ rest h. h
stepped_pass (t ∷ ts) n = joined_pass (named t ∷ []) (signed is.ColonColon ∷ stepped ts) n n n (name_pass t n) (joined_pass (signed is.ColonColon ∷ []) (stepped ts) n n n (sign_pass is.ColonColon colons_easy n) (stepped_pass ts n))

trailing_pass : (ss : List Slot) (n m : ℕ) → Passes n m ss → Passes n m (trailing ss)
trailing_pass [] n m p = p
trailing_pass (s ∷ ss) n m p = joined_pass (s ∷ ss) (may (symbol is.Comma) ∷ []) n m m p (λ rest h. h)

origin_pass : (slashes : Bool) (o : Origin) (n : ℕ) → Passes n n (origin_slots slashes o)
origin_pass slashes absolute n = stepped_pass (codes "package" ∷ []) n
origin_pass slashes (relative zero) n = stepped_pass (codes "self" ∷ []) n
origin_pass slashes (relative (suc k)) n = stepped_pass (supers (suc k)) n
origin_pass slashes (from_package p) n = joined_pass (parted is.Slash (package_words slashes p)) (signed is.ColonColon ∷ []) n n n (parted_pass is.Slash slash_easy (package_words slashes p) n) (sign_pass is.ColonColon colons_easy n)

given_pass : (b : Bool) (ss : List Slot) (n : ℕ) → Passes n n ss → SlotsPass n n (provided b ss)
given_pass true ss n p = p
given_pass false ss n p = tt

leaf_pass : (f : Leaf) (l : Label) (o : Forest) (n : ℕ) → SlotsPass n n (leaf_slots f l o)
leaf_pass (an_ident r) (ident q t) o n = given_pass (same_role r q && is_name t) (named t ∷ []) n (name_pass t n)
leaf_pass an_item (ident q t) o n = given_pass (same_role (item_role o) q && is_name t) (named t ∷ []) n (name_pass t n)
leaf_pass a_name_leaf (text t) o n = given_pass (is_name t) (named t ∷ []) n (name_pass t n)
leaf_pass a_word (text t) o n = given_pass (is_word t) (named t ∷ []) n (name_pass t n)
leaf_pass a_custom (text t) o n = given_pass (is_word t && not (is_among known_attributes t)) (named t ∷ []) n (name_pass t n)
leaf_pass a_literal (truth b) o n = name_pass (if b then codes "true" else codes "false") n
leaf_pass a_literal (text t) o n = given_pass (is_number t) (must (number t) ∷ []) n (must_pass (number t) n n (number_after t n))
leaf_pass a_rule (text t) o n = given_pass (are_words (cut dot t) && is_one_or_two (length (cut dot t))) (parted is.Period (cut dot t)) n (parted_pass is.Period period_easy (cut dot t) n)
leaf_pass some_words (texts ts) o n = given_pass (are_words ts && nat_le 1 (length ts)) (trailing (parted is.Comma ts)) n (trailing_pass (parted is.Comma ts) n n (parted_pass is.Comma comma_easy ts n))
leaf_pass one_or_two (texts ts) o n = given_pass (are_words ts && is_one_or_two (length ts)) (trailing (parted is.Comma ts)) n (trailing_pass (parted is.Comma ts) n n (parted_pass is.Comma comma_easy ts n))
leaf_pass steps (texts ts) o n = given_pass (are_names ts) (stepped ts) n (stepped_pass ts n)
leaf_pass (a_path slashes) (path p) o n = given_pass (is_path slashes p) (origin_slots slashes p.origin ++ stepped p.components) n (joined_pass (origin_slots slashes p.origin) (stepped p.components) n n n (origin_pass slashes p.origin n) (stepped_pass p.components n))
leaf_pass f l o n = tt

-- ---- which rows

abbrev is_opening : Symbol → Bool
is_opening is.ParenLeft = true
is_opening is.BracketLeft = true
is_opening s = false

abbrev is_closing : Symbol → Bool
is_closing is.ParenRight = true
is_closing is.BracketRight = true
is_closing s = false

opening_after : (s : Symbol) (n : ℕ) → is_opening s ≡ true → after (symbol s) n ≡ Some (suc n)
opening_after is.ParenLeft n e = refl
opening_after is.BracketLeft n e = refl
opening_after s n e = absurd (no_true e)

closing_after : (s : Symbol) (n : ℕ) → is_closing s ≡ true → after (symbol s) (suc n) ≡ Some n
closing_after is.ParenRight n e = refl
closing_after is.BracketRight n e = refl
closing_after s n e = absurd (no_true e)

other_after : (s : Symbol) (n : ℕ) → is_opening s ≡ false → is_closing s ≡ false → are_level n (token_bits (symbol s)) ≡ true → after (symbol s) n ≡ Some n
other_after is.ParenLeft n e g h = absurd (no_true (turned e))
other_after is.BracketLeft n e g h = absurd (no_true (turned e))
other_after is.ParenRight n e g h = absurd (no_true (turned g))
other_after is.BracketRight n e g h = absurd (no_true (turned g))
other_after s n e g h = ap (λ z. let o : Option ℕ = if z then Some n else None in o) h

-- in parentheses it is the same in how many
level_more : (bs : List Bit) (n : ℕ) → are_level 1 bs ≡ true → are_level (suc n) bs ≡ true
level_more [] n h = refl
level_more (b ∷ bs) n h =
    let x : (is_level 1 b.what ≡ true) × (are_level 1 bs ≡ true) = and_parts (is_level 1 b.what) (are_level 1 bs) h in
    ap (λ z. z && are_level (suc n) bs) (same b.what ∙ x.0) ∙ level_more bs n x.1 where
      same : (w : What) → is_level (suc n) w ≡ is_level 1 w
      same (a_name t) = refl
      same (a_number t) = refl
      same (a_sign t) = refl

-- nodes that have no statements in them
abbrev is_inner : Sort → Bool
is_inner an_expression = true
is_inner a_bare_expression = true
is_inner a_call = true
is_inner a_type = true
is_inner an_argument = true
is_inner s = false

-- whether so many parentheses, and perhaps others before, are open
abbrev is_within : ℕ → Bool → Bool
is_within zero b = b
is_within (suc r) b = true

abbrev depth_of : ℕ → Bool → ℕ → ℕ
depth_of zero true n = suc n
depth_of zero false n = zero
depth_of (suc r) b n = suc (depth_of r b n)

-- whether a row closes the parentheses that are open, and those that it opens, and no others
abbrev even : Row → ℕ → Bool → Bool
even nothing zero b = true
even nothing (suc r) b = false
even (sym s row) zero b = if is_opening s then even row 1 b else not (is_closing s) && ((if b then are_level 1 (token_bits (symbol s)) else are_level 0 (token_bits (symbol s))) && even row zero b)
even (sym s row) (suc r) b = if is_opening s then even row (suc (suc r)) b else if is_closing s then even row r b else are_level 1 (token_bits (symbol s)) && even row (suc r) b
even (may_sym s row) r b = is_comma (symbol s) && even row r b
even (says w row) r b = even row r b
even (opens row) r b = is_within r b && even row r b
even (closes row) r b = is_within r b && even row r b
even (own s row) r b = is_inner s && (is_within r b && even row r b)
even (leaf f row) r b = even row r b
even (commas k s row) r b = is_inner s && (is_within r b && even row r b)
even (optional ins row) r b = even ins zero (is_within r b) && even row r b
even row r b = false

abbrev is_even : ℕ → Bool → Row → Bool
is_even r b row = even row r b

spanned_even : (k : Kind) (s : Sort) (j : Kind) (r : Row) → is_inner s ≡ true → spanned k s j ≡ Some r → is_even zero true r ≡ true
spanned_even k s j r i h = at (same_kind k j) h where
  at : (b : Bool) → (if b then Some (own s nothing) else None) ≡ Some r → is_even zero true r ≡ true
  at true g = ap (is_even zero true) (of_some r (own s nothing) (turned g)) ∙ ap (λ z. z && true) i
  at false g = absurd (no_some r g)

unary_even : (o : UnaryOperator) → is_even zero true (sym (unary_symbol o) (own an_expression nothing)) ≡ true
unary_even unary_operator.LogicalNegation = refl
unary_even unary_operator.Negation = refl
unary_even unary_operator.BitwiseComplement = refl
unary_even unary_operator.AddressOf = refl
unary_even unary_operator.Indirection = refl

binary_even : (o : BinaryOperator) → is_even zero true (own an_expression (sym (binary_symbol o) (own an_expression nothing))) ≡ true
binary_even binary_operator.ShortCircuitOr = refl
binary_even binary_operator.ShortCircuitAnd = refl
binary_even binary_operator.Addition = refl
binary_even binary_operator.Subtraction = refl
binary_even binary_operator.Multiplication = refl
binary_even binary_operator.Division = refl
binary_even binary_operator.Remainder = refl
binary_even binary_operator.Equality = refl
binary_even binary_operator.Inequality = refl
binary_even binary_operator.LessThan = refl
binary_even binary_operator.LessThanEqual = refl
binary_even binary_operator.GreaterThan = refl
binary_even binary_operator.GreaterThanEqual = refl
binary_even binary_operator.BitwiseOr = refl
binary_even binary_operator.BitwiseAnd = refl
binary_even binary_operator.BitwiseXor = refl
binary_even binary_operator.ShiftLeft = refl
binary_even binary_operator.ShiftRight = refl

rows_even : (s : Sort) (l : Label) (r : Row) → is_inner s ≡ true → row_of s l ≡ Some r → is_even zero true r ≡ true
rows_even a_bare_expression (unary o) r i h = ap (is_even zero true) (of_some r _ (turned h)) ∙ unary_even o
rows_even a_bare_expression (binary o) r i h = ap (is_even zero true) (of_some r _ (turned h)) ∙ binary_even o
rows_even a_bare_expression (kind k) r i h = at_rows (is_even zero true) (rows_of a_bare_expression) k r refl h
rows_even a_call (kind k) r i h = at_rows (is_even zero true) (rows_of a_call) k r refl h
rows_even a_type (kind k) r i h = at_rows (is_even zero true) (rows_of a_type) k r refl h
rows_even an_argument (kind k) r i h = at_rows (is_even zero true) (rows_of an_argument) k r refl h
rows_even an_expression (kind k) r i h = absurd (no_some r h)
rows_even an_expression (at k zero zero) r i h = spanned_even expression_node a_bare_expression k r refl h
rows_even an_expression l r i h = by l h where
  by : (l : Label) → row_of an_expression l ≡ Some r → is_even zero true r ≡ true
  by (kind k) h = absurd (no_some r h)
  by (at k zero zero) h = spanned_even expression_node a_bare_expression k r refl h
  by (at k zero (suc f)) h = absurd (no_some r h)
  by (at k (suc a) f) h = absurd (no_some r h)
  by l h = absurd (no_some r h)
rows_even a_bare_expression (at k zero zero) r i h = absurd (no_some r h)
rows_even a_bare_expression (at k zero (suc f)) r i h = absurd (no_some r h)
rows_even a_bare_expression (at k (suc a) f) r i h = absurd (no_some r h)
rows_even a_bare_expression l r i h = absurd (no_some r h)
rows_even a_call (at k zero zero) r i h = absurd (no_some r h)
rows_even a_call (at k zero (suc f)) r i h = absurd (no_some r h)
rows_even a_call (at k (suc a) f) r i h = absurd (no_some r h)
rows_even a_call l r i h = absurd (no_some r h)
rows_even a_type (at k zero zero) r i h = absurd (no_some r h)
rows_even a_type (at k zero (suc f)) r i h = absurd (no_some r h)
rows_even a_type (at k (suc a) f) r i h = absurd (no_some r h)
rows_even a_type l r i h = absurd (no_some r h)
rows_even an_argument (at k zero zero) r i h = absurd (no_some r h)
rows_even an_argument (at k zero (suc f)) r i h = absurd (no_some r h)
rows_even an_argument (at k (suc a) f) r i h = absurd (no_some r h)
rows_even an_argument l r i h = absurd (no_some r h)
rows_even s l r i h = absurd (no_true i)

attributes_even : (l : Label) (r : Row) → row_of a_bare_attribute l ≡ Some r → is_even zero false r ≡ true
attributes_even (kind k) r h = at_rows (is_even zero false) (rows_of a_bare_attribute) k r refl h
attributes_even (at k zero zero) r h = absurd (no_some r h)
attributes_even (at k zero (suc f)) r h = absurd (no_some r h)
attributes_even (at k (suc a) f) r h = absurd (no_some r h)
attributes_even l r h = absurd (no_some r h)

-- ---- trees

within_is : (r : ℕ) (b : Bool) (n : ℕ) → is_within r b ≡ true → (m : ℕ) × (suc m ≡ depth_of r b n)
within_is zero true n h = (n, refl)
within_is zero false n h = absurd (no_true h)
within_is (suc r) b n h = (depth_of r b n, refl)

sign_step : (s : Symbol) (c : Slots) (row : Row) (r : ℕ) (b : Bool) (n : ℕ) → ((r : ℕ) → even row r b ≡ true → SlotsPass (depth_of r b n) (depth_of zero b n) c) → even (sym s row) r b ≡ true → SlotsPass (depth_of r b n) (depth_of zero b n) (followed (Some (signed s ∷ [])) c)
sign_step s c row zero b n k h = by (is_opening s) refl h where
  leveled : (b : Bool) → (if b then are_level 1 (token_bits (symbol s)) else are_level 0 (token_bits (symbol s))) ≡ true → are_level (depth_of zero b n) (token_bits (symbol s)) ≡ true
  leveled true h = level_more (token_bits (symbol s)) n h
  leveled false h = h

  not_so : (z : Bool) → not z ≡ true → z ≡ false
  not_so true h = absurd (no_true h)
  not_so false h = refl

  by : (z : Bool) → is_opening s ≡ z → (if z then even row 1 b else not (is_closing s) && ((if b then are_level 1 (token_bits (symbol s)) else are_level 0 (token_bits (symbol s))) && even row zero b)) ≡ true → SlotsPass (depth_of zero b n) (depth_of zero b n) (followed (Some (signed s ∷ [])) c)
  by true e h = followed_pass (Some (signed s ∷ [])) c (depth_of zero b n) (suc (depth_of zero b n)) (depth_of zero b n) (must_pass (symbol s) (depth_of zero b n) (suc (depth_of zero b n)) (opening_after s (depth_of zero b n) e)) (k 1 h)
  by false e h =
      let x : (not (is_closing s) ≡ true) × (((if b then are_level 1 (token_bits (symbol s)) else are_level 0 (token_bits (symbol s))) && even row zero b) ≡ true) = and_parts (not (is_closing s)) ((if b then are_level 1 (token_bits (symbol s)) else are_level 0 (token_bits (symbol s))) && even row zero b) h in
      let y : ((if b then are_level 1 (token_bits (symbol s)) else are_level 0 (token_bits (symbol s))) ≡ true) × (even row zero b ≡ true) = and_parts (if b then are_level 1 (token_bits (symbol s)) else are_level 0 (token_bits (symbol s))) (even row zero b) x.1 in
      followed_pass (Some (signed s ∷ [])) c (depth_of zero b n) (depth_of zero b n) (depth_of zero b n) (must_pass (symbol s) (depth_of zero b n) (depth_of zero b n) (other_after s (depth_of zero b n) e (not_so (is_closing s) x.0) (leveled b y.0))) (k zero y.1)
sign_step s c row (suc r) b n k h = by (is_opening s) refl (is_closing s) refl h where
  d : ℕ
  d = depth_of r b n

  by : (z : Bool) → is_opening s ≡ z → (w : Bool) → is_closing s ≡ w → (if z then even row (suc (suc r)) b else if w then even row r b else are_level 1 (token_bits (symbol s)) && even row (suc r) b) ≡ true → SlotsPass (suc d) (depth_of zero b n) (followed (Some (signed s ∷ [])) c)
  by true e w g h = followed_pass (Some (signed s ∷ [])) c (suc d) (suc (suc d)) (depth_of zero b n) (must_pass (symbol s) (suc d) (suc (suc d)) (opening_after s (suc d) e)) (k (suc (suc r)) h)
  by false e true g h = followed_pass (Some (signed s ∷ [])) c (suc d) d (depth_of zero b n) (must_pass (symbol s) (suc d) d (closing_after s d g)) (k r h)
  by false e false g h =
      let x : (are_level 1 (token_bits (symbol s)) ≡ true) × (even row (suc r) b ≡ true) = and_parts (are_level 1 (token_bits (symbol s))) (even row (suc r) b) h in
      followed_pass (Some (signed s ∷ [])) c (suc d) (suc d) (depth_of zero b n) (must_pass (symbol s) (suc d) (suc d) (other_after s (suc d) e g (level_more (token_bits (symbol s)) d x.0))) (k (suc r) x.1)

comma_step : (s : Symbol) (c : Slots) (n m : ℕ) → is_comma (symbol s) ≡ true → SlotsPass n m c → SlotsPass n m (followed (Some (may (symbol s) ∷ [])) c)
comma_step s c n m e p = followed_pass (Some (may (symbol s) ∷ [])) c n n m (λ rest h. ap (λ z. z && is_braced n rest) e ∙ h) p

-- a bracket of a list, in parentheses
list_step : (t : Token) (c : Slots) (d m : ℕ) → ((n : ℕ) → after t (suc n) ≡ Some (suc n)) → ((n : ℕ) × (suc n ≡ d)) → SlotsPass d m c → SlotsPass d m (followed (Some (must t ∷ [])) c)
list_step t c d m e x p = followed_pass (Some (must t ∷ [])) c d d m (must_pass t d d (subst (λ z. after t z ≡ Some z) x.1 (e x.0))) p

abbrev EvenRows : Forest → Type 0
EvenRows f = (row : Row) (r : ℕ) (b : Bool) (n : ℕ) → even row r b ≡ true → SlotsPass (depth_of r b n) (depth_of zero b n) ((spells f).row row)

abbrev FirstEven : Forest → Type 0
FirstEven f = (s : Sort) → is_inner s ≡ true → (n : ℕ) → SlotsPass (suc n) (suc n) ((spells f).first s)

abbrev SeparateEven : Forest → Type 0
SeparateEven f = (s : Sort) → is_inner s ≡ true → (n : ℕ) → SlotsPass (suc n) (suc n) ((spells f).separate s)

name_step : (w : Text) (c : Slots) (n m : ℕ) → SlotsPass n m c → SlotsPass n m (followed (Some (named w ∷ [])) c)
name_step w c n m p = followed_pass (Some (named w ∷ [])) c n n m (name_pass w n) p

none_even : EvenRows end
none_even nothing zero b n h = λ rest g. g
none_even nothing (suc r) b n h = absurd (no_true h)
none_even (sym s row) r b n h = sign_step s (row_of_none row) row r b n (λ q g. none_even row q b n g) h
none_even (may_sym s row) r b n h = let x : (is_comma (symbol s) ≡ true) × (even row r b ≡ true) = and_parts (is_comma (symbol s)) (even row r b) h in comma_step s (row_of_none row) (depth_of r b n) (depth_of zero b n) x.0 (none_even row r b n x.1)
none_even (says w row) r b n h = name_step w (row_of_none row) (depth_of r b n) (depth_of zero b n) (none_even row r b n h)
none_even (opens row) r b n h = let x : (is_within r b ≡ true) × (even row r b ≡ true) = and_parts (is_within r b) (even row r b) h in list_step open_list (row_of_none row) (depth_of r b n) (depth_of zero b n) (λ m. refl) (within_is r b n x.0) (none_even row r b n x.1)
none_even (closes row) r b n h = let x : (is_within r b ≡ true) × (even row r b ≡ true) = and_parts (is_within r b) (even row r b) h in list_step close_list (row_of_none row) (depth_of r b n) (depth_of zero b n) (λ m. refl) (within_is r b n x.0) (none_even row r b n x.1)
none_even row r b n h = tt

node_pass : (s : Sort) (l : Label) (c : Forest) (n m : ℕ) → ((r : Row) → row_of s l ≡ Some r → SlotsPass n m ((spells c).row r)) → SlotsPass n m (first_slots l c (spells c) s)
node_pass s l c n m f = by (row_of s l) f where
  by : (o : Option Row) → ((r : Row) → o ≡ Some r → SlotsPass n m ((spells c).row r)) → SlotsPass n m (option_and_then (λ r. if fits l c && stands_as s l c then (spells c).row r else None) o)
  by None f = tt
  by (Some r) f = either_is (SlotsPass n m) (fits l c && stands_as s l c) ((spells c).row r) None (f r refl) tt

-- what comes in parentheses, at the depth that is there
at_within : (a : Slots) (r : ℕ) (b : Bool) (n : ℕ) → is_within r b ≡ true → ((m : ℕ) → SlotsPass (suc m) (suc m) a) → SlotsPass (depth_of r b n) (depth_of r b n) a
at_within a r b n h f = let x : (m : ℕ) × (suc m ≡ depth_of r b n) = within_is r b n h in subst (λ z. SlotsPass z z a) x.1 (f x.0)

trailing_slots : (a : Slots) (n : ℕ) → SlotsPass n n a → SlotsPass n n (option_map trailing a)
trailing_slots None n p = tt
trailing_slots (Some ss) n p = trailing_pass ss n n p

module _ (l : Label) (c o : Forest) (below : EvenRows c) (list : SeparateEven c) (later : EvenRows o) (others : SeparateEven o) where
  first_even : FirstEven (tree l c o)
  first_even s i n = node_pass s l c (suc n) (suc n) (λ r e. below r zero true n (rows_even s l r i e))

  separate_even : SeparateEven (tree l c o)
  separate_even s i n = by o (others s i n) where
    comma : (a : Slots) → SlotsPass (suc n) (suc n) a → SlotsPass (suc n) (suc n) (option_map (λ ss. signed is.Comma ∷ ss) a)
    comma None p = tt
    comma (Some ss) p = joined_pass (signed is.Comma ∷ []) ss (suc n) (suc n) (suc n) (sign_pass is.Comma comma_easy (suc n)) p

    by : (o : Forest) → SlotsPass (suc n) (suc n) ((spells o).separate s) → SlotsPass (suc n) (suc n) (with_comma (first_slots l c (spells c) s) o ((spells o).separate s))
    by end p = first_even s i n
    by (tree m d q) p = followed_pass (first_slots l c (spells c) s) (option_map (λ ss. signed is.Comma ∷ ss) ((spells (tree m d q)).separate s)) (suc n) (suc n) (suc n) (first_even s i n) (comma ((spells (tree m d q)).separate s) p)

  tree_even : EvenRows (tree l c o)
  tree_even nothing r b n h = tt
  tree_even (sym s row) r b n h = sign_step s (row_slots l c o (spells c) (spells o) row) row r b n (λ q g. tree_even row q b n g) h
  tree_even (may_sym s row) r b n h = let x : (is_comma (symbol s) ≡ true) × (even row r b ≡ true) = and_parts (is_comma (symbol s)) (even row r b) h in comma_step s (row_slots l c o (spells c) (spells o) row) (depth_of r b n) (depth_of zero b n) x.0 (tree_even row r b n x.1)
  tree_even (says w row) r b n h = name_step w (row_slots l c o (spells c) (spells o) row) (depth_of r b n) (depth_of zero b n) (tree_even row r b n h)
  tree_even (opens row) r b n h = let x : (is_within r b ≡ true) × (even row r b ≡ true) = and_parts (is_within r b) (even row r b) h in list_step open_list (row_slots l c o (spells c) (spells o) row) (depth_of r b n) (depth_of zero b n) (λ m. refl) (within_is r b n x.0) (tree_even row r b n x.1)
  tree_even (closes row) r b n h = let x : (is_within r b ≡ true) × (even row r b ≡ true) = and_parts (is_within r b) (even row r b) h in list_step close_list (row_slots l c o (spells c) (spells o) row) (depth_of r b n) (depth_of zero b n) (λ m. refl) (within_is r b n x.0) (tree_even row r b n x.1)
  tree_even (own s row) r b n h =
      let x : (is_inner s ≡ true) × ((is_within r b && even row r b) ≡ true) = and_parts (is_inner s) (is_within r b && even row r b) h in
      let y : (is_within r b ≡ true) × (even row r b ≡ true) = and_parts (is_within r b) (even row r b) x.1 in
      followed_pass (first_slots l c (spells c) s) ((spells o).row row) (depth_of r b n) (depth_of r b n) (depth_of zero b n) (at_within (first_slots l c (spells c) s) r b n y.0 (first_even s x.0)) (later row r b n y.1)
  tree_even (leaf f row) r b n h = either_is (SlotsPass (depth_of r b n) (depth_of zero b n)) (is_end c) (followed (leaf_slots f l o) ((spells o).row row)) None
      (followed_pass (leaf_slots f l o) ((spells o).row row) (depth_of r b n) (depth_of r b n) (depth_of zero b n) (leaf_pass f l o (depth_of r b n)) (later row r b n h)) tt
  tree_even (commas k s row) r b n h =
      let x : (is_inner s ≡ true) × ((is_within r b && even row r b) ≡ true) = and_parts (is_inner s) (is_within r b && even row r b) h in
      let y : (is_within r b ≡ true) × (even row r b ≡ true) = and_parts (is_within r b) (even row r b) x.1 in
      either_is (SlotsPass (depth_of r b n) (depth_of zero b n)) (is_kind k (Some l)) (followed (option_map trailing ((spells c).separate s)) ((spells o).row row)) None
      (followed_pass (option_map trailing ((spells c).separate s)) ((spells o).row row) (depth_of r b n) (depth_of r b n) (depth_of zero b n)
      (trailing_slots ((spells c).separate s) (depth_of r b n) (at_within ((spells c).separate s) r b n y.0 (list s x.0))) (later row r b n y.1)) tt
  tree_even (optional ins row) r b n h =
      let x : (even ins zero (is_within r b) ≡ true) × (even row r b ≡ true) = and_parts (even ins zero (is_within r b)) (even row r b) h in
      either_is (SlotsPass (depth_of r b n) (depth_of zero b n)) (is_kind absent (Some l) && is_end c) ((spells o).row row) (if is_kind present (Some l) then followed ((spells c).row ins) ((spells o).row row) else None) (later row r b n x.1)
      (either_is (SlotsPass (depth_of r b n) (depth_of zero b n)) (is_kind present (Some l)) (followed ((spells c).row ins) ((spells o).row row)) None
      (followed_pass ((spells c).row ins) ((spells o).row row) (depth_of r b n) (depth_of r b n) (depth_of zero b n) (inner r x.0) (later row r b n x.1)) tt) where
        inner : (r : ℕ) → even ins zero (is_within r b) ≡ true → SlotsPass (depth_of r b n) (depth_of r b n) ((spells c).row ins)
        inner zero h = below ins zero b n h
        inner (suc r) h = below ins zero true (depth_of r b n) h
  tree_even row r b n h = absurd (no_true h)

all_even : (f : Forest) → EvenRows f × SeparateEven f
all_even end = (none_even, λ s i n rest h. h)
all_even (tree l c o) = by (all_even c) (all_even o) where
  by : EvenRows c × SeparateEven c → EvenRows o × SeparateEven o → EvenRows (tree l c o) × SeparateEven (tree l c o)
  by x y = (tree_even l c o x.0 x.1 y.0 y.1, separate_even l c o x.0 x.1 y.0 y.1)

-- ---- bodies

attribute_row : (l : Label) (r : Row) → row_of an_attribute l ≡ Some r → own a_bare_attribute nothing ≡ r
attribute_row (at k zero zero) r h = by (same_kind attribute_node k) h where
  by : (b : Bool) → (if b then Some (own a_bare_attribute nothing) else None) ≡ Some r → own a_bare_attribute nothing ≡ r
  by true g = of_some (own a_bare_attribute nothing) r g
  by false g = absurd (no_some r g)
attribute_row (at k zero (suc f)) r h = absurd (no_some r h)
attribute_row (at k (suc a) f) r h = absurd (no_some r h)
attribute_row (kind k) r h = absurd (no_some r h)
attribute_row l r h = absurd (no_some r h)

attribute_pass : (l : Label) (c : Forest) → SlotsPass 0 0 (first_slots l c (spells c) an_attribute)
attribute_pass l c = node_pass an_attribute l c 0 0 (λ r e. subst (λ z. SlotsPass 0 0 ((spells c).row z)) (attribute_row l r e) (bare c)) where
  behind : (o : Forest) → SlotsPass 0 0 ((spells o).row nothing)
  behind end = λ rest h. h
  behind (tree l c o) = tt

  bare : (c : Forest) → SlotsPass 0 0 ((spells c).row (own a_bare_attribute nothing))
  bare end = tt
  bare (tree m d o) = followed_pass (first_slots m d (spells d) a_bare_attribute) ((spells o).row nothing) 0 0 0 (node_pass a_bare_attribute m d 0 0 (λ r e. (all_even d).0 r zero false 0 (attributes_even m r e))) (behind o)

attributes_pass : (f : Forest) → SlotsPass 0 0 ((spells f).all an_attribute)
attributes_pass end = λ rest h. h
attributes_pass (tree l c o) = followed_pass (first_slots l c (spells c) an_attribute) ((spells o).all an_attribute) 0 0 0 (attribute_pass l c) (attributes_pass o)

passed_braced : (a b : Slots) → SlotsPass 0 0 a → braced b ≡ true → braced (followed a b) ≡ true
passed_braced None b p h = refl
passed_braced (Some ss) None p h = refl
passed_braced (Some ss) (Some us) p h = p us h

pub braced_followed : (a b : Slots) → braced a ≡ true → braced (followed a b) ≡ true
braced_followed None b h = refl
braced_followed (Some ss) None h = refl
braced_followed (Some ss) (Some us) h = braced_joined ss us 0 h

abbrev behind_brace : Row
behind_brace = run statements a_statement (sym is.BraceRight nothing)

brace_first : (f : Forest) → braced ((spells f).row (sym is.BraceLeft behind_brace)) ≡ true
brace_first end = refl
brace_first (tree l c o) = by (row_slots l c o (spells c) (spells o) behind_brace) where
  by : (b : Slots) → braced (followed (Some (signed is.BraceLeft ∷ [])) b) ≡ true
  by None = refl
  by (Some us) = refl

body_row_braced : (c : Forest) → braced ((spells c).row (attrs (sym is.BraceLeft behind_brace))) ≡ true
body_row_braced end = refl
body_row_braced (tree l c o) = of_either braced (is_kind attributes (Some l)) (followed ((spells c).all an_attribute) ((spells o).row (sym is.BraceLeft behind_brace))) None
    (passed_braced ((spells c).all an_attribute) ((spells o).row (sym is.BraceLeft behind_brace)) (attributes_pass c) (brace_first o)) refl

pub body_braced : (l : Label) (c : Forest) → braced (first_slots l c (spells c) a_body) ≡ true
body_braced l c = of_node braced a_body l c refl (λ r e. by l r e) where
  by : (l : Label) (r : Row) → row_of a_body l ≡ Some r → braced ((spells c).row r) ≡ true
  by (kind k) r e = ap (λ z. braced ((spells c).row z)) (turned (only_row compound (attrs (sym is.BraceLeft behind_brace)) k r e).1) ∙ body_row_braced c
  by (at k zero zero) r e = absurd (no_some r e)
  by (at k zero (suc f)) r e = absurd (no_some r e)
  by (at k (suc a) f) r e = absurd (no_some r e)
  by l r e = absurd (no_some r e)
