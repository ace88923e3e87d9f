-- What is known of template lists is the same where the tokens of a text stand apart.
use Rattle.std.proofs.Common.{◌≡◌, ◌⊎◌, ℕ, suc, ◌-◌, Bool, true, false, not, ◌&&◌, ◌||◌, ◌==◌, if◌then◌else◌, List, [], ◌∷◌, ◌++◌, refl, sym as turned, inl, inr, ap, ◌∙◌, subst, codes, bytes_eq, arith}
use Rattle.wesl_tree_names.specs.Path.{Text}
use Rattle.wesl_text_tokens.specs.Characters.{is_one_of, is_doubled}
use Rattle.wesl_text_tokens.specs.Symbols.{symbol_text}
use Rattle.wesl_text_tokens.specs.Pieces.{What, a_name, a_number, a_sign, Bit}
use Rattle.wesl_text_tokens.specs.Brackets.{Known, outside, sign_behind, at_greater, at_less, at_sign, at_what, known_behind, known_from}
use Rattle.wesl_text_tokens.specs.Tokens.{Token, name, number, symbol, open_list, close_list}
use Rattle.wesl_text_form.specs.Says.{sign_bit, sign_bits, token_bits, bits_apart}
use Rattle.wesl_text_reading.proofs.Filled.{no_true}
use Rattle.wesl_text_writable.proofs.Fresh.{Before, LacksClosed, before_step, passed_open}
use Rattle.wesl_text_writable.proofs.Grouped.{glue, number_behind, is_plain_text, is_there, bits_there, plain_symbol, IsBracketed, Grouped}
use Rattle.std.proofs.lemmas.Bool.{and_parts, or_parts}

-- ---- which tokens may stand side by side

-- whether what a piece does depends on the sign behind it
abbrev is_touchy : What → Bool
is_touchy (a_sign t) = bytes_eq t (codes "<") || (bytes_eq t (codes ">") || (bytes_eq t (codes "!") || bytes_eq t (codes "=")))
is_touchy w = false

-- whether it is a sign on which it depends
abbrev pub is_mark : What → Bool
is_mark (a_sign t) = bytes_eq t (codes "<") || bytes_eq t (codes "=")
is_mark w = false

abbrev last_is_touchy : List Bit → Bool
last_is_touchy [] = false
last_is_touchy (b ∷ []) = is_touchy b.what
last_is_touchy (b ∷ c ∷ cs) = last_is_touchy (c ∷ cs)

abbrev pub first_is_mark : List Bit → Bool
first_is_mark [] = false
first_is_mark (b ∷ bs) = is_mark b.what

-- whether a token ends so: the bracket that closes a list does not, since it closes it whatever comes behind
abbrev pub touches : Token → Bool
touches close_list = false
touches t = last_is_touchy (token_bits t)

-- whether one begins with such a sign
abbrev pub marks : Token → Bool
marks t = first_is_mark (token_bits t)

-- no two tokens of which one depends on the other
abbrev pub are_quiet : List Token → Bool
are_quiet [] = true
are_quiet (t ∷ []) = true
are_quiet (t ∷ u ∷ ts) = not (touches t && marks u) && are_quiet (u ∷ ts)

-- ---- what is known behind a piece, by the sign behind it

-- at a sign, by what it is and what comes behind
abbrev at_by : ℕ → Bool → Text → Known → Bool → Bool → Bool → Bool → Bool → Bool → Known
at_by i b s k c1 c2 c3 c4 x y =
    if c1 then at_less i b x y k
    else if c2 then at_greater i y k k.pending
    else if bytes_eq s (codes "(") || bytes_eq s (codes "[") then record k { depth = suc k.depth }
    else if bytes_eq s (codes ")") || bytes_eq s (codes "]") then record k { pending = outside k.depth k.pending; depth = k.depth - 1 }
    else if (c3 || c4) && y then record k { is_passed = true }
    else if bytes_eq s (codes "&&") || bytes_eq s (codes "||") then record k { pending = outside k.depth k.pending }
    else if c4 || bytes_eq s (codes ";") || bytes_eq s (codes "{") || bytes_eq s (codes ":") then record k { pending = []; depth = 0 }
    else k

quiet_sign : (i : ℕ) (b : Bool) (s next : Text) (k : Known) → is_touchy (a_sign s) ≡ false → at_sign i b s next k ≡ at_sign i b s [] k
quiet_sign i b s next k e = plain (bytes_eq next (codes "<")) (bytes_eq next (codes "=")) ∙ turned (plain false false) where
  a : (bytes_eq s (codes "<") ≡ false) × ((bytes_eq s (codes ">") || (bytes_eq s (codes "!") || bytes_eq s (codes "="))) ≡ false)
  a = or_parts (bytes_eq s (codes "<")) (bytes_eq s (codes ">") || (bytes_eq s (codes "!") || bytes_eq s (codes "="))) e

  c : (bytes_eq s (codes ">") ≡ false) × ((bytes_eq s (codes "!") || bytes_eq s (codes "=")) ≡ false)
  c = or_parts (bytes_eq s (codes ">")) (bytes_eq s (codes "!") || bytes_eq s (codes "=")) a.1

  d : (bytes_eq s (codes "!") ≡ false) × (bytes_eq s (codes "=") ≡ false)
  d = or_parts (bytes_eq s (codes "!")) (bytes_eq s (codes "=")) c.1

  plain : (x y : Bool) → at_by i b s k (bytes_eq s (codes "<")) (bytes_eq s (codes ">")) (bytes_eq s (codes "!")) (bytes_eq s (codes "=")) x y ≡ at_by i b s k false false false false false false
  plain x y =
      ap (λ z. at_by i b s k z (bytes_eq s (codes ">")) (bytes_eq s (codes "!")) (bytes_eq s (codes "=")) x y) a.0
      ∙ (ap (λ z. at_by i b s k false z (bytes_eq s (codes "!")) (bytes_eq s (codes "=")) x y) c.0
      ∙ (ap (λ z. at_by i b s k false false z (bytes_eq s (codes "=")) x y) d.0 ∙ ap (λ z. at_by i b s k false false false z x y) d.1))

-- no sign on which anything depends
abbrev Plain : Text → Type 0
Plain next = (bytes_eq next (codes "<") ≡ false) × (bytes_eq next (codes "=") ≡ false)

plain_sign : (i : ℕ) (b : Bool) (s next : Text) (k : Known) → Plain next → at_sign i b s next k ≡ at_sign i b s [] k
plain_sign i b s next k p =
    ap (λ z. at_by i b s k (bytes_eq s (codes "<")) (bytes_eq s (codes ">")) (bytes_eq s (codes "!")) (bytes_eq s (codes "=")) z (bytes_eq next (codes "="))) p.0
    ∙ ap (λ z. at_by i b s k (bytes_eq s (codes "<")) (bytes_eq s (codes ">")) (bytes_eq s (codes "!")) (bytes_eq s (codes "=")) false z) p.1

-- a piece does the same before a sign as before none
abbrev DoesSame : What → Text → Type 0
DoesSame w next = (i : ℕ) (k : Known) → known_behind i w next k ≡ known_behind i w [] k

what_same : (w : What) (next : Text) → ((s : Text) → w ≡ a_sign s → (i : ℕ) (b : Bool) (k : Known) → at_sign i b s next k ≡ at_sign i b s [] k) → DoesSame w next
what_same w next h i k = ap (λ z. if k.is_passed then record k { is_passed = false; behind_name = false } else z) (by w h) where
  by : (w : What) → ((s : Text) → w ≡ a_sign s → (i : ℕ) (b : Bool) (k : Known) → at_sign i b s next k ≡ at_sign i b s [] k) → at_what i w next k ≡ at_what i w [] k
  by (a_name t) h = refl
  by (a_number t) h = refl
  by (a_sign t) h = h t refl i k.behind_name (record k { behind_name = false })

abbrev LastSame : List Bit → Text → Type 0
LastSame [] next = Unit {0}
LastSame (b ∷ []) next = DoesSame b.what next
LastSame (b ∷ c ∷ cs) next = LastSame (c ∷ cs) next

quiet_last : (xs : List Bit) (next : Text) → last_is_touchy xs ≡ false → LastSame xs next
quiet_last [] next e = tt
quiet_last (b ∷ []) next e = what_same b.what next (λ s q i z k. quiet_sign i z s next k (turned (ap is_touchy q) ∙ e))
quiet_last (b ∷ c ∷ cs) next e = quiet_last (c ∷ cs) next e

plain_last : (xs : List Bit) (next : Text) → Plain next → LastSame xs next
plain_last [] next p = tt
plain_last (b ∷ []) next p = what_same b.what next (λ s q i z k. plain_sign i z s next k p)
plain_last (b ∷ c ∷ cs) next p = plain_last (c ∷ cs) next p

-- ---- pieces, and others behind them

known_joined : (xs rest : List Bit) (i : ℕ) (k : Known) → is_there xs ≡ true → LastSame xs (sign_behind rest) → known_from i k (xs ++ rest) ≡ known_from (number_behind i xs) (known_from i k xs) rest
known_joined [] rest i k h s = absurd (no_true h)
known_joined (b ∷ []) rest i k h s = ap (λ z. known_from (suc i) z rest) (s i k)
known_joined (b ∷ c ∷ cs) rest i k h s = known_joined (c ∷ cs) rest (suc i) (known_behind i b.what (sign_behind (c ∷ cs)) k) refl s

known_glued : (g : Bool) (xs rest : List Bit) (i : ℕ) (k : Known) → known_from i k (glue g xs ++ rest) ≡ known_from i k (xs ++ rest)
known_glued g [] rest i k = refl
known_glued g (b ∷ bs) rest i k = refl

pub before_joined : (xs : List Bit) (i : ℕ) (k : Known) → Before i k → Before (number_behind i xs) (known_from i k xs)
before_joined [] i k h = h
before_joined (b ∷ bs) i k h = before_joined bs (suc i) (known_behind i b.what (sign_behind bs) k) (before_step i b.what (sign_behind bs) k h)

pub token_there : (t : Token) → is_there (token_bits t) ≡ true
token_there (name t) = refl
token_there (number t) = refl
token_there (symbol s) = bits_there (symbol_text s) (plain_symbol s)
token_there open_list = refl
token_there close_list = refl

-- the first of tokens that stand apart stands behind nothing
sign_first : (t : Text) (rest : List Bit) → is_plain_text t ≡ true → sign_behind (sign_bits t ++ rest) ≡ []
sign_first [] rest h = absurd (no_true h)
sign_first (c ∷ []) rest h = refl
sign_first (c ∷ d ∷ []) rest h = by ((c == d) && is_doubled c) where
  by : (b : Bool) → sign_behind ((if b then sign_bit false (c ∷ d ∷ []) ∷ [] else sign_bit false (c ∷ []) ∷ sign_bit true (d ∷ []) ∷ []) ++ rest) ≡ []
  by true = refl
  by false = refl
sign_first (c ∷ d ∷ e ∷ t) rest h = refl

first_apart : (ts : List Token) → sign_behind (bits_apart ts) ≡ []
first_apart [] = refl
first_apart (name t ∷ ts) = refl
first_apart (number t ∷ ts) = refl
first_apart (symbol s ∷ ts) = sign_first (symbol_text s) (bits_apart ts) (plain_symbol s)
first_apart (open_list ∷ ts) = refl
first_apart (close_list ∷ ts) = refl

pub known_apart : (t : Token) (ts : List Token) (i : ℕ) (k : Known) → known_from i k (bits_apart (t ∷ ts)) ≡ known_from (number_behind i (token_bits t)) (known_from i k (token_bits t)) (bits_apart ts)
known_apart t ts i k = known_joined (token_bits t) (bits_apart ts) i k (token_there t) (by (token_bits t) (sign_behind (bits_apart ts)) (first_apart ts)) where
  by : (xs : List Bit) (next : Text) → next ≡ [] → LastSame xs next
  by xs next e = plain_last xs next (ap (λ z. bytes_eq z (codes "<")) e, ap (λ z. bytes_eq z (codes "=")) e)

-- the sign of a token that is no such sign
plain_next : (xs : List Bit) (g : Bool) (rest : List Bit) → is_there xs ≡ true → first_is_mark xs ≡ false → Plain (sign_behind (glue g xs ++ rest))
plain_next [] g rest h e = absurd (no_true h)
plain_next (b ∷ bs) g rest h e = by b.what e where
  either : (g : Bool) (t : Text) → Plain t → Plain (if g then t else [])
  either true t p = p
  either false t p = (refl, refl)

  by : (w : What) → is_mark w ≡ false → Plain (elim w as (λ _. Text) [ a_name t ↦ [] | a_number t ↦ [] | a_sign t ↦ if g then t else [] ])
  by (a_name t) e = (refl, refl)
  by (a_number t) e = (refl, refl)
  by (a_sign t) e = either g t (or_parts (bytes_eq t (codes "<")) (bytes_eq t (codes "=")) e)

-- ---- the bracket that closes a list

closes_same : (i : ℕ) (next : Text) (k : Known) → LacksClosed i k → (known_behind i (a_sign (codes ">")) next k ≡ known_behind i (a_sign (codes ">")) [] k) ⊎ LacksClosed i (known_behind i (a_sign (codes ">")) next k)
closes_same i next k h = by k.is_passed where
  there : Known
  there = record k { behind_name = false }

  greater : (ps : List (ℕ × ℕ)) (y : Bool) → (at_greater i y there ps ≡ at_greater i false there ps) ⊎ LacksClosed i (at_greater i y there ps)
  greater [] y = inr h
  greater (p ∷ ps) y = at (p.1 == k.depth) where
    closed : Known
    closed = record there { pending = ps; opened = p.0 ∷ k.opened; closed = i ∷ k.closed }

    at : (z : Bool) → ((if z then closed else record there { is_passed = y }) ≡ (if z then closed else record there { is_passed = false })) ⊎ LacksClosed i (if z then closed else record there { is_passed = y })
    at true = inl refl
    at false = inr h

  by : (z : Bool) → ((if z then record k { is_passed = false; behind_name = false } else at_what i (a_sign (codes ">")) next k) ≡ (if z then record k { is_passed = false; behind_name = false } else at_what i (a_sign (codes ">")) [] k))
      ⊎ LacksClosed i (if z then record k { is_passed = false; behind_name = false } else at_what i (a_sign (codes ">")) next k)
  by true = inl refl
  by false = greater k.pending (bytes_eq next (codes "="))

-- ---- all tokens

quiet_rest : (t : Token) (ts : List Token) → are_quiet (t ∷ ts) ≡ true → are_quiet ts ≡ true
quiet_rest t [] q = refl
quiet_rest t (u ∷ ts) q = (and_parts (not (touches t && marks u)) (are_quiet (u ∷ ts)) q).1

module _ (final : Known) where
  -- a token does the same before those that are quiet behind it
  token_same : (t : Token) (ts : List Token) (rest : List Bit) (i : ℕ) → Grouped final i ts rest → are_quiet (t ∷ ts) ≡ true → touches t ≡ last_is_touchy (token_bits t) → LastSame (token_bits t) (sign_behind rest)
  token_same t [] rest i x q e = plain_last (token_bits t) (sign_behind rest) (ap (λ z. bytes_eq (sign_behind z) (codes "<")) x, ap (λ z. bytes_eq (sign_behind z) (codes "=")) x)
  token_same t (u ∷ ts) rest i x q e = by (touches t) refl (marks u) refl (and_parts (not (touches t && marks u)) (are_quiet (u ∷ ts)) q).0 where
    by : (a : Bool) → touches t ≡ a → (b : Bool) → marks u ≡ b → not (touches t && marks u) ≡ true → LastSame (token_bits t) (sign_behind rest)
    by false h b g k = quiet_last (token_bits t) (sign_behind rest) (turned e ∙ h)
    by true h false g k = subst (λ z. LastSame (token_bits t) (sign_behind z)) (turned x.2) (plain_last (token_bits t) (sign_behind (glue x.0 (token_bits u) ++ x.1)) (plain_next (token_bits u) x.0 x.1 (token_there u) g))
    by true h true g k = absurd (no_true (turned (ap not (ap (λ z. z && marks u) h ∙ g)) ∙ k))

  -- the pieces of a token, and what comes behind them
  token_known : (t : Token) (ts : List Token) (g : Bool) (rest : List Bit) (i : ℕ) (k : Known) → Grouped final (number_behind i (token_bits t)) ts rest → IsBracketed final i t → are_quiet (t ∷ ts) ≡ true → Before i k → known_from i k (glue g (token_bits t) ++ rest) ≡ final
      → known_from (number_behind i (token_bits t)) (known_from i k (token_bits t)) rest ≡ final
  token_known close_list ts g rest i k x c q b e = by (closes_same i (sign_behind rest) k (b i (omega arith)).1) where
    by : (known_behind i (a_sign (codes ">")) (sign_behind rest) k ≡ known_behind i (a_sign (codes ">")) [] k) ⊎ LacksClosed i (known_behind i (a_sign (codes ">")) (sign_behind rest) k) → known_from (suc i) (known_behind i (a_sign (codes ">")) [] k) rest ≡ final
    by (inl s) = ap (λ z. known_from (suc i) z rest) (turned s) ∙ e
    by (inr l) = absurd (no_true (turned (passed_open rest i (suc i) (known_behind i (a_sign (codes ">")) (sign_behind rest) k) (omega arith) l) ∙ (ap (λ z. is_one_of z.closed i) e ∙ c.1)))
  token_known (name t) ts g rest i k x c q b e = turned (known_joined (token_bits (name t)) rest i k refl (token_same (name t) ts rest (number_behind i (token_bits (name t))) x q refl)) ∙ e
  token_known (number t) ts g rest i k x c q b e = turned (known_joined (token_bits (number t)) rest i k refl (token_same (number t) ts rest (number_behind i (token_bits (number t))) x q refl)) ∙ e
  token_known (symbol s) ts g rest i k x c q b e =
      turned (known_glued g (token_bits (symbol s)) rest i k ∙ known_joined (token_bits (symbol s)) rest i k (token_there (symbol s)) (token_same (symbol s) ts rest (number_behind i (token_bits (symbol s))) x q refl)) ∙ e
  token_known open_list ts g rest i k x c q b e = turned (known_joined (token_bits open_list) rest i k refl (token_same open_list ts rest (number_behind i (token_bits open_list)) x q refl)) ∙ e

  pub apart_from : (ts : List Token) (bs : List Bit) (i : ℕ) (k : Known) → Grouped final i ts bs → are_quiet ts ≡ true → Before i k → known_from i k bs ≡ final → known_from i k (bits_apart ts) ≡ final
  apart_from [] bs i k x q b e = turned (ap (known_from i k) x) ∙ e
  apart_from (t ∷ ts) bs i k x q b e =
      known_apart t ts i k
      ∙ apart_from ts x.1 (number_behind i (token_bits t)) (known_from i k (token_bits t)) x.4 (quiet_rest t ts q) (before_joined (token_bits t) i k b)
      (token_known t ts x.0 x.1 i k x.4 x.3 q b (ap (known_from i k) (turned x.2) ∙ e))
