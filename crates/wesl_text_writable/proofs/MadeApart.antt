-- Tokens that stand apart are made again where the brackets of lists are known as theirs.
use Rattle.std.proofs.Common.{◌≡◌, ℕ, suc, Bool, true, false, ◌&&◌, ◌==◌, if◌then◌else◌, List, [], ◌∷◌, ◌++◌, Option, Some, None, option_map, is_some, Result, Ok, Err, refl, sym as turned, ap, ◌∙◌, subst, append_assoc, codes}
use Rattle.std.specs.Str.{chars}
use Rattle.std.specs.Result.{result_ok}
use Rattle.wesl_tree_names.specs.Path.{Text}
use Rattle.wesl_text_tokens.specs.declared.symbol.Symbol.{Symbol}
use Rattle.wesl_text_tokens.specs.Characters.{is_one_of, is_doubled}
use Rattle.wesl_text_tokens.specs.Symbols.{symbol_of, symbol_text}
use Rattle.wesl_text_tokens.specs.Pieces.{Piece, Bit, Fault, gap, read_from, bits_of}
use Rattle.wesl_text_tokens.specs.Brackets.{Known, nothing_known, brackets}
use Rattle.wesl_text_tokens.specs.Tokens.{Token, name, number, symbol, open_list, close_list, Made, Held, let_go, joins, more, Joined, behind, made_from, tokens_of_bits, tokens}
use Rattle.wesl_text_form.specs.Says.{sign_bit, sign_bits, token_bits, bits_apart}
use Rattle.wesl_text_tokens.proofs.SymbolTexts.{each, symbol_of_text}
use Rattle.wesl_text_reading.proofs.Filled.{no_some, of_some, no_true}
use Rattle.wesl_text_writable.proofs.Signs.{pieces_fit}
use Rattle.wesl_text_writable.proofs.Grouped.{number_behind, tokens_made, is_plain_text, plain_symbol, NoBrackets, IsBracketed, Grouped, grouped}
use Rattle.wesl_text_writable.proofs.KnownApart.{are_quiet, apart_from}

made_joined : (ms ns : List Made) → tokens_made (ms ++ ns) ≡ tokens_made ms ++ tokens_made ns
made_joined [] ns = refl
made_joined (m ∷ ms) ns = ap (λ z. m.token ∷ z) (made_joined ms ns)

-- whether the first two signs of a text are a symbol
abbrev begins_symbol : Text → Bool
begins_symbol (c ∷ d ∷ e ∷ t) = is_some (symbol_of (c ∷ d ∷ []))
begins_symbol t = true

first_two : (s : Symbol) → begins_symbol (symbol_text s) ≡ true
first_two s = each (λ z. begins_symbol (symbol_text z)) refl s

-- a symbol that is held is let go as itself
let_go_is : (s : Symbol) (h : Held) → symbol_text s ≡ h.text → tokens_made (let_go (Some h)) ≡ symbol s ∷ []
let_go_is s h e = ap (λ o. tokens_made (elim o as (λ _. List Made) [ None ↦ [] | Some s ↦ record { token = symbol s; count = h.count } ∷ [] ])) (ap symbol_of (turned e) ∙ symbol_of_text s)

module _ (final : Known) where
  -- each token is bracketed as is known
  abbrev pub AllBracketed : ℕ → List Token → Type 0
  AllBracketed i [] = Unit {0}
  AllBracketed i (t ∷ ts) = IsBracketed final i t × AllBracketed (number_behind i (token_bits t)) ts

  grouped_bracketed : (ts : List Token) (bs : List Bit) (i : ℕ) → Grouped final i ts bs → AllBracketed i ts
  grouped_bracketed [] bs i x = tt
  grouped_bracketed (t ∷ ts) bs i x = (x.3, grouped_bracketed ts x.1 (number_behind i (token_bits t)) x.4)

  -- a sign that begins a symbol, and one that goes on with it
  first_sign : (t : Text) (i : ℕ) (h : Option Held) (rest : List Bit) → is_one_of final.opened i ≡ false → is_one_of final.closed i ≡ false
      → tokens_made (made_from i final h (sign_bit false t ∷ rest)) ≡ tokens_made (let_go h) ++ tokens_made (made_from (suc i) final (Some (record { text = t; count = 1 })) rest)
  first_sign t i h rest q r = by h where
    made_by : Bool → Bool → Option Held → List Made
    made_by o c h = let j : Joined = if o then behind h open_list else if c then behind h close_list else if joins h t false then record { done = []; held = more h t } else record { done = let_go h; held = more None t } in j.done ++ made_from (suc i) final j.held rest

    by : (h : Option Held) → tokens_made (made_from i final h (sign_bit false t ∷ rest)) ≡ tokens_made (let_go h) ++ tokens_made (made_from (suc i) final (Some (record { text = t; count = 1 })) rest)
    by None = ap (λ z. tokens_made (made_by z (is_one_of final.closed i) None)) q ∙ ap (λ z. tokens_made (made_by false z None)) r
    by (Some x) = ap (λ z. tokens_made (made_by z (is_one_of final.closed i) (Some x))) q ∙ (ap (λ z. tokens_made (made_by false z (Some x))) r ∙ made_joined (let_go (Some x)) (made_from (suc i) final (Some (record { text = t; count = 1 })) rest))

  next_sign : (t : Text) (i : ℕ) (h : Held) (rest : List Bit) → is_one_of final.opened i ≡ false → is_one_of final.closed i ≡ false → is_some (symbol_of (h.text ++ t)) ≡ true
      → made_from i final (Some h) (sign_bit true t ∷ rest) ≡ made_from (suc i) final (more (Some h) t) rest
  next_sign t i h rest q r e = ap (λ z. made_by z (is_one_of final.closed i) (is_some (symbol_of (h.text ++ t)))) q ∙ (ap (λ z. made_by false z (is_some (symbol_of (h.text ++ t)))) r ∙ ap (λ z. made_by false false z) e) where
    made_by : Bool → Bool → Bool → List Made
    made_by o c b = let j : Joined = if o then behind (Some h) open_list else if c then behind (Some h) close_list else if b then record { done = []; held = more (Some h) t } else record { done = let_go (Some h); held = more None t } in j.done ++ made_from (suc i) final j.held rest

  -- tokens behind others
  abbrev Again : List Token → ℕ → List Bit → Type 0
  Again ts i rest = (h : Option Held) → tokens_made (made_from i final h rest) ≡ tokens_made (let_go h) ++ ts

  -- what is held when all its signs have been read
  held_all : (s : Symbol) (ts : List Token) (i : ℕ) (rest : List Bit) (h : Held) → symbol_text s ≡ h.text → Again ts i rest → tokens_made (made_from i final (Some h) rest) ≡ symbol s ∷ ts
  held_all s ts i rest h e k = k (Some h) ∙ ap (λ z. z ++ ts) (let_go_is s h e)

  symbol_again : (s : Symbol) (t : Text) → symbol_text s ≡ t → (ts : List Token) (rest : List Bit) (i : ℕ) (h : Option Held) → NoBrackets final i (sign_bits t) → Again ts (number_behind i (sign_bits t)) rest
      → tokens_made (made_from i final h (sign_bits t ++ rest)) ≡ tokens_made (let_go h) ++ symbol s ∷ ts
  symbol_again s [] e ts rest i h b k = absurd (no_true (ap is_plain_text (turned e) ∙ plain_symbol s))
  symbol_again s (c ∷ []) e ts rest i h b k = first_sign (c ∷ []) i h rest b.0 b.1 ∙ ap (λ z. tokens_made (let_go h) ++ z) (held_all s ts (suc i) rest (record { text = c ∷ []; count = 1 }) e k)
  symbol_again s (c ∷ d ∷ []) e ts rest i h b k = by ((c == d) && is_doubled c) b k where
    bits : Bool → List Bit
    bits z = if z then sign_bit false (c ∷ d ∷ []) ∷ [] else sign_bit false (c ∷ []) ∷ sign_bit true (d ∷ []) ∷ []

    by : (z : Bool) → NoBrackets final i (bits z) → Again ts (number_behind i (bits z)) rest → tokens_made (made_from i final h (bits z ++ rest)) ≡ tokens_made (let_go h) ++ symbol s ∷ ts
    by true b k = first_sign (c ∷ d ∷ []) i h rest b.0 b.1 ∙ ap (λ z. tokens_made (let_go h) ++ z) (held_all s ts (suc i) rest (record { text = c ∷ d ∷ []; count = 1 }) e k)
    by false b k =
        first_sign (c ∷ []) i h (sign_bit true (d ∷ []) ∷ rest) b.0 b.1
        ∙ ap (λ z. tokens_made (let_go h) ++ z)
        (ap tokens_made (next_sign (d ∷ []) (suc i) (record { text = c ∷ []; count = 1 }) rest b.2.0 b.2.1 (ap (λ z. is_some (symbol_of z)) (turned e) ∙ ap is_some (symbol_of_text s)))
        ∙ held_all s ts (suc (suc i)) rest (record { text = c ∷ d ∷ []; count = 2 }) e k)
  symbol_again s (c ∷ d ∷ x ∷ []) e ts rest i h b k =
      first_sign (c ∷ []) i h (sign_bit true (d ∷ []) ∷ sign_bit true (x ∷ []) ∷ rest) b.0 b.1
      ∙ ap (λ z. tokens_made (let_go h) ++ z)
      (ap tokens_made (next_sign (d ∷ []) (suc i) (record { text = c ∷ []; count = 1 }) (sign_bit true (x ∷ []) ∷ rest) b.2.0 b.2.1 (ap begins_symbol (turned e) ∙ first_two s)
      ∙ next_sign (x ∷ []) (suc (suc i)) (record { text = c ∷ d ∷ []; count = 2 }) rest b.2.2.0 b.2.2.1 (ap (λ z. is_some (symbol_of z)) (turned e) ∙ ap is_some (symbol_of_text s)))
      ∙ held_all s ts (suc (suc (suc i))) rest (record { text = c ∷ d ∷ x ∷ []; count = 3 }) e k)
  symbol_again s (c ∷ d ∷ x ∷ y ∷ t) e ts rest i h b k = absurd (no_true (ap is_plain_text (turned e) ∙ plain_symbol s))

  -- a token of one piece
  one_again : (u : Token) (ts : List Token) (i : ℕ) (h : Option Held) (rest : List Bit) → Again ts (suc i) rest → tokens_made ((behind h u).done ++ made_from (suc i) final None rest) ≡ tokens_made (let_go h) ++ u ∷ ts
  one_again u ts i h rest k =
      ap tokens_made (append_assoc (let_go h) (record { token = u; count = 1 } ∷ []) (made_from (suc i) final None rest))
      ∙ (made_joined (let_go h) (record { token = u; count = 1 } ∷ made_from (suc i) final None rest) ∙ ap (λ z. tokens_made (let_go h) ++ u ∷ z) (k None))

  pub made_again : (ts : List Token) (i : ℕ) → AllBracketed i ts → Again ts i (bits_apart ts)
  made_again [] i b h = by (tokens_made (let_go h)) where
    by : (us : List Token) → us ≡ us ++ []
    by [] = refl
    by (u ∷ us) = ap (λ z. u ∷ z) (by us)
  made_again (name t ∷ ts) i b h = one_again (name t) ts i h (bits_apart ts) (made_again ts (suc i) b.1)
  made_again (number t ∷ ts) i b h = one_again (number t) ts i h (bits_apart ts) (made_again ts (suc i) b.1)
  made_again (symbol s ∷ ts) i b h = symbol_again s (symbol_text s) refl ts (bits_apart ts) i h b.0 (made_again ts (number_behind i (sign_bits (symbol_text s))) b.1)
  made_again (open_list ∷ ts) i b h = ap (λ z. tokens_made (made_by z)) b.0 ∙ one_again open_list ts i h (bits_apart ts) (made_again ts (suc i) b.1) where
    made_by : Bool → List Made
    made_by o = let j : Joined = if o then behind h open_list else if is_one_of final.closed i then behind h close_list else if joins h (codes "<") false then record { done = []; held = more h (codes "<") } else record { done = let_go h; held = more None (codes "<") } in j.done ++ made_from (suc i) final j.held (bits_apart ts)
  made_again (close_list ∷ ts) i b h = ap (λ z. tokens_made (made_by z (is_one_of final.closed i))) b.0.0 ∙ (ap (λ z. tokens_made (made_by false z)) b.0.1 ∙ one_again close_list ts i h (bits_apart ts) (made_again ts (suc i) b.1)) where
    made_by : Bool → Bool → List Made
    made_by o c = let j : Joined = if o then behind h open_list else if c then behind h close_list else if joins h (codes ">") false then record { done = []; held = more h (codes ">") } else record { done = let_go h; held = more None (codes ">") } in j.done ++ made_from (suc i) final j.held (bits_apart ts)

-- ---- the tokens of a text, apart

apart_again : (bs : List Bit) (ts : List Token) → tokens_of_bits bs ≡ ts → Grouped (brackets bs) 0 (tokens_of_bits bs) bs → are_quiet ts ≡ true → AllBracketed (brackets (bits_apart ts)) 0 ts
apart_again bs ts e x q =
    let y : Grouped (brackets bs) 0 ts bs = subst (λ z. Grouped (brackets bs) 0 z bs) e x in
    let k : brackets (bits_apart ts) ≡ brackets bs = apart_from (brackets bs) ts bs 0 nothing_known y q (λ n l. ((refl, refl), refl)) refl in
    subst (λ z. AllBracketed z 0 ts) (turned k) (grouped_bracketed (brackets bs) ts bs 0 y)

-- tokens of which each is bracketed as is known of them where they stand apart
abbrev pub AreMeant : List Token → Type 0
AreMeant ts = AllBracketed (brackets (bits_apart ts)) 0 ts

-- the tokens of a text are, where they are quiet; and those that are stand apart as they are
pub text_meant : (t : Text) (ts : List Token) → tokens t ≡ Some ts → are_quiet ts ≡ true → AreMeant ts
text_meant t ts h q = by (read_from gap 0 (chars t)) refl h where
  by : (r : Result (List Piece) Fault) → read_from gap 0 (chars t) ≡ r → option_map (λ ps. tokens_of_bits (bits_of ps)) (result_ok r) ≡ Some ts → AreMeant ts
  by (Err f) e g = absurd (no_some ts g)
  by (Ok ps) e g = apart_again (bits_of ps) ts (of_some (tokens_of_bits (bits_of ps)) ts g) (grouped (bits_of ps) (pieces_fit (chars t) ps e)) q

pub meant_apart : (ts : List Token) → AreMeant ts → tokens_of_bits (bits_apart ts) ≡ ts
meant_apart ts h = made_again (brackets (bits_apart ts)) ts 0 h None
