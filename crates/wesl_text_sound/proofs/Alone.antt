-- The names and numbers among the tokens of a text stand alone.
use Rattle.std.proofs.Common.{◌≡◌, ◌⊎◌, ℕ, ◌+◌, ◌<◌, ◌≤◌, Bool, true, false, ◌&&◌, ◌||◌, ◌==◌, nat_lt, nat_le, if◌then◌else◌, List, [], ◌∷◌, ◌++◌, Some, None, option_map, Result, Ok, Err, refl, sym as turned, inl, inr, ap, ◌∙◌, codes, append-nil, append_assoc, arith}
use Rattle.std.proofs.lemmas.Bool.{and_from, and_parts, false≢true}
use Rattle.std.proofs.lemmas.Bool.Decides.{leb_tells}
use Rattle.std.proofs.lemmas.Str.{chars-encodes, scalars-chars, encodes-append, encode_ascii}
use lib.Utf8.{scalar, scalars, encode, encodes, low_scalar}
use Rattle.std.specs.Char.{len_utf8}
use Rattle.std.specs.Result.{result_ok}
use Rattle.std.specs.Str.{chars}
use Rattle.wesl_tree_names.specs.Path.{Text}
use Rattle.wesl_text_tokens.specs.Characters.{is_one_of, is_from, is_digit, is_hex, begins_name, goes_on_name, bytes_of}
use Rattle.wesl_text_tokens.specs.Numbers.{goes_on, is_whole_number}
use Rattle.wesl_text_tokens.specs.Pieces.{a_name, a_number, Piece, Mode, Fault, no_number, gap, in_name, in_number, in_sign, Step, piece, on, begun, ended, at_number, at_sign, step, and_then, read_from, bits_of}
use Rattle.wesl_text_tokens.specs.Tokens.{Token, name, number, tokens_of_bits, tokens}
use Rattle.wesl_text_tokens.proofs.Steps.{nothing_before, bytes_of_is}
use Rattle.wesl_text_sound.proofs.EachToken.{EachToken, StandsAlone, NamesStandAlone}
use Rattle.wesl_text_sound.proofs.TokensHold.{Digits, AllHold, Characters, tokens_hold}
use Rattle.wesl_text_reading.proofs.Filled.{no_some}

-- ---- characters that are read as one piece

-- at each place, before all characters, these are what is read in a mode
abbrev Runs : List ℕ → (ℕ → Mode) → Type 0
Runs cs m = (at : ℕ) (rest : List ℕ) → (fin : ℕ) × (read_from gap at (cs ++ rest) ≡ read_from (m at) fin rest)

pub on_step : (m n : Mode) (at c : ℕ) (rest : List ℕ) → step m at c ≡ on n → read_from m at (c ∷ rest) ≡ read_from n (at + len_utf8 c) rest
on_step m n at c rest e = ap (λ s. and_then s (λ k. read_from k (at + len_utf8 c) rest)) e ∙ nothing_before (read_from n (at + len_utf8 c) rest)

run_one : (c : ℕ) (m : ℕ → Mode) → ((at : ℕ) → begun at c ≡ Ok (m at)) → Runs (c ∷ []) m
run_one c m b at rest = (at + len_utf8 c, on_step gap (m at) at c rest (ap (λ r. let s : Step = record { done = []; next = r } in s) (b at)))

run_more : (cs : List ℕ) (m n : ℕ → Mode) (c : ℕ) → ((at fin : ℕ) → step (m at) fin c ≡ on (n at)) → Runs cs m → Runs (cs ++ c ∷ []) n
run_more cs m n c s r at rest =
    let x : (fin : ℕ) × (read_from gap at (cs ++ c ∷ rest) ≡ read_from (m at) fin (c ∷ rest)) = r at (c ∷ rest) in
    (x.0 + len_utf8 c, ap (λ z. read_from gap at z) (append_assoc cs (c ∷ []) rest) ∙ (x.1 ∙ on_step (m at) (n at) x.0 c rest (s at x.0)))

-- ---- names

-- the characters of a name
abbrev NameRuns : Text → Type 0
NameRuns t = (cs : List ℕ) × (scalars cs ≡ true) × (encodes cs ≡ t) × Runs cs (λ at. in_name at t)

abbrev IsCharacter : ℕ → Type 0
IsCharacter c = scalar c ≡ true

pub one_encoded : (c : ℕ) → encodes (c ∷ []) ≡ bytes_of c
one_encoded c = append-nil (encode c) ∙ turned (bytes_of_is c)

pub scalars_and : (cs ds : List ℕ) → scalars cs ≡ true → scalars ds ≡ true → scalars (cs ++ ds) ≡ true
scalars_and [] ds h g = g
scalars_and (c ∷ cs) ds h g = let x : (scalar c ≡ true) × (scalars cs ≡ true) = and_parts (scalar c) (scalars cs) h in and_from (scalar c) (scalars (cs ++ ds)) x.0 (scalars_and cs ds x.1 g)

name_begins : (c : ℕ) → IsCharacter c → ((at : ℕ) → begun at c ≡ Ok (in_name at (bytes_of c))) → begins_name c ≡ true → NameRuns (bytes_of c)
name_begins c k b h = (c ∷ [], and_from (scalar c) true k refl, one_encoded c, run_one c (λ at. in_name at (bytes_of c)) b)

name_goes : (t : Text) (c : ℕ) → IsCharacter c → NameRuns t → goes_on_name c ≡ true → NameRuns (t ++ bytes_of c)
name_goes t c k p h = (
  p.0 ++ c ∷ [],
  scalars_and p.0 (c ∷ []) p.1 (and_from (scalar c) true k refl),
  encodes-append p.0 (c ∷ []) ∙ (ap (λ z. z ++ encodes (c ∷ [])) p.2 ∙ ap (λ z. t ++ z) (one_encoded c)),
  run_more p.0 (λ at. in_name at t) (λ at. in_name at (t ++ bytes_of c)) c (λ at fin. ap (λ b. if b then on (in_name at (t ++ bytes_of c)) else ended (a_name t) at fin c) h) p.3,
)

-- ---- numbers

-- the characters of a number are its bytes
abbrev NumberRuns : Text → Digits → Type 0
NumberRuns t d = (scalars t ≡ true) × (encodes t ≡ t) × Runs t (λ at. in_number at t d)

pub low_encoded : (c : ℕ) → c < 128 → encodes (c ∷ []) ≡ c ∷ []
low_encoded c l = append-nil (encode c) ∙ encode_ascii c l

pub low_scalars : (c : ℕ) → c < 128 → scalars (c ∷ []) ≡ true
low_scalars c l = and_from (scalar c) true (low_scalar c (omega arith)) refl

-- ---- a number goes on with low characters alone

pub from_high : (low high c : ℕ) → high < 128 → 128 ≤ c → is_from low high c ≡ false
from_high low high c l h = grind arith

pub digit_high : (c : ℕ) → 128 ≤ c → is_digit c ≡ false
digit_high c h = from_high 48 57 c (omega arith) h

pub hex_high : (c : ℕ) → 128 ≤ c → is_hex c ≡ false
hex_high c h = ap (λ z. z || is_from 65 70 c || is_from 97 102 c) (digit_high c h) ∙ (ap (λ z. z || is_from 97 102 c) (from_high 65 70 c (omega arith) h) ∙ from_high 97 102 c (omega arith) h)

abbrev all_low : List ℕ → Bool
all_low [] = true
all_low (d ∷ ds) = nat_lt d 128 && all_low ds

pub other_high : (d c : ℕ) → nat_lt d 128 ≡ true → 128 ≤ c → (c == d) ≡ false
other_high d c l h = grind arith

among_high : (ds : List ℕ) (c : ℕ) → all_low ds ≡ true → 128 ≤ c → is_one_of ds c ≡ false
among_high [] c a h = refl
among_high (d ∷ ds) c a h =
    let x : (nat_lt d 128 ≡ true) × (all_low ds ≡ true) = and_parts (nat_lt d 128) (all_low ds) a in
    ap (λ z. z || is_one_of ds c) (other_high d c x.0 h) ∙ among_high ds c x.1 h

-- where no test holds, the number ends
pub goes_none : (d : Digits) (c : ℕ) → is_digit c ≡ false → is_hex c ≡ false → (c == 46) ≡ false → is_one_of (codes "eE") c ≡ false → is_one_of (codes "xX") c ≡ false → is_one_of (codes "iufh") c ≡ false → is_one_of (codes "fh") c ≡ false
    → is_one_of (codes "+-") c ≡ false → is_one_of (codes "pP") c ≡ false → is_one_of (codes "iu") c ≡ false → goes_on d c ≡ None
goes_none d c h1 h2 h3 h4 h5 h6 h7 h8 h9 h0 = grind arith

pub goes_high : (d : Digits) (c : ℕ) → 128 ≤ c → goes_on d c ≡ None
goes_high d c h =
    let among : (ds : List ℕ) → all_low ds ≡ true → is_one_of ds c ≡ false = λ ds a. among_high ds c a h in
    goes_none d c (digit_high c h) (hex_high c h) (other_high 46 c refl h) (among (codes "eE") refl) (among (codes "xX") refl) (among (codes "iufh") refl) (among (codes "fh") refl) (among (codes "+-") refl) (among (codes "pP") refl) (among (codes "iu") refl)

pub goes_low : (d e : Digits) (c : ℕ) → goes_on d c ≡ Some e → c < 128
goes_low d e c h = by (leb_tells 128 c) where
  by : ((nat_le 128 c ≡ true) × (128 ≤ c)) ⊎ ((nat_le 128 c ≡ false) × (c < 128)) → c < 128
  by (inl x) = absurd (no_some e (turned (goes_high d c x.1) ∙ h))
  by (inr x) = x.1

pub digit_low : (c : ℕ) → is_digit c ≡ true → c < 128
digit_low c h = by (leb_tells 128 c) where
  by : ((nat_le 128 c ≡ true) × (128 ≤ c)) ⊎ ((nat_le 128 c ≡ false) × (c < 128)) → c < 128
  by (inl x) = absurd (false≢true (turned (digit_high c x.1) ∙ h))
  by (inr x) = x.1

number_begins : (c : ℕ) (d : Digits) → ((at : ℕ) → begun at c ≡ Ok (in_number at (c ∷ []) d)) → is_digit c ≡ true → NumberRuns (c ∷ []) d
number_begins c d b h = (low_scalars c (digit_low c h), low_encoded c (digit_low c h), run_one c (λ at. in_number at (c ∷ []) d) b)

-- one more byte
pub low_more : (t : Text) (c : ℕ) → c < 128 → scalars t ≡ true → encodes t ≡ t → (scalars (t ++ c ∷ []) ≡ true) × (encodes (t ++ c ∷ []) ≡ t ++ c ∷ [])
low_more t c l s e = (scalars_and t (c ∷ []) s (low_scalars c l), encodes-append t (c ∷ []) ∙ (ap (λ z. z ++ encodes (c ∷ [])) e ∙ ap (λ z. t ++ z) (low_encoded c l)))

number_pointed : (c : ℕ) (d : Digits) → ((s at : ℕ) → at_sign s 46 at c ≡ on (in_number s (46 ∷ c ∷ []) d)) → is_digit c ≡ true → NumberRuns (46 ∷ c ∷ []) d
number_pointed c d k h =
    let x : (scalars (46 ∷ c ∷ []) ≡ true) × (encodes (46 ∷ c ∷ []) ≡ 46 ∷ c ∷ []) = low_more (46 ∷ []) c (digit_low c h) refl (low_encoded 46 (omega arith)) in
    (x.0, x.1, run_more (46 ∷ []) (λ at. in_sign at 46) (λ at. in_number at (46 ∷ c ∷ []) d) c (λ at fin. k at fin) (run_one 46 (λ at. in_sign at 46) (λ at. refl)))

number_goes : (t : Text) (d e : Digits) (c : ℕ) → NumberRuns t d → goes_on d c ≡ Some e → NumberRuns (t ++ c ∷ []) e
number_goes t d e c p h =
    let x : (scalars (t ++ c ∷ []) ≡ true) × (encodes (t ++ c ∷ []) ≡ t ++ c ∷ []) = low_more t c (goes_low d e c h) p.0 p.1 in
    (x.0, x.1, run_more t (λ at. in_number at t d) (λ at. in_number at (t ++ c ∷ []) e) c (λ at fin. ap (λ o. at_number at t d fin c o) h) p.2)

-- ---- tokens

-- the tokens of a text that is one piece
one_token : (t : Text) (cs : List ℕ) (m : ℕ → Mode) (p : ℕ → Piece) → scalars cs ≡ true → encodes cs ≡ t → Runs cs m → ((fin : ℕ) → read_from (m 0) fin [] ≡ Ok (p fin ∷ [])) → (fin : ℕ) × (tokens t ≡ Some (tokens_of_bits (bits_of (p fin ∷ []))))
one_token t cs m p s e r l =
    let x : (fin : ℕ) × (read_from gap 0 (cs ++ []) ≡ read_from (m 0) fin []) = r 0 [] in
    let q : chars t ≡ cs ++ [] = ap chars (turned e) ∙ (chars-encodes cs s ∙ turned (append-nil cs)) in
    (x.0, ap (λ z. option_map (λ ps. tokens_of_bits (bits_of ps)) (result_ok z)) (ap (λ z. read_from gap 0 z) q ∙ (x.1 ∙ l x.0)))

name_alone : (t : Text) → NameRuns t → tokens t ≡ Some (name t ∷ [])
name_alone t p = (one_token t p.0 (λ at. in_name at t) (λ fin. piece (a_name t) 0 fin) p.1 p.2 p.3 (λ fin. refl)).1

number_alone : (t : Text) (d : Digits) → NumberRuns t d → is_whole_number d ≡ true → tokens t ≡ Some (number t ∷ [])
number_alone t d p w = (one_token t t (λ at. in_number at t d) (λ fin. piece (a_number t) 0 fin) p.0 p.1 p.2 (λ fin. ended_whole fin)).1 where
  ended_whole : (fin : ℕ) → read_from (in_number 0 t d) fin [] ≡ Ok (piece (a_number t) 0 fin ∷ [])
  ended_whole fin = ap (λ b. let r : Result (List Piece) Fault = if b then Ok (piece (a_number t) 0 fin ∷ []) else Err (no_number 0) in r) w

-- all tokens of a text
abbrev AllRun : List Token → Type 0
AllRun = AllHold NameRuns NumberRuns IsCharacter name_begins name_goes number_begins number_pointed number_goes

abbrev AllCharacters : List ℕ → Type 0
AllCharacters = Characters NameRuns NumberRuns IsCharacter name_begins name_goes number_begins number_pointed number_goes

characters_are : (cs : List ℕ) → scalars cs ≡ true → AllCharacters cs
characters_are [] h = tt
characters_are (c ∷ cs) h = let x : (scalar c ≡ true) × (scalars cs ≡ true) = and_parts (scalar c) (scalars cs) h in (x.0, characters_are cs x.1)

-- by token
each_alone : (ts : List Token) → AllRun ts → EachToken StandsAlone ts
each_alone [] h = tt
each_alone (name t ∷ ts) h = (name_alone t h.0, each_alone ts h.1)
each_alone (number t ∷ ts) h = (number_alone t h.0.0 h.0.1 h.0.2, each_alone ts h.1)
each_alone (t ∷ ts) h = (tt, each_alone ts h.1)

pub names_stand_alone : NamesStandAlone
names_stand_alone t ts u h = each_alone ts (tokens_hold NameRuns NumberRuns IsCharacter name_begins name_goes number_begins number_pointed number_goes t ts (characters_are (chars t) (scalars-chars t u)) h)
