-- A name of ASCII is a word.
use Rattle.std.proofs.Common.{◌≡◌, ℕ, zero, suc, ◌+◌, ◌<◌, Bool, true, false, not, ◌&&◌, ◌||◌, ◌==◌, nat_lt, if◌then◌else◌, List, [], ◌∷◌, ◌++◌, Some, option_map, Result, Ok, refl, sym as turned, ap, ◌∙◌, append-nil, append_assoc, lt-ltb, arith}
use Rattle.std.specs.List.{list_all}
use Rattle.std.specs.Char.{len_utf8}
use Rattle.std.specs.Result.{result_ok}
use Rattle.std.specs.Str.{IsAscii}
use Rattle.std.proofs.lemmas.Bool.{false≢true, and_parts, not-true}
use Rattle.std.proofs.lemmas.Slice.Eq.{bytes_eq-Decides}
use Rattle.std.proofs.lemmas.Str.{chars-IsAscii}
use Rattle.wesl_tree_names.specs.Path.{Text}
use Rattle.wesl_text_tokens.specs.Characters.{is_blank, is_digit, is_letter, begins_name, bytes_of, goes_on_name}
use Rattle.wesl_text_tokens.specs.Pieces.{a_name, Piece, Mode, Fault, gap, in_name, Step, piece, on, begun, ended, and_then, read_from, bits_of}
use Rattle.wesl_text_tokens.specs.Tokens.{name, tokens, tokens_of_bits}
use Rattle.wesl_text_tokens.proofs.Steps.{nothing_before}
use Rattle.wesl_text_form.specs.Names.{is_alone, is_word}
use Rattle.wesl_text_sink.proofs.Touched.{one_passes}
use Rattle.wesl_text_sink.specs.Words.{begins_plain, is_plain, is_plain_name}

-- ---- characters

plain_low : (c : ℕ) → is_plain c ≡ true → c < 128
plain_low c h = grind arith

plain_begins : (c : ℕ) → begins_plain c ≡ true → is_plain c ≡ true
plain_begins c h = ap (λ b. b || is_digit c) h

low_test : (c : ℕ) → is_plain c ≡ true → nat_lt c 128 ≡ true
low_test c h = lt-ltb c 128 (plain_low c h)

if_so : {A : Type 0} (b : Bool) (x y : A) → b ≡ true → (if b then x else y) ≡ x
if_so true x y h = refl
if_so false x y h = absurd (false≢true h)

or_in : (a b d : Bool) → ((a || b) || d) ≡ true → (a || (b || d)) ≡ true
or_in true b d h = refl
or_in false b d h = h

plain_goes : (c : ℕ) → is_plain c ≡ true → goes_on_name c ≡ true
plain_goes c h = ap (λ (z : Bool). (c == 95) || z) (if_so (nat_lt c 128) (is_letter c || is_digit c) _ (low_test c h)) ∙ or_in (c == 95) (is_letter c) (is_digit c) h

plain_begins_name : (c : ℕ) → begins_plain c ≡ true → begins_name c ≡ true
plain_begins_name c h = ap (λ (z : Bool). (c == 95) || z) (if_so (nat_lt c 128) (is_letter c) _ (low_test c (plain_begins c h))) ∙ h

plain_no_blank : (c : ℕ) → begins_plain c ≡ true → is_blank c ≡ false
plain_no_blank c h = by (is_blank c) refl where
  by : (b : Bool) → is_blank c ≡ b → b ≡ false
  by true e = absurd (false≢true (turned (not-true (begins_plain c) (one_passes (λ d. not (begins_plain d)) (0x20 ∷ 0x0a ∷ 0x09 ∷ 0x0d ∷ 0x0b ∷ 0x0c ∷ 0x85 ∷ 0x200e ∷ 0x200f ∷ 0x2028 ∷ 0x2029 ∷ []) c refl e)) ∙ h))
  by false e = refl

plain_bytes : (c : ℕ) → is_plain c ≡ true → bytes_of c ≡ c ∷ []
plain_bytes c h = if_so (nat_lt c 128) (c ∷ []) _ (low_test c h)

-- ---- texts

plain_begun : (c : ℕ) → begins_plain c ≡ true → begun 0 c ≡ Ok (in_name 0 (c ∷ []))
plain_begun c h = by (is_blank c) (begins_name c) _ (plain_no_blank c h) (plain_begins_name c h) ∙ ap (λ (t : Text). let r : Result Mode Fault = Ok (in_name 0 t) in r) (plain_bytes c (plain_begins c h)) where
  by : (a b : Bool) (x : Result Mode Fault) → a ≡ false → b ≡ true → (if a then Ok gap else if b then Ok (in_name 0 (bytes_of c)) else x) ≡ Ok (in_name 0 (bytes_of c))
  by false true x e g = refl
  by true b x e g = absurd (false≢true (turned e))
  by false false x e g = absurd (false≢true g)

names_read : (cs : List ℕ) (t : Text) (at : ℕ) → list_all is_plain cs ≡ true → (fin : ℕ) × (read_from (in_name 0 t) at cs ≡ Ok (piece (a_name (t ++ cs)) 0 fin ∷ []))
names_read [] t at h = (at, ap (λ (u : Text). let r : Result (List Piece) Fault = Ok (piece (a_name u) 0 at ∷ []) in r) (turned (append-nil t)))
names_read (c ∷ cs) t at h =
    let x : (is_plain c ≡ true) × (list_all is_plain cs ≡ true) = and_parts _ _ h in
    let more : Text = t ++ c ∷ [] in
    let later : (fin : ℕ) × (read_from (in_name 0 more) (at + len_utf8 c) cs ≡ Ok (piece (a_name (more ++ cs)) 0 fin ∷ [])) = names_read cs more (at + len_utf8 c) x.1 in (
      later.0,
      ap (λ (b : Bool). and_then (if b then on (in_name 0 (t ++ bytes_of c)) else ended (a_name t) 0 at c) (λ k. read_from k (at + len_utf8 c) cs)) (plain_goes c x.0)
          ∙ (nothing_before (read_from (in_name 0 (t ++ bytes_of c)) (at + len_utf8 c) cs)
          ∙ (ap (λ (u : Text). read_from (in_name 0 (t ++ u)) (at + len_utf8 c) cs) (plain_bytes c x.0)
          ∙ (later.1 ∙ ap (λ (u : Text). let r : Result (List Piece) Fault = Ok (piece (a_name u) 0 later.0 ∷ []) in r) (append_assoc t (c ∷ []) cs)))),
    )

all_ascii : (cs : List ℕ) → list_all is_plain cs ≡ true → IsAscii cs
all_ascii [] h i = omega arith
all_ascii (c ∷ cs) h zero = plain_low c (and_parts (is_plain c) (list_all is_plain cs) h).0
all_ascii (c ∷ cs) h (suc i) = all_ascii cs (and_parts (is_plain c) (list_all is_plain cs) h).1 i

plain_tokens : (t : Text) → is_plain_name t ≡ true → tokens t ≡ Some (name t ∷ [])
plain_tokens [] h = absurd (false≢true h)
plain_tokens (c ∷ cs) h =
    let x : (begins_plain c ≡ true) × (list_all is_plain cs ≡ true) = and_parts _ _ h in
    let ascii : IsAscii (c ∷ cs) = all_ascii (c ∷ cs) (ap (λ b. b && list_all is_plain cs) (plain_begins c x.0) ∙ x.1) in
    let later : (fin : ℕ) × (read_from (in_name 0 (c ∷ [])) (0 + len_utf8 c) cs ≡ Ok (piece (a_name (c ∷ cs)) 0 fin ∷ [])) = names_read cs (c ∷ []) (0 + len_utf8 c) x.1 in
    let first : read_from gap 0 (c ∷ cs) ≡ read_from (in_name 0 (c ∷ [])) (0 + len_utf8 c) cs =
    ap (λ (r : Result Mode Fault). let s : Step = record { done = []; next = r } in and_then s (λ k. read_from k (0 + len_utf8 c) cs)) (plain_begun c x.0)
    ∙ nothing_before (read_from (in_name 0 (c ∷ [])) (0 + len_utf8 c) cs) in
    ap (λ (r : Result (List Piece) Fault). option_map (λ ps. tokens_of_bits (bits_of ps)) (result_ok r)) (ap (λ zs. read_from gap 0 zs) (chars-IsAscii (c ∷ cs) ascii) ∙ (first ∙ later.1))

-- such a text is one word
pub plain_word : (t : Text) → is_plain_name t ≡ true → is_word t ≡ true
plain_word t h = ap (is_alone (name t)) (plain_tokens t h) ∙ (bytes_eq-Decides t t).1 refl
