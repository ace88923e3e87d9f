-- Names have neither dots nor slashes.
use Rattle.std.proofs.Common.{◌≡◌, ℕ, suc, ◌<◌, Bool, true, false, not, ◌&&◌, ◌==◌, List, [], ◌∷◌, ◌++◌, length, get_or, Some, Ok, refl, sym as turned, ap, ◌∙◌, subst, append-nil, eqb-true, zero-lt-suc, suc-le-suc, encode_utf8, arith}
use Rattle.std.proofs.lemmas.Bool.{false≢true, and_parts}
use Rattle.std.proofs.lemmas.Str.{inside_one}
use Rattle.std.specs.Str.{chars}
use Rattle.wesl_tree_names.specs.Path.{Text}
use Rattle.wesl_text_tokens.specs.Characters.{begins_name, goes_on_name, bytes_of}
use Rattle.wesl_text_tokens.specs.Pieces.{in_name, begun}
use Rattle.wesl_text_tokens.specs.Tokens.{Token, name, tokens}
use Rattle.wesl_text_tokens.proofs.Steps.{bytes_of_is}
use Rattle.wesl_text_sound.proofs.EachToken.{lacks, EachToken, HasNoSign, NamesHaveNoSigns}
use Rattle.wesl_text_sound.proofs.TokensHold.{Digits, AllHold, Characters, tokens_hold}

lacks_from : (d : ℕ) (xs : Text) → ((k : ℕ) → k < length xs → get_or xs k 0 ≡ d → ⊥) → lacks d xs ≡ true
lacks_from d [] f = refl
lacks_from d (x ∷ xs) f = by (x == d) refl (lacks_from d xs (λ k l e. f (suc k) (suc-le-suc l) e)) where
  by : (b : Bool) → (x == d) ≡ b → lacks d xs ≡ true → (not b && lacks d xs) ≡ true
  by true e h = absurd (f 0 (zero-lt-suc (length xs)) (eqb-true x d e))
  by false e h = h

lacks_and : (d : ℕ) (xs ys : Text) → lacks d xs ≡ true → lacks d ys ≡ true → lacks d (xs ++ ys) ≡ true
lacks_and d [] ys h g = g
lacks_and d (x ∷ xs) ys h g = let y : (not (x == d) ≡ true) × (lacks d xs ≡ true) = and_parts (not (x == d)) (lacks d xs) h in ap (λ z. z && lacks d (xs ++ ys)) y.0 ∙ lacks_and d xs ys y.1 g

-- the bytes of another character
bytes_lack : (d c : ℕ) → d < 128 → (c ≡ d → ⊥) → lacks d (bytes_of c) ≡ true
bytes_lack d c l n =
    subst (λ z. lacks d z ≡ true) (turned (bytes_of_is c))
    (lacks_from d (encode_utf8 c) (λ k m e. n (inside_one c [] (encode_utf8 c) k (turned (append-nil (encode_utf8 c))) m (subst (λ z. z < 128) (turned e) l) ∙ e)))

-- neither dots nor slashes
abbrev Lacks : Text → Type 0
Lacks t = (lacks 46 t ≡ true) × (lacks 47 t ≡ true)

-- a character that passes a test which `.` and `/` fail
passing : (q : ℕ → Bool) (c : ℕ) → q 46 ≡ false → q 47 ≡ false → q c ≡ true → Lacks (bytes_of c)
passing q c e f h = (bytes_lack 46 c (omega arith) (λ g. false≢true (turned e ∙ (ap q (turned g) ∙ h))), bytes_lack 47 c (omega arith) (λ g. false≢true (turned f ∙ (ap q (turned g) ∙ h))))

abbrev Nothing : Text → Digits → Type 0
Nothing t d = Unit {0}

abbrev AnyCharacter : ℕ → Type 0
AnyCharacter c = Unit {0}

begins_apart : (c : ℕ) → AnyCharacter c → ((at : ℕ) → begun at c ≡ Ok (in_name at (bytes_of c))) → begins_name c ≡ true → Lacks (bytes_of c)
begins_apart c k b h = passing begins_name c refl refl h

goes_apart : (t : Text) (c : ℕ) → AnyCharacter c → Lacks t → goes_on_name c ≡ true → Lacks (t ++ bytes_of c)
goes_apart t c k l h = let y : Lacks (bytes_of c) = passing goes_on_name c refl refl h in (lacks_and 46 t (bytes_of c) l.0 y.0, lacks_and 47 t (bytes_of c) l.1 y.1)

-- all names of a text
abbrev AllLack : List Token → Type 0
AllLack = AllHold Lacks Nothing AnyCharacter begins_apart goes_apart (λ c d e h. tt) (λ c d e h. tt) (λ t d e c h g. tt)

any_characters : (cs : List ℕ) → Characters Lacks Nothing AnyCharacter begins_apart goes_apart (λ c d e h. tt) (λ c d e h. tt) (λ t d e c h g. tt) cs
any_characters [] = tt
any_characters (c ∷ cs) = (tt, any_characters cs)

names_lack : (t : Text) (ts : List Token) → tokens t ≡ Some ts → AllLack ts
names_lack t ts h = tokens_hold Lacks Nothing AnyCharacter begins_apart goes_apart (λ c d e h. tt) (λ c d e h. tt) (λ t d e c h g. tt) t ts (any_characters (chars t)) h

-- by token
each_name : (ts : List Token) → AllLack ts → EachToken HasNoSign ts
each_name [] h = tt
each_name (name t ∷ ts) h = (h.0, each_name ts h.1)
each_name (t ∷ ts) h = (tt, each_name ts h.1)

pub names_have_no_signs : NamesHaveNoSigns
names_have_no_signs t ts h = each_name ts (names_lack t ts h)
