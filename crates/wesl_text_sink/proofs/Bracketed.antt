-- Tokens that touch have the brackets of template lists that they have where they stand apart.
use Rattle.std.proofs.Common.{◌≡◌, ℕ, suc, ◌-◌, Bool, true, false, not, ◌&&◌, ◌||◌, if◌then◌else◌, List, [], ◌∷◌, ◌++◌, Option, Some, None, refl, sym as turned, ap, ◌∙◌, codes, bytes_eq}
use Rattle.std.proofs.lemmas.Bool.{false≢true, and_parts, not-true}
use Rattle.wesl_tree_base.specs.Pieces.{is_empty}
use Rattle.wesl_tree_names.specs.Path.{Text}
use Rattle.wesl_text_tokens.specs.declared.symbol.Symbol.{Symbol}
use Rattle.wesl_text_tokens.specs.declared.symbol.Symbol.TheVariants as is
use Rattle.wesl_text_tokens.specs.Pieces.{What, a_name, a_number, a_sign, Bit}
use Rattle.wesl_text_tokens.specs.Symbols.{symbol_text}
use Rattle.wesl_text_tokens.specs.Tokens.{Token, name, number, symbol, open_list, close_list}
use Rattle.wesl_text_tokens.specs.Brackets.{Known, brackets, nothing_known, at_greater, at_less, at_sign, outside, known_behind, known_from, sign_behind}
use Rattle.wesl_text_form.specs.Says.{bits_apart, sign_bits, token_bits}
use Rattle.wesl_text_sink.specs.declared.kind.Kind.{Kind}
use Rattle.wesl_text_sink.specs.Layout.{Laid, are_apart, are_blanks, are_laid, is_spelled, kind_of, laid_tokens}
use Rattle.wesl_text_sink.specs.Touching.{first_of, last_of, may_touch, runs_on}
use Rattle.wesl_text_sink.proofs.Assembled.{bits_apart_first, laid_bits, one_apart, set_glue}
use Rattle.wesl_text_sink.proofs.Touched.{each_two, or_else}

-- ---- the first and the last bit of a token

abbrev pub last_what : List Bit → What
last_what [] = a_name []
last_what (b ∷ []) = b.what
last_what (b ∷ c ∷ bs) = last_what (c ∷ bs)

abbrev pub first_what : List Bit → What
first_what [] = a_name []
first_what (b ∷ bs) = b.what

-- the text of a sign
abbrev pub sign_of : What → Text
sign_of (a_name t) = []
sign_of (a_number t) = []
sign_of (a_sign t) = t

-- whether a sign's brackets are the same with another right behind it
abbrev looks_away : Text → Text → Bool
looks_away s n = not (bytes_eq n (codes "=")) && (not (bytes_eq s (codes "<")) || not (bytes_eq n (codes "<")))

looks : (i : ℕ) (was : Bool) (s n : Text) (k : Known) → looks_away s n ≡ true → at_sign i was s n k ≡ at_sign i was s [] k
looks i was s n k h = by (bytes_eq s (codes "<")) (bytes_eq n (codes "<")) (bytes_eq n (codes "=")) h where
  rest : Bool → Known
  rest e =
      if bytes_eq s (codes ">") then at_greater i e k k.pending
      else if bytes_eq s (codes "(") || bytes_eq s (codes "[") then record k { depth = suc k.depth }
      else if bytes_eq s (codes ")") || bytes_eq s (codes "]") then record k { pending = outside k.depth k.pending; depth = k.depth - 1 }
      else if (bytes_eq s (codes "!") || bytes_eq s (codes "=")) && e then record k { is_passed = true }
      else if bytes_eq s (codes "&&") || bytes_eq s (codes "||") then record k { pending = outside k.depth k.pending }
      else if bytes_eq s (codes "=") || bytes_eq s (codes ";") || bytes_eq s (codes "{") || bytes_eq s (codes ":") then record k { pending = []; depth = 0 }
      else k

  by : (a l e : Bool) → (not e && (not a || not l)) ≡ true → (if a then at_less i was l e k else rest e) ≡ (if a then at_less i was false false k else rest false)
  by a l true g = absurd (false≢true g)
  by true true false g = absurd (false≢true g)
  by true false false g = refl
  by false l false g = refl

-- the same of a bit
away : (i : ℕ) (w : What) (n : Text) (k : Known) → looks_away (sign_of w) n ≡ true → known_behind i w n k ≡ known_behind i w [] k
away i (a_name t) n k h = refl
away i (a_number t) n k h = refl
away i (a_sign t) n k h = ap (λ (z : Known). if k.is_passed then record k { is_passed = false; behind_name = false } else z) (looks i k.behind_name t n (record k { behind_name = false }) h)

-- ---- signs that touch

abbrev away_or_runs : Symbol → Symbol → Bool
away_or_runs a b = runs_on (last_of (symbol_text a)) (first_of (symbol_text b)) || looks_away (sign_of (last_what (sign_bits (symbol_text a)))) (sign_of (first_what (sign_bits (symbol_text b))))

signs_away : (a b : Symbol) → not (runs_on (last_of (symbol_text a)) (first_of (symbol_text b))) ≡ true → looks_away (sign_of (last_what (sign_bits (symbol_text a)))) (sign_of (first_what (sign_bits (symbol_text b)))) ≡ true
signs_away a b h = or_else (runs_on (last_of (symbol_text a)) (first_of (symbol_text b))) _ (each_two away_or_runs refl a b) h

-- tokens that may touch look away from one another
touching_away : (t u : Token) (i : ℕ) (k : Known) → may_touch (kind_of t) (kind_of u) ≡ true → known_behind i (last_what (token_bits t)) (sign_of (first_what (token_bits u))) k ≡ known_behind i (last_what (token_bits t)) [] k
touching_away t (name u) i k h = refl
touching_away t (number u) i k h = refl
touching_away (name t) (symbol r) i k h = refl
touching_away (name t) open_list i k h = refl
touching_away (name t) close_list i k h = refl
touching_away (number t) (symbol r) i k h = refl
touching_away (number t) open_list i k h = refl
touching_away (number t) close_list i k h = refl
touching_away (symbol s) (symbol r) i k h = away i (last_what (sign_bits (symbol_text s))) _ k (signs_away s r h)
touching_away (symbol s) open_list i k h = away i (last_what (sign_bits (symbol_text s))) _ k (signs_away s is.Less h)
touching_away (symbol s) close_list i k h = away i (last_what (sign_bits (symbol_text s))) _ k (signs_away s is.Greater h)
touching_away open_list (symbol r) i k h = away i (a_sign (codes "<")) (sign_of (first_what (sign_bits (symbol_text r)))) k (signs_away is.Less r h)
touching_away open_list open_list i k h = absurd (false≢true h)
touching_away open_list close_list i k h = away i (a_sign (codes "<")) (codes ">") k refl
touching_away close_list (symbol r) i k h = away i (a_sign (codes ">")) (sign_of (first_what (sign_bits (symbol_text r)))) k (signs_away is.Greater r h)
touching_away close_list open_list i k h = away i (a_sign (codes ">")) (codes "<") k refl
touching_away close_list close_list i k h = away i (a_sign (codes ">")) (codes ">") k refl

-- ---- what is right behind a token

sign_by : (w : What) (g : Bool) → elim w as (λ _. Text) [ a_name t ↦ [] | a_number t ↦ [] | a_sign t ↦ if g then t else [] ] ≡ (if g then sign_of w else [])
sign_by (a_name t) true = refl
sign_by (a_name t) false = refl
sign_by (a_number t) true = refl
sign_by (a_number t) false = refl
sign_by (a_sign t) g = refl

behind_glue : (bs rest : List Bit) (g : Bool) → one_apart bs ≡ true → sign_behind (set_glue g bs ++ rest) ≡ (if g then sign_of (first_what bs) else [])
behind_glue [] rest g h = absurd (false≢true h)
behind_glue (b ∷ bs) rest g h = sign_by b.what g

behind_apart : (bs rest : List Bit) → one_apart bs ≡ true → sign_behind (bs ++ rest) ≡ []
behind_apart [] rest h = absurd (false≢true h)
behind_apart (b ∷ bs) rest h = sign_by b.what b.is_glued ∙ ap (λ g. if g then sign_of b.what else []) (not-true b.is_glued (and_parts (not b.is_glued) _ h).0)

none_behind : (ts : List Token) → sign_behind (bits_apart ts) ≡ []
none_behind [] = refl
none_behind (t ∷ ts) = behind_apart (token_bits t) (bits_apart ts) (bits_apart_first t)

-- behind a token the same is known, whether the next one touches it or not
last_apart : (t : Token) (ls : List Laid) (i : ℕ) (k : Known) → are_laid (Some (kind_of t)) ls ≡ true → known_behind i (last_what (token_bits t)) (sign_behind (laid_bits true ls)) k ≡ known_behind i (last_what (token_bits t)) (sign_behind (bits_apart (laid_tokens ls))) k
last_apart t [] i k h = refl
last_apart t (l ∷ ls) i k h = ap at (behind_glue (token_bits l.token) (laid_bits true ls) (is_empty l.blanks) (bits_apart_first l.token)) ∙ (by (is_empty l.blanks) apart ∙ turned (ap at (none_behind (laid_tokens (l ∷ ls))))) where
  at : Text → Known
  at n = known_behind i (last_what (token_bits t)) n k

  apart : (not (is_empty l.blanks) || may_touch (kind_of t) (kind_of l.token)) ≡ true
  apart = (and_parts (not (is_empty l.blanks) || may_touch (kind_of t) (kind_of l.token)) (are_laid (Some (kind_of l.token)) ls) (and_parts (are_blanks l.blanks && is_spelled l.token) (are_apart (Some (kind_of t)) l.blanks (kind_of l.token) && are_laid (Some (kind_of l.token)) ls) h).1).0

  by : (b : Bool) → (not b || may_touch (kind_of t) (kind_of l.token)) ≡ true → known_behind i (last_what (token_bits t)) (if b then sign_of (first_what (token_bits l.token)) else []) k ≡ known_behind i (last_what (token_bits t)) [] k
  by true g = touching_away t l.token i k g
  by false g = refl

abbrev one_more : List Bit → Bool
one_more [] = false
one_more (b ∷ bs) = true

some_bits : (bs : List Bit) → one_apart bs ≡ true → one_more bs ≡ true
some_bits [] h = h
some_bits (b ∷ bs) h = refl

known_set : (g : Bool) (bs xs : List Bit) (i : ℕ) (k : Known) → known_from i k (set_glue g bs ++ xs) ≡ known_from i k (bs ++ xs)
known_set g [] xs i k = refl
known_set g (b ∷ bs) xs i k = refl

known_swap : (bs xs ys : List Bit) (i : ℕ) (k : Known) → one_more bs ≡ true → ((j : ℕ) (m : Known) → known_behind j (last_what bs) (sign_behind xs) m ≡ known_behind j (last_what bs) (sign_behind ys) m) → ((j : ℕ) (m : Known) → known_from j m xs ≡ known_from j m ys) → known_from i k (bs ++ xs) ≡ known_from i k (bs ++ ys)
known_swap [] xs ys i k s f g = absurd (false≢true s)
known_swap (b ∷ []) xs ys i k s f g = ap (λ m. known_from (suc i) m xs) (f i k) ∙ g (suc i) (known_behind i b.what (sign_behind ys) k)
known_swap (b ∷ c ∷ bs) xs ys i k s f g = known_swap (c ∷ bs) xs ys (suc i) (known_behind i b.what (sign_behind (c ∷ (bs ++ xs))) k) refl f g

known_laid : (ls : List Laid) (g : Bool) (before : Option Kind) (i : ℕ) (k : Known) → are_laid before ls ≡ true → known_from i k (laid_bits g ls) ≡ known_from i k (bits_apart (laid_tokens ls))
known_laid [] g before i k h = refl
known_laid (l ∷ ls) g before i k h =
    let x : ((are_blanks l.blanks && is_spelled l.token) ≡ true) × ((are_apart before l.blanks (kind_of l.token) && are_laid (Some (kind_of l.token)) ls) ≡ true) = and_parts _ _ h in
    let later : are_laid (Some (kind_of l.token)) ls ≡ true = (and_parts (are_apart before l.blanks (kind_of l.token)) (are_laid (Some (kind_of l.token)) ls) x.1).1 in
    known_set (g && is_empty l.blanks) (token_bits l.token) (laid_bits true ls) i k
    ∙ known_swap (token_bits l.token) (laid_bits true ls) (bits_apart (laid_tokens ls)) i k (some_bits (token_bits l.token) (bits_apart_first l.token)) (λ j m. last_apart l.token ls j m later) (λ j m. known_laid ls true (Some (kind_of l.token)) j m later)

-- the brackets are the same
pub brackets_laid : (ls : List Laid) → are_laid None ls ≡ true → brackets (laid_bits false ls) ≡ brackets (bits_apart (laid_tokens ls))
brackets_laid ls h = known_laid ls false None 0 nothing_known h
