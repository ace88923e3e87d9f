-- What stands behind a token in laid out text does not run on with it.
use Rattle.std.proofs.Common.{◌≡◌, ℕ, Bool, true, false, not, ◌&&◌, ◌||◌, ◌==◌, List, [], ◌∷◌, ◌++◌, Some, refl, sym as turned, ap, ◌∙◌, subst, codes, eqb-true, append_assoc, arith}
use Rattle.std.specs.List.{list_all}
use Rattle.std.specs.Str.{chars}
use Rattle.std.proofs.lemmas.Bool.{false≢true, and_parts, not-true}
use Rattle.wesl_tree_base.specs.Pieces.{is_empty}
use Rattle.wesl_text_tokens.specs.declared.symbol.Symbol.{Symbol}
use Rattle.wesl_text_tokens.specs.declared.symbol.Symbol.TheVariants as is
use Rattle.wesl_text_tokens.specs.Characters.{is_one_of, is_digit, is_doubled, begins_name, goes_on_name}
use Rattle.wesl_text_tokens.specs.Symbols.{symbol_text}
use Rattle.wesl_text_tokens.specs.Tokens.{Token, name, number, symbol, open_list, close_list}
use Rattle.wesl_text_tokens.proofs.SymbolTexts.{each, symbols}
use Rattle.wesl_text_sink.specs.Layout.{Laid, are_apart, are_blanks, are_laid, is_spelled, kind_of, token_text}
use Rattle.wesl_text_sink.specs.Touching.{first_of, last_of, may_touch, runs_on}
use Rattle.wesl_text_sink.proofs.Pieces.{BeginsAs, Follows, Reads, goes_no_number, is_single}
use Rattle.wesl_text_sink.proofs.Runs.{begins_number}
use mathlib.Core.Bool.{and-false}

-- ---- tests of characters

-- a test that is passed by one of these
pub one_passes : (q : ℕ → Bool) (ds : List ℕ) (c : ℕ) → list_all q ds ≡ true → is_one_of ds c ≡ true → q c ≡ true
one_passes q [] c a h = absurd (false≢true h)
one_passes q (d ∷ ds) c a h = by (and_parts (q d) (list_all q ds) a).0 (one_passes q ds c (and_parts (q d) (list_all q ds) a).1) (c == d) refl h where
  by : q d ≡ true → (is_one_of ds c ≡ true → q c ≡ true) → (b : Bool) → (c == d) ≡ b → (b || is_one_of ds c) ≡ true → q c ≡ true
  by x others true e g = subst (λ (z : ℕ). q z ≡ true) (turned (eqb-true c d e)) x
  by x others false e g = others g

-- ---- what may stand behind a sign

single_parts : (a b d e : Bool) → a ≡ false → b ≡ false → d ≡ false → e ≡ false → (not a && (not b && (not d && not e))) ≡ true
single_parts a b d e h g f k = ap (λ z. not z && (not b && (not d && not e))) h ∙ (ap (λ z. not z && (not d && not e)) g ∙ (ap (λ z. not z && not e) f ∙ ap not k))

no_match : (q : ℕ → Bool) (c d : ℕ) → q c ≡ true → q d ≡ false → (c == d) ≡ false
no_match q c d h g = by (c == d) refl where
  by : (b : Bool) → (c == d) ≡ b → b ≡ false
  by true e = absurd (false≢true (turned g ∙ (ap q (turned (eqb-true c d e)) ∙ h)))
  by false e = refl

and_last : (x y : Bool) → y ≡ false → (x && y) ≡ false
and_last x y e = ap (λ z. x && z) e ∙ and-false x

-- signs of which two alike are one piece
doubled_differ : (q : ℕ → Bool) (s c : ℕ) → list_all (λ d. not (q d)) (codes "&|+-:") ≡ true → q c ≡ true → ((s == c) && is_doubled s) ≡ false
doubled_differ q s c a h = by (s == c) (is_doubled s) refl refl where
  by : (x y : Bool) → (s == c) ≡ x → is_doubled s ≡ y → (x && y) ≡ false
  by false y e g = refl
  by true false e g = refl
  by true true e g = absurd (false≢true (turned (not-true (q s) (one_passes (λ d. not (q d)) (codes "&|+-:") s a g)) ∙ (ap q (eqb-true s c e) ∙ h)))

-- characters of which none begins a comment or is doubled stand behind a sign, unless a dot stands before a digit
single_before : (q : ℕ → Bool) (s c : ℕ) → q 47 ≡ false → q 42 ≡ false → list_all (λ d. not (q d)) (codes "&|+-:") ≡ true → q c ≡ true → ((s == 46) && is_digit c) ≡ false → is_single s c ≡ true
single_before q s c n m a h d =
    single_parts ((s == 47) && (c == 47)) ((s == 47) && (c == 42)) ((s == 46) && is_digit c) ((s == c) && is_doubled s)
    (and_last (s == 47) (c == 47) (no_match q c 47 h n)) (and_last (s == 47) (c == 42) (no_match q c 42 h m)) d (doubled_differ q s c a h)

name_no_digit : (c : ℕ) → begins_name c ≡ true → is_digit c ≡ false
name_no_digit c h = grind arith

before_name : (s c : ℕ) → begins_name c ≡ true → is_single s c ≡ true
before_name s c h = single_before begins_name s c refl refl refl h (and_last (s == 46) (is_digit c) (name_no_digit c h))

before_number : (s c : ℕ) → (s == 46) ≡ false → begins_number c ≡ true → is_single s c ≡ true
before_number s c e h = single_before begins_number s c refl refl refl h (ap (λ z. z && is_digit c) e)

abbrev pub is_space : ℕ → Bool
is_space = is_one_of (codes " \n")

before_blank : (s c : ℕ) → is_space c ≡ true → is_single s c ≡ true
before_blank s c h = single_before is_space s c refl refl refl h (and_last (s == 46) (is_digit c) (not-true (is_digit c) (one_passes (λ d. not (is_digit d)) (codes " \n") c refl h)))

abbrev pub of_signs : (Symbol → Symbol → Bool) → Bool
of_signs q = list_all (λ x. list_all (λ y. q x y) symbols) symbols

pub each_two : (q : Symbol → Symbol → Bool) → of_signs q ≡ true → (a b : Symbol) → q a b ≡ true
each_two q h a b = each (λ y. q a y) (each (λ x. list_all (λ y. q x y) symbols) h a) b

abbrev runs_or_single : Symbol → Symbol → Bool
runs_or_single a b = runs_on (last_of (symbol_text a)) (first_of (symbol_text b)) || is_single (last_of (symbol_text a)) (first_of (symbol_text b))

pub or_else : (x y : Bool) → (x || y) ≡ true → not x ≡ true → y ≡ true
or_else true y h g = absurd (false≢true g)
or_else false y h g = h

before_sign : (a b : Symbol) → not (runs_on (last_of (symbol_text a)) (first_of (symbol_text b))) ≡ true → is_single (last_of (symbol_text a)) (first_of (symbol_text b)) ≡ true
before_sign a b h = or_else (runs_on (last_of (symbol_text a)) (first_of (symbol_text b))) _ (each_two runs_or_single refl a b) h

-- ---- what follows a token

abbrev after_name : Symbol → Bool
after_name s = not (goes_on_name (first_of (symbol_text s)))

abbrev ends_number : ℕ → Bool
ends_number c = not (goes_on_name c) && goes_no_number c

abbrev after_number : Symbol → Bool
after_number s = (first_of (symbol_text s) == 46) || ends_number (first_of (symbol_text s))

blank_follows : (t : Token) (c : ℕ) (cs : List ℕ) → is_space c ≡ true → Follows t (c ∷ cs)
blank_follows (name t) c cs h = one_passes (λ d. not (goes_on_name d)) (codes " \n") c refl h
blank_follows (number t) c cs h = one_passes ends_number (codes " \n") c refl h
blank_follows (symbol s) c cs h = before_blank (last_of (symbol_text s)) c h
blank_follows open_list c cs h = before_blank 60 c h
blank_follows close_list c cs h = before_blank 62 c h

-- the first character of a token that may touch
touching_follows : (t u : Token) (cs rest : List ℕ) → may_touch (kind_of t) (kind_of u) ≡ true → BeginsAs u cs → Follows t (cs ++ rest)
touching_follows t u [] rest h b = absurd b
touching_follows (name t) (name u) (c ∷ cs) rest h b = absurd (false≢true h)
touching_follows (name t) (number u) (c ∷ cs) rest h b = absurd (false≢true h)
touching_follows (name t) (symbol s) (c ∷ cs) rest h b = subst (λ (z : ℕ). not (goes_on_name z) ≡ true) (turned b) (each after_name refl s)
touching_follows (name t) open_list (c ∷ cs) rest h b = subst (λ (z : ℕ). not (goes_on_name z) ≡ true) (turned b) refl
touching_follows (name t) close_list (c ∷ cs) rest h b = subst (λ (z : ℕ). not (goes_on_name z) ≡ true) (turned b) refl
touching_follows (number t) (name u) (c ∷ cs) rest h b = absurd (false≢true h)
touching_follows (number t) (number u) (c ∷ cs) rest h b = absurd (false≢true h)
touching_follows (number t) (symbol s) (c ∷ cs) rest h b = subst (λ (z : ℕ). ends_number z ≡ true) (turned b) (or_else (first_of (symbol_text s) == 46) (ends_number (first_of (symbol_text s))) (each after_number refl s) h)
touching_follows (number t) open_list (c ∷ cs) rest h b = subst (λ (z : ℕ). ends_number z ≡ true) (turned b) refl
touching_follows (number t) close_list (c ∷ cs) rest h b = subst (λ (z : ℕ). ends_number z ≡ true) (turned b) refl
touching_follows (symbol s) (name u) (c ∷ cs) rest h b = before_name (last_of (symbol_text s)) c b
touching_follows (symbol s) (number u) (c ∷ cs) rest h b = before_number (last_of (symbol_text s)) c (not-true (last_of (symbol_text s) == 46) h) b
touching_follows (symbol s) (symbol r) (c ∷ cs) rest h b = subst (λ (z : ℕ). is_single (last_of (symbol_text s)) z ≡ true) (turned b) (before_sign s r h)
touching_follows (symbol s) open_list (c ∷ cs) rest h b = subst (λ (z : ℕ). is_single (last_of (symbol_text s)) z ≡ true) (turned b) (before_sign s is.Less h)
touching_follows (symbol s) close_list (c ∷ cs) rest h b = subst (λ (z : ℕ). is_single (last_of (symbol_text s)) z ≡ true) (turned b) (before_sign s is.Greater h)
touching_follows open_list (name u) (c ∷ cs) rest h b = before_name 60 c b
touching_follows open_list (number u) (c ∷ cs) rest h b = before_number 60 c refl b
touching_follows open_list (symbol r) (c ∷ cs) rest h b = subst (λ (z : ℕ). is_single 60 z ≡ true) (turned b) (before_sign is.Less r h)
touching_follows open_list open_list (c ∷ cs) rest h b = subst (λ (z : ℕ). is_single 60 z ≡ true) (turned b) refl
touching_follows open_list close_list (c ∷ cs) rest h b = subst (λ (z : ℕ). is_single 60 z ≡ true) (turned b) refl
touching_follows close_list (name u) (c ∷ cs) rest h b = before_name 62 c b
touching_follows close_list (number u) (c ∷ cs) rest h b = before_number 62 c refl b
touching_follows close_list (symbol r) (c ∷ cs) rest h b = subst (λ (z : ℕ). is_single 62 z ≡ true) (turned b) (before_sign is.Greater r h)
touching_follows close_list open_list (c ∷ cs) rest h b = subst (λ (z : ℕ). is_single 62 z ≡ true) (turned b) refl
touching_follows close_list close_list (c ∷ cs) rest h b = subst (λ (z : ℕ). is_single 62 z ≡ true) (turned b) refl

-- ---- laid out tokens

-- each token is read as its bits
abbrev pub AllRead : List Laid → Type 0
AllRead [] = Unit {0}
AllRead (l ∷ ls) = Reads l.token × AllRead ls

-- the characters of laid out text
abbrev pub laid_chars : List Laid → List ℕ
laid_chars [] = []
laid_chars (l ∷ ls) = l.blanks ++ (chars (token_text l.token) ++ laid_chars ls)

blanks_first : (t : Token) (bs cs : List ℕ) → are_blanks bs ≡ true → is_empty bs ≡ false → Follows t (bs ++ cs)
blanks_first t [] cs h g = absurd (false≢true (turned g))
blanks_first t (b ∷ bs) cs h g = blank_follows t b (bs ++ cs) (and_parts (is_space b) (are_blanks bs) h).0

-- what stands behind a token
pub next_follows : (t : Token) (ls : List Laid) (e : List ℕ) → AllRead ls → are_laid (Some (kind_of t)) ls ≡ true → are_blanks e ≡ true → Follows t (laid_chars ls ++ e)
next_follows t [] [] r h g = tt
next_follows t [] (c ∷ e) r h g = blank_follows t c e (and_parts (is_space c) (are_blanks e) g).0
next_follows t (l ∷ ls) e r h g = by l.blanks refl where
  x : ((are_blanks l.blanks && is_spelled l.token) ≡ true) × ((are_apart (Some (kind_of t)) l.blanks (kind_of l.token) && are_laid (Some (kind_of l.token)) ls) ≡ true)
  x = and_parts _ _ h

  apart : are_apart (Some (kind_of t)) l.blanks (kind_of l.token) ≡ true
  apart = (and_parts _ _ x.1).0

  blanks : are_blanks l.blanks ≡ true
  blanks = (and_parts _ _ x.0).0

  by : (bs : List ℕ) → l.blanks ≡ bs → Follows t ((l.blanks ++ (chars (token_text l.token) ++ laid_chars ls)) ++ e)
  by [] q = subst (Follows t) (turned (again (ap (λ (z : List ℕ). (z ++ (chars (token_text l.token) ++ laid_chars ls)) ++ e) q))) (touching_follows t l.token (chars (token_text l.token)) (laid_chars ls ++ e) (ap (λ (z : List ℕ). not (is_empty z) || may_touch (kind_of t) (kind_of l.token)) (turned q) ∙ apart) r.0.begin) where
    again : {x : List ℕ} → x ≡ (chars (token_text l.token) ++ laid_chars ls) ++ e → x ≡ chars (token_text l.token) ++ (laid_chars ls ++ e)
    again p = p ∙ append_assoc (chars (token_text l.token)) (laid_chars ls) e
  by (b ∷ bs) q = subst (Follows t) (turned (append_assoc l.blanks (chars (token_text l.token) ++ laid_chars ls) e)) (blanks_first t l.blanks _ blanks (ap is_empty q))
