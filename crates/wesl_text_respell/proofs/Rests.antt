-- Behind what tokens nothing is pending.
use Rattle.std.proofs.Common.{◌≡◌, ℕ, zero, suc, Bool, true, false, ◌&&◌, ◌||◌, ◌==◌, if◌then◌else◌, List, [], ◌∷◌, refl, sym as turned, ap, ◌∙◌, subst, eqb-true, arith}
use Rattle.std.proofs.lemmas.Bool.{eq-eqb}
use Rattle.wesl_text_tokens.specs.declared.symbol.Symbol.TheVariants as is
use Rattle.wesl_text_tokens.specs.Characters.{is_one_of}
use Rattle.wesl_text_tokens.specs.Symbols.{symbol_text}
use Rattle.wesl_text_tokens.specs.Brackets.{Known, at_greater, known_from}
use Rattle.wesl_text_tokens.specs.Tokens.{Token, name, number, symbol, open_list, close_list}
use Rattle.wesl_text_form.specs.Says.{sign_bits, token_bits}
use Rattle.wesl_text_reading.proofs.Filled.{no_true}
use Rattle.wesl_text_writable.proofs.Fresh.{Before, LacksOpen, LacksClosed}
use Rattle.wesl_text_writable.proofs.Grouped.{number_behind, IsBracketed}
use Rattle.wesl_text_writable.proofs.KnownApart.{before_joined}
use Rattle.wesl_text_writable.proofs.MadeApart.{AllBracketed}
use Rattle.wesl_text_writable.proofs.LeftOut.{number_of, state, bits_done}
use Rattle.wesl_text_respell.proofs.Pending.{IsSorted}
use Rattle.wesl_text_respell.proofs.Enclosed.{IsEnclosed, bits_within, symbol_within, opening_within, first_within, closing_within, last_within}
use Rattle.wesl_text_respell.proofs.Inside.{Leads, leads_bits, held, Bottom, Inside, bits_sorted, bits_inside}

-- what is told behind tokens: nothing; that nothing is pending; that so many lists are open in one that was opened where it was so;
-- or that so many parentheses are
pub data Rest : Type 0 where
  unknown : Rest
  rests : Rest
  inside : ℕ → Rest
  enclosed : ℕ → Rest

abbrev pub rest_step : Rest → Token → Rest
rest_step r (symbol is.Semicolon) = rests
rest_step r (symbol is.BraceLeft) = rests
rest_step r (symbol is.Colon) = rests
rest_step rests (symbol is.BraceRight) = rests
rest_step rests (symbol is.ColonColon) = rests
rest_step rests (symbol is.At) = rests
rest_step rests (symbol is.Comma) = rests
rest_step rests (symbol is.ParenLeft) = enclosed 0
rest_step rests (name t) = rests
rest_step rests open_list = inside 0
rest_step (inside n) open_list = inside (suc n)
rest_step (inside zero) close_list = rests
rest_step (inside (suc n)) close_list = inside n
rest_step (inside n) (name t) = inside n
rest_step (inside n) (number t) = inside n
rest_step (inside n) (symbol s) = inside n
rest_step (enclosed n) (symbol is.ParenLeft) = enclosed (suc n)
rest_step (enclosed n) (symbol is.BracketLeft) = enclosed (suc n)
rest_step (enclosed zero) (symbol is.ParenRight) = rests
rest_step (enclosed zero) (symbol is.BracketRight) = rests
rest_step (enclosed (suc n)) (symbol is.ParenRight) = enclosed n
rest_step (enclosed (suc n)) (symbol is.BracketRight) = enclosed n
rest_step (enclosed n) t = enclosed n
rest_step r t = unknown

abbrev pub rest_behind : Rest → List Token → Rest
rest_behind r [] = r
rest_behind r (t ∷ ts) = rest_behind (rest_step r t) ts

-- nothing is pending
abbrev pub Rests : Known → Type 0
Rests k = k.pending ≡ []

abbrev pub Told : Known → Rest → Known → Type 0
Told final unknown k = Unit {0}
Told final rests k = Rests k
Told final (inside n) k = Inside final n k.pending
Told final (enclosed n) k = IsEnclosed n k

-- ---- tokens of one piece

-- what is known where nothing is passed over
plain : (k : Known) (x y : Known) → k.is_passed ≡ false → (if k.is_passed then x else y) ≡ y
plain k x y h = ap (λ z. if z then x else y) h

module _ (final : Known) (i : ℕ) (k : Known) (h : k.is_passed ≡ false) where
  -- a bracket that opens a list
  opening_pushes : Before i k → is_one_of final.opened i ≡ true → Leads final (suc i) (known_from i k (token_bits open_list)) → (known_from i k (token_bits open_list)).pending ≡ (i, k.depth) ∷ k.pending
  opening_pushes b o e = ap (λ z. z.pending) (plain k (record k { is_passed = false; behind_name = false }) pushed h) ∙ by k.behind_name refl where
    made : Bool → Known
    made z = if false || (z && false) then record k { behind_name = false; is_passed = true } else if z then record k { behind_name = false; pending = (i, k.depth) ∷ k.pending } else record k { behind_name = false }

    pushed : Known
    pushed = made k.behind_name

    lost : k.behind_name ≡ false → ⊥
    lost q = no_true (turned (e.unopened i (omega arith) (subst (LacksOpen i) (turned (plain k (record k { is_passed = false; behind_name = false }) pushed h ∙ ap made q)) (b i (omega arith)).0)) ∙ o)

    by : (z : Bool) → k.behind_name ≡ z → pushed.pending ≡ (i, k.depth) ∷ k.pending
    by true q = ap (λ z. (made z).pending) q
    by false q = absurd (lost q)

  -- one that closes a list closes the newest
  closing_pops : (p : ℕ × ℕ) (ps : List (ℕ × ℕ)) → k.pending ≡ p ∷ ps → Before i k → is_one_of final.closed i ≡ true → Leads final (suc i) (known_from i k (token_bits close_list))
      → ((known_from i k (token_bits close_list)).pending ≡ ps) × (p.1 ≡ (known_from i k (token_bits close_list)).depth) × (is_one_of final.opened p.0 ≡ true)
  closing_pops p ps q b c e = by (p.1 == k.depth) refl where
    closed : Known
    closed = record k { behind_name = false; pending = ps; opened = p.0 ∷ k.opened; closed = i ∷ k.closed }

    made : Bool → Known
    made z = if z then closed else record k { behind_name = false; is_passed = false }

    is : known_from i k (token_bits close_list) ≡ made (p.1 == k.depth)
    is = plain k (record k { is_passed = false; behind_name = false }) (at_greater i false (record k { behind_name = false }) k.pending) h ∙ ap (λ z. at_greater i false (record k { behind_name = false }) z) q

    by : (z : Bool) → (p.1 == k.depth) ≡ z → ((known_from i k (token_bits close_list)).pending ≡ ps) × (p.1 ≡ (known_from i k (token_bits close_list)).depth) × (is_one_of final.opened p.0 ≡ true)
    by true g =
        let x : known_from i k (token_bits close_list) ≡ closed = is ∙ ap made g in
        (ap (λ z. z.pending) x, eqb-true p.1 k.depth g ∙ ap (λ z. z.depth) (turned x), e.opened p.0 (subst (λ z. is_one_of z.opened p.0 ≡ true) (turned x) (ap (λ z. z || is_one_of k.opened p.0) (eq-eqb p.0 p.0 refl))))
    by false g = absurd (no_true (turned (e.unclosed i (omega arith) (subst (LacksClosed i) (turned (is ∙ ap made g)) (b i (omega arith)).1)) ∙ c))

-- ---- lists that are open

-- the oldest of those that open lists is one of them
held_there : (final : Known) (ps : List (ℕ × ℕ)) → Bottom final ps → held final ps ≡ 0 → ⊥
held_there final [] b h = b
held_there final (p ∷ []) b h = let z : ⊥ = omega (arith, turned (ap (λ (z : Bool). if z then 1 else 0) b) ∙ h) in z
held_there final (p ∷ q ∷ ps) b h = by (is_one_of final.opened p.0) (λ g. held_there final (q ∷ ps) b g) h where
  by : (z : Bool) → (held final (q ∷ ps) ≡ 0 → ⊥) → (if z then suc (held final (q ∷ ps)) else held final (q ∷ ps)) ≡ 0 → ⊥
  by true f g = let z : ⊥ = omega (arith, g) in z
  by false f g = f g

held_less : (final : Known) (p : ℕ × ℕ) (ps : List (ℕ × ℕ)) (n : ℕ) → is_one_of final.opened p.0 ≡ true → held final (p ∷ ps) ≡ suc n → held final ps ≡ n
held_less final p ps n o h = let e : suc (held final ps) ≡ suc n = turned (ap (λ (z : Bool). if z then suc (held final ps) else held final ps) o) ∙ h in omega (arith, e)

last_closes : (final : Known) (p : ℕ × ℕ) (ps : List (ℕ × ℕ)) → is_one_of final.opened p.0 ≡ true → Inside final 0 (p ∷ ps) → ps ≡ []
last_closes final p [] o h = refl
last_closes final p (q ∷ qs) o h = absurd (held_there final (q ∷ qs) h.1 (held_less final p (q ∷ qs) 0 o h.0))

one_closes : (final : Known) (n : ℕ) (p : ℕ × ℕ) (ps : List (ℕ × ℕ)) → is_one_of final.opened p.0 ≡ true → Inside final (suc n) (p ∷ ps) → Inside final n ps
one_closes final n p [] o h = let e : 0 ≡ suc n = held_less final p [] (suc n) o h.0 in absurd (omega (arith, e))
one_closes final n p (q ∷ qs) o h = (held_less final p (q ∷ qs) (suc n) o h.0, h.1)

one_opens : (final : Known) (n i d : ℕ) (ps : List (ℕ × ℕ)) → is_one_of final.opened i ≡ true → Inside final n ps → Inside final (suc n) ((i, d) ∷ ps)
one_opens final n i d [] o h = absurd h.1
one_opens final n i d (q ∷ qs) o h = (ap (λ (z : Bool). if z then suc (held final (q ∷ qs)) else held final (q ∷ qs)) o ∙ ap (λ z. suc z) h.0, h.1)

first_opens : (final : Known) (i d : ℕ) (ps : List (ℕ × ℕ)) → is_one_of final.opened i ≡ true → ps ≡ [] → Inside final 0 ((i, d) ∷ ps)
first_opens final i d [] o e = (ap (λ (z : Bool). if z then 1 else 0) o, o)
first_opens final i d (p ∷ ps) o e = absurd (let z : ⊥ = cc in z)

-- ---- one token

module _ (final : Known) (i : ℕ) (k : Known) (h : k.is_passed ≡ false) (b : Before i k) (s : IsSorted i k) where
  abbrev Steps : Token → Rest → Type 0
  Steps t r = IsBracketed final i t → Leads final (number_behind i (token_bits t)) (known_from i k (token_bits t)) → Told final r k → Told final (rest_step r t) (known_from i k (token_bits t))

  -- what a token leaves as it is but for whether a name came before
  abbrev behind : Bool → Known
  behind z = record k { behind_name = z }

  abbrev cleared : Known
  cleared = record k { pending = []; depth = 0; behind_name = false }

  abbrev passed : Known
  passed = record k { is_passed = false; behind_name = false }

  clears : (x : Known) → x ≡ (if k.is_passed then passed else cleared) → Rests x
  clears x e = let q : x ≡ cleared = e ∙ plain k passed cleared h in ap (λ z. z.pending) q

  keeps : (x : Known) (z : Bool) → x ≡ (if k.is_passed then passed else behind z) → Rests k → Rests x
  keeps x z e r = let q : x ≡ behind z = e ∙ plain k passed (behind z) h in ap (λ y. y.pending) q ∙ r

  keeps_inside : (n : ℕ) (x : Known) (z : Bool) → x ≡ (if k.is_passed then passed else behind z) → Inside final n k.pending → Inside final n x.pending
  keeps_inside n x z e a = subst (λ y. Inside final n y.pending) (turned (e ∙ plain k passed (behind z) h)) a

  closes : (n : ℕ) (r : Rest) → ((p : ℕ × ℕ) (ps : List (ℕ × ℕ)) → is_one_of final.opened p.0 ≡ true → Inside final n (p ∷ ps) → p.1 ≡ (known_from i k (token_bits close_list)).depth
      → (known_from i k (token_bits close_list)).pending ≡ ps → Told final r (known_from i k (token_bits close_list)))
      → IsBracketed final i close_list → Leads final (suc i) (known_from i k (token_bits close_list)) → Inside final n k.pending → Told final r (known_from i k (token_bits close_list))
  closes n r f a e x = by k.pending refl where
    by : (ps : List (ℕ × ℕ)) → k.pending ≡ ps → Told final r (known_from i k (token_bits close_list))
    by [] q = absurd (subst (λ z. Bottom final z) q x.1)
    by (p ∷ ps) q =
        let y : ((known_from i k (token_bits close_list)).pending ≡ ps) × (p.1 ≡ (known_from i k (token_bits close_list)).depth) × (is_one_of final.opened p.0 ≡ true) = closing_pops final i k h p ps q b a.1 e in
        f p ps y.2 (subst (λ z. Inside final n z) q x) y.1 y.0

  pub told_step : (t : Token) (r : Rest) → Steps t r
  told_step (symbol is.Semicolon) r a e x = clears (known_from i k (token_bits (symbol is.Semicolon))) refl
  told_step (symbol is.BraceLeft) r a e x = clears (known_from i k (token_bits (symbol is.BraceLeft))) refl
  told_step (symbol is.Colon) r a e x = clears (known_from i k (token_bits (symbol is.Colon))) refl
  told_step (symbol is.BraceRight) rests a e x = keeps (known_from i k (token_bits (symbol is.BraceRight))) false refl x
  told_step (symbol is.ColonColon) rests a e x = keeps (known_from i k (token_bits (symbol is.ColonColon))) false refl x
  told_step (name t) rests a e x = keeps (known_from i k (token_bits (name t))) true refl x
  told_step (symbol is.At) rests a e x = keeps (known_from i k (token_bits (symbol is.At))) false refl x
  told_step (symbol is.Comma) rests a e x = keeps (known_from i k (token_bits (symbol is.Comma))) false refl x
  told_step (symbol is.ParenLeft) rests a e x = first_within i k h x (known_from i k (token_bits (symbol is.ParenLeft))) refl
  told_step open_list rests a e x = subst (λ z. Inside final 0 z) (turned (opening_pushes final i k h b a e)) (first_opens final i k.depth k.pending a x)
  told_step open_list (inside n) a e x = subst (λ z. Inside final (suc n) z) (turned (opening_pushes final i k h b a e)) (one_opens final n i k.depth k.pending a x)
  told_step close_list (inside zero) a e x = closes zero rests (λ p ps o y d q. q ∙ last_closes final p ps o y) a e x
  told_step close_list (inside (suc n)) a e x = closes (suc n) (inside n) (λ p ps o y d q. subst (λ z. Inside final n z) (turned q) (one_closes final n p ps o y)) a e x
  told_step (name t) (inside n) a e x = keeps_inside n (known_from i k (token_bits (name t))) true refl x
  told_step (number t) (inside n) a e x = keeps_inside n (known_from i k (token_bits (number t))) false refl x
  told_step (symbol y) (inside n) a e x = bits_inside final n (sign_bits (symbol_text y)) i k a b s e x
  told_step (symbol is.ParenLeft) (enclosed n) a e x = opening_within i k h n x (known_from i k (token_bits (symbol is.ParenLeft))) refl
  told_step (symbol is.BracketLeft) (enclosed n) a e x = opening_within i k h n x (known_from i k (token_bits (symbol is.BracketLeft))) refl
  told_step (symbol is.ParenRight) (enclosed zero) a e x = last_within i k h x (known_from i k (token_bits (symbol is.ParenRight))) refl
  told_step (symbol is.BracketRight) (enclosed zero) a e x = last_within i k h x (known_from i k (token_bits (symbol is.BracketRight))) refl
  told_step (symbol is.ParenRight) (enclosed (suc n)) a e x = closing_within i k h n x (known_from i k (token_bits (symbol is.ParenRight))) refl
  told_step (symbol is.BracketRight) (enclosed (suc n)) a e x = closing_within i k h n x (known_from i k (token_bits (symbol is.BracketRight))) refl
  told_step (symbol y) (enclosed n) a e x = symbol_within n y i k refl x
  told_step t (enclosed n) a e x = bits_within n (token_bits t) i k refl x
  told_step t r a e x = tt

-- ---- all tokens

pub leads_tokens : (final : Known) (ts : List Token) (i : ℕ) (k : Known) → Leads final (number_of i ts) (state i k ts) → Leads final i k
leads_tokens final [] i k x = x
leads_tokens final (t ∷ ts) i k x = leads_bits final (token_bits t) i k (leads_tokens final ts (number_behind i (token_bits t)) (known_from i k (token_bits t)) x)

-- what is told behind tokens that are bracketed so
pub told_behind : (final : Known) (ts : List Token) (i : ℕ) (k : Known) (r : Rest) → k.is_passed ≡ false → Before i k → IsSorted i k → AllBracketed final i ts → Leads final (number_of i ts) (state i k ts) → Told final r k
    → Told final (rest_behind r ts) (state i k ts)
told_behind final [] i k r h b s a e x = x
told_behind final (t ∷ ts) i k r h b s a e x =
    let m : Known = known_from i k (token_bits t) in
    told_behind final ts (number_behind i (token_bits t)) m (rest_step r t) (bits_done (token_bits t) i k h) (before_joined (token_bits t) i k b) (bits_sorted (token_bits t) i k b s) a.1 e
    (told_step final i k h b s t r a.0 (leads_tokens final ts (number_behind i (token_bits t)) m e) x)
