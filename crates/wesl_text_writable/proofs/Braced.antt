-- A colon before a body has no bearing on it: nothing before `{` reaches back over it.
use Rattle.std.proofs.Common.{◌≡◌, ◌≤◌, ◌<◌, ◌⊎◌, ℕ, zero, suc, ◌+◌, ◌-◌, Bool, true, false, not, ◌&&◌, ◌||◌, ◌==◌, if◌then◌else◌, List, [], ◌∷◌, ◌++◌, Option, Some, None, refl, sym as turned, inl, inr, ap, ◌∙◌, subst, codes, bytes_eq, nat_lt, eqb-true, arith}
use Rattle.std.proofs.lemmas.Bool.{and_parts, eq-eqb, eqb-false, ne_eqb}
use Rattle.std.proofs.lemmas.Bool.Decides.{leb_tells}
use Rattle.wesl_tree_names.specs.Path.{Text}
use Rattle.wesl_text_tokens.specs.declared.symbol.Symbol.TheVariants as is
use Rattle.wesl_text_tokens.specs.Pieces.{What, a_name, a_number, a_sign, Bit}
use Rattle.wesl_text_tokens.specs.Brackets.{Known, outside, at_greater, at_less, at_sign, at_what, known_behind}
use Rattle.wesl_text_tokens.specs.Tokens.{Token, symbol}
use Rattle.wesl_text_form.specs.Slots.{Slot, must, may, alone}
use Rattle.wesl_text_form.specs.Says.{token_bits}
use Rattle.wesl_text_reading.proofs.Filled.{no_true}
use Rattle.wesl_text_reading.proofs.Classes.{denied}

-- ---- two runs, of which one knows of `<` from before

-- `<` in more parentheses
abbrev pub lift : ℕ → List (ℕ × ℕ) → List (ℕ × ℕ) → List (ℕ × ℕ)
lift e before [] = before
lift e before (p ∷ ps) = (p.0, p.1 + e) ∷ lift e before ps

-- none in more than so many
abbrev pub Within : ℕ → List (ℕ × ℕ) → Type 0
Within e [] = Unit {0}
Within e (p ∷ ps) = (p.1 ≤ e) × Within e ps

-- the same with `<` before all, in more parentheses
abbrev pub raise : ℕ → List (ℕ × ℕ) → Known → Known
raise e before k = record k { pending = lift e before k.pending; depth = k.depth + e }

-- the second knows of `<` before, in no more parentheses than stand before; or both know the same
abbrev pub Alike : ℕ → Known → Known → Type 0
Alike n a b = (a ≡ b) ⊎ ((e : ℕ) × (before : List (ℕ × ℕ)) × Within e before × (a.depth ≡ n) × (b ≡ raise e before a))

either_alike : (n : ℕ) (b : Bool) (x y v w : Known) → Alike n x v → Alike n y w → Alike n (if b then x else y) (if b then v else w)
either_alike n true x y v w h g = h
either_alike n false x y v w h g = g

not_alike : (n : ℕ) (b : Bool) (x y v w : Known) → b ≡ false → Alike n y w → Alike n (if b then x else y) (if b then v else w)
not_alike n true x y v w e g = absurd (no_true (turned e))
not_alike n false x y v w e g = g

same_more : (a b e : ℕ) → (a + e == b + e) ≡ (a == b)
same_more a b e = by (a == b) refl where
  by : (z : Bool) → (a == b) ≡ z → (a + e == b + e) ≡ (a == b)
  by true h = eq-eqb (a + e) (b + e) (ap (λ z. z + e) (eqb-true a b h)) ∙ turned h
  by false h = ne_eqb (a + e) (b + e) (λ q. eqb-false a b h (omega (arith, q))) ∙ turned h

less_more : (a b e : ℕ) → nat_lt (a + e) (b + e) ≡ nat_lt a b
less_more a b e = by (leb_tells (suc a) b) (leb_tells (suc (a + e)) (b + e)) where
  by : ((nat_lt a b ≡ true) × (suc a ≤ b)) ⊎ ((nat_lt a b ≡ false) × (b < suc a)) → ((nat_lt (a + e) (b + e) ≡ true) × (suc (a + e) ≤ b + e)) ⊎ ((nat_lt (a + e) (b + e) ≡ false) × (b + e < suc (a + e))) → nat_lt (a + e) (b + e) ≡ nat_lt a b
  by (inl x) (inl y) = y.0 ∙ turned x.0
  by (inr x) (inr y) = y.0 ∙ turned x.0
  by (inl x) (inr y) = absurd (omega (arith, x.1, y.1))
  by (inr x) (inl y) = absurd (omega (arith, x.1, y.1))

outside_within : (e m : ℕ) (ps : List (ℕ × ℕ)) → Within e ps → Within e (outside m ps)
outside_within e m [] h = tt
outside_within e m (p ∷ ps) h = by (nat_lt p.1 m) (outside_within e m ps h.1) where
  by : (z : Bool) → Within e (outside m ps) → Within e (if z then p ∷ ps else outside m ps)
  by true k = h
  by false k = k

-- those outside, and those from before that are
pub outside_lift : (e n : ℕ) (before ps : List (ℕ × ℕ)) → Within e before → (left : List (ℕ × ℕ)) × Within e left × (outside (n + e) (lift e before ps) ≡ lift e left (outside n ps))
outside_lift e n before [] h = (outside (n + e) before, outside_within e (n + e) before h, refl)
outside_lift e n before (p ∷ ps) h = by (nat_lt p.1 n) (outside_lift e n before ps h) (less_more p.1 n e) where
  by : (z : Bool) → ((left : List (ℕ × ℕ)) × Within e left × (outside (n + e) (lift e before ps) ≡ lift e left (outside n ps))) → nat_lt (p.1 + e) (n + e) ≡ z
      → (left : List (ℕ × ℕ)) × Within e left × ((if nat_lt (p.1 + e) (n + e) then (p.0, p.1 + e) ∷ lift e before ps else outside (n + e) (lift e before ps)) ≡ lift e left (if z then p ∷ ps else outside n ps))
  by true k q = (before, h, ap (λ z. if z then (p.0, p.1 + e) ∷ lift e before ps else outside (n + e) (lift e before ps)) q)
  by false k q = (k.0, k.1, ap (λ z. if z then (p.0, p.1 + e) ∷ lift e before ps else outside (n + e) (lift e before ps)) q ∙ k.2)

-- a piece that is no parenthesis, nor `>` outside of all
abbrev pub is_level : ℕ → What → Bool
is_level zero (a_sign s) = not (bytes_eq s (codes "(") || bytes_eq s (codes "[")) && (not (bytes_eq s (codes ")") || bytes_eq s (codes "]")) && not (bytes_eq s (codes ">")))
is_level (suc n) (a_sign s) = not (bytes_eq s (codes "(") || bytes_eq s (codes "[")) && not (bytes_eq s (codes ")") || bytes_eq s (codes "]"))
is_level n w = true

no_paren : (n : ℕ) (s : Text) → is_level n (a_sign s) ≡ true → ((bytes_eq s (codes "(") || bytes_eq s (codes "[")) ≡ false) × ((bytes_eq s (codes ")") || bytes_eq s (codes "]")) ≡ false)
no_paren zero s h =
    let x : (not (bytes_eq s (codes "(") || bytes_eq s (codes "[")) ≡ true) × ((not (bytes_eq s (codes ")") || bytes_eq s (codes "]")) && not (bytes_eq s (codes ">"))) ≡ true) = and_parts (not (bytes_eq s (codes "(") || bytes_eq s (codes "["))) (not (bytes_eq s (codes ")") || bytes_eq s (codes "]")) && not (bytes_eq s (codes ">"))) h in
    (denied (bytes_eq s (codes "(") || bytes_eq s (codes "[")) x.0, denied (bytes_eq s (codes ")") || bytes_eq s (codes "]")) (and_parts (not (bytes_eq s (codes ")") || bytes_eq s (codes "]"))) (not (bytes_eq s (codes ">"))) x.1).0)
no_paren (suc n) s h =
    let x : (not (bytes_eq s (codes "(") || bytes_eq s (codes "[")) ≡ true) × (not (bytes_eq s (codes ")") || bytes_eq s (codes "]")) ≡ true) = and_parts (not (bytes_eq s (codes "(") || bytes_eq s (codes "["))) (not (bytes_eq s (codes ")") || bytes_eq s (codes "]"))) h in
    (denied (bytes_eq s (codes "(") || bytes_eq s (codes "[")) x.0, denied (bytes_eq s (codes ")") || bytes_eq s (codes "]")) x.1)

-- `>` stands in parentheses alone
greater_within : (n : ℕ) (s : Text) → is_level n (a_sign s) ≡ true → bytes_eq s (codes ">") ≡ true → 0 < n
greater_within zero s h g =
    let x : (not (bytes_eq s (codes "(") || bytes_eq s (codes "[")) ≡ true) × ((not (bytes_eq s (codes ")") || bytes_eq s (codes "]")) && not (bytes_eq s (codes ">"))) ≡ true) = and_parts (not (bytes_eq s (codes "(") || bytes_eq s (codes "["))) (not (bytes_eq s (codes ")") || bytes_eq s (codes "]")) && not (bytes_eq s (codes ">"))) h in
    absurd (no_true (turned (denied (bytes_eq s (codes ">")) (and_parts (not (bytes_eq s (codes ")") || bytes_eq s (codes "]"))) (not (bytes_eq s (codes ">"))) x.1).1) ∙ g))
greater_within (suc n) s h g = omega arith

module _ (i : ℕ) (next : Text) (n e : ℕ) (before : List (ℕ × ℕ)) (within : Within e before) where
  -- the same raised
  raised : (a b : Known) → a.depth ≡ n → b ≡ raise e before a → Alike n a b
  raised a b d q = inr (e, before, within, d, q)

  less_alike : (z x y : Bool) (a : Known) → a.depth ≡ n → Alike n (at_less i z x y a) (at_less i z x y (raise e before a))
  less_alike z x y a d =
      either_alike n (y || (z && x)) (record a { is_passed = true }) (if z then record a { pending = (i, a.depth) ∷ a.pending } else a)
      (record (raise e before a) { is_passed = true }) (if z then record (raise e before a) { pending = (i, a.depth + e) ∷ lift e before a.pending } else raise e before a)
      (raised (record a { is_passed = true }) (record (raise e before a) { is_passed = true }) d refl)
      (either_alike n z (record a { pending = (i, a.depth) ∷ a.pending }) a (record (raise e before a) { pending = (i, a.depth + e) ∷ lift e before a.pending }) (raise e before a)
      (raised (record a { pending = (i, a.depth) ∷ a.pending }) (record (raise e before a) { pending = (i, a.depth + e) ∷ lift e before a.pending }) d refl)
      (raised a (raise e before a) d refl))

  greater_alike : (y : Bool) (a : Known) → 0 < n → a.depth ≡ n → (ps : List (ℕ × ℕ)) → Alike n (at_greater i y a ps) (at_greater i y (raise e before a) (lift e before ps))
  greater_alike y a l d [] = by before within where
    stays : Alike n (record a { is_passed = y }) (record (raise e before a) { is_passed = y })
    stays = raised (record a { is_passed = y }) (record (raise e before a) { is_passed = y }) d refl

    by : (qs : List (ℕ × ℕ)) → Within e qs → Alike n (record a { is_passed = y }) (at_greater i y (raise e before a) qs)
    by [] w = stays
    by (q ∷ qs) w =
        subst (λ z. Alike n (record a { is_passed = y }) (if z then record (raise e before a) { pending = qs; opened = q.0 ∷ a.opened; closed = i ∷ a.closed } else record (raise e before a) { is_passed = y }))
        (turned (ne_eqb q.1 (a.depth + e) (λ h. let z : ⊥ = omega (arith, h, w.0, l, d) in z))) stays
  greater_alike y a l d (p ∷ ps) =
      subst (λ z. Alike n (at_greater i y a (p ∷ ps)) (if z then closing else record (raise e before a) { is_passed = y })) (turned (same_more p.1 a.depth e))
      (either_alike n (p.1 == a.depth) (record a { pending = ps; opened = p.0 ∷ a.opened; closed = i ∷ a.closed }) (record a { is_passed = y }) closing (record (raise e before a) { is_passed = y })
      (raised (record a { pending = ps; opened = p.0 ∷ a.opened; closed = i ∷ a.closed }) closing d refl)
      (raised (record a { is_passed = y }) (record (raise e before a) { is_passed = y }) d refl)) where
        closing : Known
        closing = record (raise e before a) { pending = lift e before ps; opened = p.0 ∷ a.opened; closed = i ∷ a.closed }

  outside_alike : (a : Known) → a.depth ≡ n → Alike n (record a { pending = outside a.depth a.pending }) (record (raise e before a) { pending = outside (a.depth + e) (lift e before a.pending) })
  outside_alike a d =
      let x : (left : List (ℕ × ℕ)) × Within e left × (outside (a.depth + e) (lift e before a.pending) ≡ lift e left (outside a.depth a.pending)) = outside_lift e a.depth before a.pending within in
      inr (e, x.0, x.1, d, ap (λ z. record (raise e before a) { pending = z }) x.2)

  sign_alike : (z : Bool) (s : Text) (a : Known) → a.depth ≡ n → is_level n (a_sign s) ≡ true → Alike n (at_sign i z s next a) (at_sign i z s next (raise e before a))
  sign_alike z s a d h =
      let x : ((bytes_eq s (codes "(") || bytes_eq s (codes "[")) ≡ false) × ((bytes_eq s (codes ")") || bytes_eq s (codes "]")) ≡ false) = no_paren n s h in
      either_alike n (bytes_eq s (codes "<")) _ _ _ _ (less_alike z (bytes_eq next (codes "<")) (bytes_eq next (codes "=")) a d)
      (greater _ _ (bytes_eq s (codes ">")) refl
      (not_alike n (bytes_eq s (codes "(") || bytes_eq s (codes "[")) (record a { depth = suc a.depth }) _ (record (raise e before a) { depth = suc (a.depth + e) }) _ x.0
      (not_alike n (bytes_eq s (codes ")") || bytes_eq s (codes "]")) (record a { pending = outside a.depth a.pending; depth = a.depth - 1 }) _ (record (raise e before a) { pending = outside (a.depth + e) (lift e before a.pending); depth = (a.depth + e) - 1 }) _ x.1
      (either_alike n ((bytes_eq s (codes "!") || bytes_eq s (codes "=")) && bytes_eq next (codes "=")) (record a { is_passed = true }) _ (record (raise e before a) { is_passed = true }) _ (raised (record a { is_passed = true }) (record (raise e before a) { is_passed = true }) d refl)
      (either_alike n (bytes_eq s (codes "&&") || bytes_eq s (codes "||")) (record a { pending = outside a.depth a.pending }) _ (record (raise e before a) { pending = outside (a.depth + e) (lift e before a.pending) }) _ (outside_alike a d)
      (either_alike n (bytes_eq s (codes "=") || bytes_eq s (codes ";") || bytes_eq s (codes "{") || bytes_eq s (codes ":")) (record a { pending = []; depth = 0 }) a (record (raise e before a) { pending = []; depth = 0 }) (raise e before a) (inl refl) (raised a (raise e before a) d refl))))))) where
        greater : (v w : Known) (c : Bool) → bytes_eq s (codes ">") ≡ c → Alike n v w → Alike n (if c then at_greater i (bytes_eq next (codes "=")) a a.pending else v) (if c then at_greater i (bytes_eq next (codes "=")) (raise e before a) (lift e before a.pending) else w)
        greater v w false q k = k
        greater v w true q k = greater_alike (bytes_eq next (codes "=")) a (greater_within n s h q) d a.pending

  piece_alike : (w : What) (a : Known) → a.depth ≡ n → is_level n w ≡ true → Alike n (known_behind i w next a) (known_behind i w next (raise e before a))
  piece_alike w a d h =
      either_alike n a.is_passed (record a { is_passed = false; behind_name = false }) (at_what i w next a) (record (raise e before a) { is_passed = false; behind_name = false }) (at_what i w next (raise e before a))
      (raised (record a { is_passed = false; behind_name = false }) (record (raise e before a) { is_passed = false; behind_name = false }) d refl) (by w h) where
        by : (w : What) → is_level n w ≡ true → Alike n (at_what i w next a) (at_what i w next (raise e before a))
        by (a_name t) h = raised (record a { behind_name = true }) (record (raise e before a) { behind_name = true }) d refl
        by (a_number t) h = raised (record a { behind_name = false }) (record (raise e before a) { behind_name = false }) d refl
        by (a_sign s) h = sign_alike a.behind_name s (record a { behind_name = false }) d h

-- one piece more
pub level_alike : (i : ℕ) (w : What) (next : Text) (n : ℕ) (a b : Known) → is_level n w ≡ true → Alike n a b → Alike n (known_behind i w next a) (known_behind i w next b)
level_alike i w next n a b h (inl q) = inl (ap (known_behind i w next) q)
level_alike i w next n a b h (inr x) = subst (λ z. Alike n (known_behind i w next a) (known_behind i w next z)) (turned x.4) (piece_alike i next n x.0 x.1 x.2 w a x.3 h)

-- ---- tokens before `{`

abbrev pub are_level : ℕ → List Bit → Bool
are_level n [] = true
are_level n (b ∷ bs) = is_level n b.what && are_level n bs

-- in how many parentheses what is behind a token stands; none where a parenthesis is closed that was not opened, and at a `>` outside
-- of all
abbrev pub after : Token → ℕ → Option ℕ
after (symbol is.ParenLeft) n = Some (suc n)
after (symbol is.BracketLeft) n = Some (suc n)
after (symbol is.ParenRight) zero = None
after (symbol is.ParenRight) (suc n) = Some n
after (symbol is.BracketRight) zero = None
after (symbol is.BracketRight) (suc n) = Some n
after t n = if are_level n (token_bits t) then Some n else None

abbrev pub is_brace : Token → Bool
is_brace (symbol is.BraceLeft) = true
is_brace t = false

abbrev pub is_comma : Token → Bool
is_comma (symbol is.Comma) = true
is_comma t = false

-- whether a `{` stands behind tokens among which none reaches back
abbrev pub is_braced : ℕ → List Slot → Bool
is_braced n [] = false
is_braced n (must t ∷ ss) = is_brace t || (elim (after t n) as (λ _. Bool) [ None ↦ false | Some m ↦ is_braced m ss ])
is_braced n (may t ∷ ss) = is_comma t && is_braced n ss
is_braced n (alone ∷ ss) = false

-- what is behind the `{` has no bearing
pub braced_joined : (ss us : List Slot) (n : ℕ) → is_braced n ss ≡ true → is_braced n (ss ++ us) ≡ true
braced_joined [] us n h = absurd (no_true h)
braced_joined (must t ∷ ss) us n h = by (is_brace t) (after t n) (λ m g. braced_joined ss us m g) h where
  by : (z : Bool) (o : Option ℕ) → ((m : ℕ) → is_braced m ss ≡ true → is_braced m (ss ++ us) ≡ true) → (z || (elim o as (λ _. Bool) [ None ↦ false | Some m ↦ is_braced m ss ])) ≡ true → (z || (elim o as (λ _. Bool) [ None ↦ false | Some m ↦ is_braced m (ss ++ us) ])) ≡ true
  by true o k g = refl
  by false None k g = g
  by false (Some m) k g = k m g
braced_joined (may t ∷ ss) us n h =
    let x : (is_comma t ≡ true) × (is_braced n ss ≡ true) = and_parts (is_comma t) (is_braced n ss) h in
    ap (λ z. z && is_braced n (ss ++ us)) x.0 ∙ braced_joined ss us n x.1
braced_joined (alone ∷ ss) us n h = absurd (no_true h)
