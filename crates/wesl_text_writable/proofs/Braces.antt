-- A colon before a body has no bearing on what is behind it.
use Rattle.std.proofs.Common.{◌≡◌, ◌≤◌, ℕ, zero, suc, ◌+◌, ◌-◌, Bool, true, false, ◌||◌, if◌then◌else◌, List, [], ◌∷◌, ◌++◌, Option, Some, None, option_and_then, refl, sym as turned, inl, inr, ap, ◌∙◌, subst, arith}
use Rattle.wesl_text_tokens.specs.declared.symbol.Symbol.TheVariants as is
use Rattle.wesl_text_tokens.specs.Pieces.{Bit}
use Rattle.wesl_text_tokens.specs.Brackets.{Known, outside, sign_behind, known_behind, known_from}
use Rattle.wesl_text_tokens.specs.Tokens.{Token, symbol}
use Rattle.wesl_text_form.specs.Slots.{Slot, must, may, alone, same_token, behind_token, behind_if_there, left}
use Rattle.wesl_text_form.specs.Says.{token_bits, bits_apart}
use Rattle.wesl_text_reading.proofs.Filled.{no_some, of_some, no_true, same_is, stands}
use Rattle.wesl_text_writable.proofs.Grouped.{number_behind}
use Rattle.wesl_text_writable.proofs.KnownApart.{known_apart}
use Rattle.wesl_text_writable.proofs.Quiet.{mark_first}
use Rattle.wesl_text_writable.proofs.LeftOut.{SameBrackets, ClearsSame, Nested, cleared, bits_done, names_forgotten, unmarked_first}
use Rattle.wesl_text_writable.proofs.Braced.{are_level, after, is_brace, is_comma, is_braced, lift, Within, outside_lift, raise, Alike, is_level, level_alike}
use Rattle.std.proofs.lemmas.Bool.{and_parts}

bits_alike : (bs : List Bit) (i n : ℕ) (a b : Known) → are_level n bs ≡ true → Alike n a b → Alike n (known_from i a bs) (known_from i b bs)
bits_alike [] i n a b h x = x
bits_alike (c ∷ cs) i n a b h x =
    let y : (is_level n c.what ≡ true) × (are_level n cs ≡ true) = and_parts (is_level n c.what) (are_level n cs) h in
    bits_alike cs (suc i) n (known_behind i c.what (sign_behind cs) a) (known_behind i c.what (sign_behind cs) b) y.1 (level_alike i c.what (sign_behind cs) n a b y.0 x)

-- both have been passed, or neither
alike_passed : (n : ℕ) (a b : Known) → Alike n a b → b.is_passed ≡ a.is_passed
alike_passed n a b (inl q) = ap (λ z. z.is_passed) (turned q)
alike_passed n a b (inr x) = ap (λ z. z.is_passed) x.4

-- a parenthesis that is opened, and one that is closed
abbrev opened : Known → Known
opened a = record a { behind_name = false; depth = suc a.depth }

abbrev closed : Known → Known
closed a = record a { behind_name = false; pending = outside a.depth a.pending; depth = a.depth - 1 }

opened_alike : (n : ℕ) (a b : Known) → Alike n a b → Alike (suc n) (opened a) (opened b)
opened_alike n a b (inl q) = inl (ap opened q)
opened_alike n a b (inr x) =
    inr (x.0, x.1, x.2, ap (λ z. suc z) x.3, ap opened x.4 ∙ ap (λ (z : ℕ). let k : Known = record (raise x.0 x.1 a) { behind_name = false; depth = z } in k) (let q : suc (a.depth + x.0) ≡ suc a.depth + x.0 = omega arith in q))

closed_alike : (n : ℕ) (a b : Known) → Alike (suc n) a b → Alike n (closed a) (closed b)
closed_alike n a b (inl q) = inl (ap closed q)
closed_alike n a b (inr x) =
    let y : (rest : List (ℕ × ℕ)) × Within x.0 rest × (outside (a.depth + x.0) (lift x.0 x.1 a.pending) ≡ lift x.0 rest (outside a.depth a.pending)) = outside_lift x.0 a.depth x.1 a.pending x.2 in
    inr (
      x.0,
      y.0,
      y.1,
      (let q : a.depth - 1 ≡ n = omega (arith, x.3) in q),
      ap closed x.4 ∙ (ap (λ (z : List (ℕ × ℕ)). let k : Known = record a { behind_name = false; pending = z; depth = (a.depth + x.0) - 1 } in k) y.2
          ∙ ap (λ (z : ℕ). let k : Known = record a { behind_name = false; pending = lift x.0 y.0 (outside a.depth a.pending); depth = z } in k) (let q : (a.depth + x.0) - 1 ≡ (a.depth - 1) + x.0 = omega (arith, x.3) in q)),
    )

abbrev skipped : Known → Known
skipped a = record a { is_passed = false; behind_name = false }

both_alike : (m : ℕ) (a b c d : Known) → c ≡ a → d ≡ b → Alike m a b → Alike m c d
both_alike m a b c d h g x = subst (λ z. Alike m z d) (turned h) (subst (λ z. Alike m a z) (turned g) x)

some_same : (n m : ℕ) (c : Bool) → (if c then Some n else None) ≡ Some m → (c ≡ true) × (n ≡ m)
some_same n m true h = (refl, of_some n m h)
some_same n m false h = absurd (no_some m h)

level_token : (t : Token) (n m i : ℕ) (a b : Known) → (if are_level n (token_bits t) then Some n else None) ≡ Some m → Alike n a b → Alike m (known_from i a (token_bits t)) (known_from i b (token_bits t))
level_token t n m i a b h x =
    let y : (are_level n (token_bits t) ≡ true) × (n ≡ m) = some_same n m (are_level n (token_bits t)) h in
    subst (λ z. Alike z (known_from i a (token_bits t)) (known_from i b (token_bits t))) y.1 (bits_alike (token_bits t) i n a b y.0 x)

token_alike : (t : Token) (n m i : ℕ) (a b : Known) → after t n ≡ Some m → a.is_passed ≡ false → b.is_passed ≡ false → Alike n a b → Alike m (known_from i a (token_bits t)) (known_from i b (token_bits t))
token_alike (symbol is.ParenLeft) n m i a b h p q x = both_alike m (opened a) (opened b) _ _ (ap (λ z. if z then skipped a else opened a) p) (ap (λ z. if z then skipped b else opened b) q) (subst (λ z. Alike z (opened a) (opened b)) (of_some (suc n) m h) (opened_alike n a b x))
token_alike (symbol is.BracketLeft) n m i a b h p q x = both_alike m (opened a) (opened b) _ _ (ap (λ z. if z then skipped a else opened a) p) (ap (λ z. if z then skipped b else opened b) q) (subst (λ z. Alike z (opened a) (opened b)) (of_some (suc n) m h) (opened_alike n a b x))
token_alike (symbol is.ParenRight) zero m i a b h p q x = absurd (no_some m h)
token_alike (symbol is.ParenRight) (suc n) m i a b h p q x = both_alike m (closed a) (closed b) _ _ (ap (λ z. if z then skipped a else closed a) p) (ap (λ z. if z then skipped b else closed b) q) (subst (λ z. Alike z (closed a) (closed b)) (of_some n m h) (closed_alike n a b x))
token_alike (symbol is.BracketRight) zero m i a b h p q x = absurd (no_some m h)
token_alike (symbol is.BracketRight) (suc n) m i a b h p q x = both_alike m (closed a) (closed b) _ _ (ap (λ z. if z then skipped a else closed a) p) (ap (λ z. if z then skipped b else closed b) q) (subst (λ z. Alike z (closed a) (closed b)) (of_some n m h) (closed_alike n a b x))
token_alike t n m i a b h p q x = level_token t n m i a b h x

-- ---- as far as `{`

same_self : (a b : Known) → a ≡ b → SameBrackets a b
same_self a b q = (ap (λ z. z.opened) q, ap (λ z. z.closed) q)

abbrev emptied : Known → Known
emptied a = record a { behind_name = false; pending = []; depth = 0 }

-- `{` clears all
brace_same : (i n : ℕ) (a b : Known) (rest : List Bit) → a.is_passed ≡ false → b.is_passed ≡ false → Alike n a b → SameBrackets (known_from i a (token_bits (symbol is.BraceLeft) ++ rest)) (known_from i b (token_bits (symbol is.BraceLeft) ++ rest))
brace_same i n a b rest p q x =
    same_self (known_from i a (token_bits (symbol is.BraceLeft) ++ rest)) (known_from i b (token_bits (symbol is.BraceLeft) ++ rest))
    (ap (λ z. known_from (suc i) (if z then skipped a else emptied a) rest) p ∙ (ap (λ z. known_from (suc i) z rest) (by x) ∙ turned (ap (λ z. known_from (suc i) (if z then skipped b else emptied b) rest) q))) where
      by : Alike n a b → emptied a ≡ emptied b
      by (inl e) = ap emptied e
      by (inr y) = turned (ap emptied y.4)

comma_after : (n : ℕ) → after (symbol is.Comma) n ≡ Some n
comma_after zero = refl
comma_after (suc n) = refl

abbrev Same : List Slot → Type 0
Same ss = (us : List Token) (n i : ℕ) (a b : Known) → is_braced n ss ≡ true → left ss us ≡ Some [] → a.is_passed ≡ false → b.is_passed ≡ false → Alike n a b → SameBrackets (known_from i a (bits_apart us)) (known_from i b (bits_apart us))

-- a token, and those behind it
step_same : (t : Token) (ss : List Slot) → Same ss → (us : List Token) (n m i : ℕ) (a b : Known) → after t n ≡ Some m → is_braced m ss ≡ true → left ss us ≡ Some [] → a.is_passed ≡ false → b.is_passed ≡ false → Alike n a b
    → SameBrackets (known_from i a (bits_apart (t ∷ us))) (known_from i b (bits_apart (t ∷ us)))
step_same t ss later us n m i a b h c g p q x =
    let i2 : ℕ = number_behind i (token_bits t) in
    let a2 : Known = known_from i a (token_bits t) in
    let b2 : Known = known_from i b (token_bits t) in
    let s : SameBrackets (known_from i2 a2 (bits_apart us)) (known_from i2 b2 (bits_apart us)) = later us m i2 a2 b2 c g (bits_done (token_bits t) i a p) (bits_done (token_bits t) i b q) (token_alike t n m i a b h p q x) in
    (ap (λ z. z.opened) (known_apart t us i a) ∙ (s.0 ∙ turned (ap (λ z. z.opened) (known_apart t us i b))), ap (λ z. z.closed) (known_apart t us i a) ∙ (s.1 ∙ turned (ap (λ z. z.closed) (known_apart t us i b))))

brace_is : (t : Token) → is_brace t ≡ true → symbol is.BraceLeft ≡ t
brace_is (symbol is.BraceLeft) h = refl
brace_is t h = absurd (no_true h)

comma_is : (t : Token) → is_comma t ≡ true → symbol is.Comma ≡ t
comma_is (symbol is.Comma) h = refl
comma_is t h = absurd (no_true h)

must_same : (t : Token) (ss : List Slot) → Same ss → Same (must t ∷ ss)
must_same t ss later ts n i a b h g p q x = by (behind_token t ts) refl g where
  abbrev_of : Option ℕ → Bool
  abbrev_of o = elim o as (λ _. Bool) [ None ↦ false | Some m ↦ is_braced m ss ]

  here : (us : List Token) → left ss us ≡ Some [] → (z : Bool) → is_brace t ≡ z → (o : Option ℕ) → after t n ≡ o → (z || abbrev_of o) ≡ true → SameBrackets (known_from i a (bits_apart (t ∷ us))) (known_from i b (bits_apart (t ∷ us)))
  here us k true e o f r = subst (λ w. SameBrackets (known_from i a (token_bits w ++ bits_apart us)) (known_from i b (token_bits w ++ bits_apart us))) (brace_is t e) (brace_same i n a b (bits_apart us) p q x)
  here us k false e None f r = absurd (no_true r)
  here us k false e (Some m) f r = step_same t ss later us n m i a b f r k p q x

  by : (o : Option (List Token)) → behind_token t ts ≡ o → option_and_then (left ss) o ≡ Some [] → SameBrackets (known_from i a (bits_apart ts)) (known_from i b (bits_apart ts))
  by None e k = absurd (no_some [] k)
  by (Some us) e k = subst (λ w. SameBrackets (known_from i a (bits_apart w)) (known_from i b (bits_apart w))) (turned (stands t ts us e)) (here us k (is_brace t) refl (after t n) refl h)

may_same : (t : Token) (ss : List Slot) → Same ss → Same (may t ∷ ss)
may_same t ss later ts n i a b h g p q x = by ts g where
  y : (is_comma t ≡ true) × (is_braced n ss ≡ true)
  y = and_parts (is_comma t) (is_braced n ss) h

  by : (ts : List Token) → left ss (behind_if_there t ts) ≡ Some [] → SameBrackets (known_from i a (bits_apart ts)) (known_from i b (bits_apart ts))
  by [] g = later [] n i a b y.1 g p q x
  by (u ∷ us) g = at (same_token t u) refl g where
    at : (z : Bool) → same_token t u ≡ z → left ss (if z then us else u ∷ us) ≡ Some [] → SameBrackets (known_from i a (bits_apart (u ∷ us))) (known_from i b (bits_apart (u ∷ us)))
    at false e k = later (u ∷ us) n i a b y.1 k p q x
    at true e k = step_same u ss later us n n i a b (ap (λ z. after z n) (turned (same_is t u e) ∙ turned (comma_is t y.0)) ∙ comma_after n) y.1 k p q x

braced_same : (ss : List Slot) → Same ss
braced_same [] us n i a b h g p q x = absurd (no_true h)
braced_same (must t ∷ ss) us n i a b h g p q x = must_same t ss (braced_same ss) us n i a b h g p q x
braced_same (may t ∷ ss) us n i a b h g p q x = may_same t ss (braced_same ss) us n i a b h g p q x
braced_same (alone ∷ ss) us n i a b h g p q x = absurd (no_true h)

nested_within : (e f : ℕ) (ps : List (ℕ × ℕ)) → f ≤ e → Nested f ps → Within e ps
nested_within e f [] l h = tt
nested_within e f (p ∷ ps) l h = (omega (arith, l, h.0), nested_within e p.1 ps (omega (arith, l, h.0)) h.1)

-- a colon has no bearing on such tokens
pub braced_clears : (ss : List Slot) (us : List Token) → is_braced 0 ss ≡ true → left ss us ≡ Some [] → mark_first us ≡ false → ClearsSame us
braced_clears ss us h g m i k p w =
    let b : Known = record k { behind_name = false } in
    let e : b ≡ raise k.depth k.pending (cleared k) = ap (λ (z : ℕ). let r : Known = record k { behind_name = false; depth = z } in r) (let q : k.depth ≡ 0 + k.depth = omega arith in q) in
    let x : Alike 0 (cleared k) b = inr (k.depth, k.pending, nested_within k.depth k.depth k.pending (omega arith) w, refl, e) in
    let s : SameBrackets (known_from i (cleared k) (bits_apart us)) (known_from i b (bits_apart us)) = braced_same ss us 0 i (cleared k) b h g p p x in
    let f : SameBrackets (known_from i b (bits_apart us)) (known_from i k (bits_apart us)) = names_forgotten (bits_apart us) i k false p (unmarked_first us m) in
    (s.0 ∙ f.0, s.1 ∙ f.1)
