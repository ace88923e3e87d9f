-- Within the brackets of lists that are found, no `<` that opens one of them is lost.
use Rattle.std.proofs.Common.{◌≡◌, ◌≤◌, ◌<◌, ℕ, suc, ◌-◌, Bool, true, false, ◌&&◌, ◌||◌, ◌==◌, if◌then◌else◌, List, [], ◌∷◌, refl, sym as turned, inl, ap, ap₂, ◌∙◌, codes, bytes_eq, nat_lt, arith}
use Rattle.std.proofs.lemmas.Bool.{eq-eqb, ne_eqb, or_right}
use Rattle.wesl_tree_names.specs.Path.{Text}
use Rattle.wesl_text_tokens.specs.Characters.{is_one_of}
use Rattle.wesl_text_tokens.specs.Pieces.{What, a_name, a_number, a_sign, Bit}
use Rattle.wesl_text_tokens.specs.Brackets.{Known, outside, sign_behind, at_greater, at_less, at_sign, at_what, known_behind, known_from}
use Rattle.wesl_text_reading.proofs.Filled.{no_true}
use Rattle.wesl_text_writable.proofs.Fresh.{either_is, numbers, LacksOpen, LacksClosed, Before, step_lacks, step_open, before_step}
use Rattle.wesl_text_writable.proofs.Grouped.{number_behind, NoBrackets}
use Rattle.wesl_text_respell.proofs.Pending.{Sorted, IsSorted, step_sorted, step_keeps}

itself : (n : ℕ) (ns : List ℕ) → is_one_of (n ∷ ns) n ≡ true
itself n ns = ap (λ z. z || is_one_of ns n) (eq-eqb n n refl)

module _ (final : Known) where
  -- what is known at a piece leads to what is known at the end
  pub record Leads (i : ℕ) (k : Known) : Type 0 where
    pub unopened : (n : ℕ) → n < i → LacksOpen n k → is_one_of final.opened n ≡ false
    pub unclosed : (n : ℕ) → n < i → LacksClosed n k → is_one_of final.closed n ≡ false
    pub opened : (n : ℕ) → is_one_of k.opened n ≡ true → is_one_of final.opened n ≡ true
    pub closed : (n : ℕ) → is_one_of k.closed n ≡ true → is_one_of final.closed n ≡ true

  -- how many of those that may open a list do
  abbrev pub held : List (ℕ × ℕ) → ℕ
  held [] = 0
  held (p ∷ ps) = if is_one_of final.opened p.0 then suc (held ps) else held ps

  -- the oldest does
  abbrev pub Bottom : List (ℕ × ℕ) → Type 0
  Bottom [] = ⊥
  Bottom (p ∷ []) = is_one_of final.opened p.0 ≡ true
  Bottom (p ∷ q ∷ ps) = Bottom (q ∷ ps)

  -- so many lists are open within the outermost
  abbrev pub Inside : ℕ → List (ℕ × ℕ) → Type 0
  Inside n ps = (held ps ≡ suc n) × Bottom ps

pub leads_end : (final : Known) (i : ℕ) → Leads final i final
leads_end final i = record { unopened = λ n l h. h.0; unclosed = λ n l h. h; opened = λ n h. h; closed = λ n h. h }

pub leads_back : (final : Known) (i : ℕ) (w : What) (next : Text) (k : Known) → Leads final (suc i) (known_behind i w next k) → Leads final i k
leads_back final i w next k x = record {
  unopened = λ n l h. x.unopened n (omega (arith, l)) (step_lacks n i next w k (inl (ne_eqb n i (λ e. let z : ⊥ = omega (arith, l, e) in z))) h);
  unclosed = λ n l h. x.unclosed n (omega (arith, l)) (step_open n i next w k (inl (ne_eqb n i (λ e. let z : ⊥ = omega (arith, l, e) in z))) h);
  opened = λ n h. x.opened n (step_keeps (λ z. is_one_of z.opened n ≡ true) (λ k ps d b c h. h) (λ k ps y i h. or_right (n == y) (is_one_of k.opened n) h) i w next k h);
  closed = λ n h. x.closed n (step_keeps (λ z. is_one_of z.closed n ≡ true) (λ k ps d b c h. h) (λ k ps y i h. or_right (n == i) (is_one_of k.closed n) h) i w next k h);
}

pub leads_bits : (final : Known) (bs : List Bit) (i : ℕ) (k : Known) → Leads final (number_behind i bs) (known_from i k bs) → Leads final i k
leads_bits final [] i k x = x
leads_bits final (b ∷ bs) i k x = leads_back final i b.what (sign_behind bs) k (leads_bits final bs (suc i) (known_behind i b.what (sign_behind bs) k) x)

-- ---- those that are dropped

-- what is newer than all is none of them
newer_lacks : (os : List ℕ) (i n d : ℕ) (ps : List (ℕ × ℕ)) → i ≤ n → Sorted os i ps → is_one_of (numbers (outside d ps)) n ≡ false
newer_lacks os i n d [] l h = refl
newer_lacks os i n d (p ∷ ps) l h = either_is (λ z. is_one_of (numbers z) n ≡ false) (nat_lt p.1 d) (p ∷ ps) (outside d ps) (ap₂ (λ a b. a || b) (newer p.0 (omega (arith, l, h.0))) (older p.0 ps (omega (arith, l, h.0)) h.2)) (newer_lacks os p.0 n d ps (omega (arith, l, h.0)) h.2) where
  newer : (m : ℕ) → m < n → (n == m) ≡ false
  newer m l = ne_eqb n m (λ e. let z : ⊥ = omega (arith, l, e) in z)

  older : (j : ℕ) (ps : List (ℕ × ℕ)) → j ≤ n → Sorted os j ps → is_one_of (numbers ps) n ≡ false
  older j [] l h = refl
  older j (q ∷ qs) l h = ap₂ (λ a b. a || b) (newer q.0 (omega (arith, l, h.0))) (older q.0 qs (omega (arith, l, h.0)) h.2)

bottom_more : (final : Known) (p : ℕ × ℕ) (ps : List (ℕ × ℕ)) → Bottom final ps → Bottom final (p ∷ ps)
bottom_more final p [] h = absurd h
bottom_more final p (q ∷ ps) h = h

module _ (final : Known) where
  -- where none of those that are dropped opens a list, as many stay, and the oldest
  outside_held : (os : List ℕ) (i d : ℕ) (ps : List (ℕ × ℕ)) → Sorted os i ps
      → ((n : ℕ) → n < i → is_one_of os n ≡ false → is_one_of (numbers (outside d ps)) n ≡ false → is_one_of final.opened n ≡ false)
      → (held final (outside d ps) ≡ held final ps) × (Bottom final ps → Bottom final (outside d ps))
  outside_held os i d [] s f = (refl, λ b. b)
  outside_held os i d (p ∷ ps) s f = by (nat_lt p.1 d) f (outside_held os p.0 d ps s.2) where
    Same : List (ℕ × ℕ) → Type 0
    Same qs = (held final qs ≡ held final (p ∷ ps)) × (Bottom final (p ∷ ps) → Bottom final qs)

    dropped : is_one_of final.opened p.0 ≡ false → (held final (outside d ps) ≡ held final ps) × (Bottom final ps → Bottom final (outside d ps)) → Same (outside d ps)
    dropped e x = (x.0 ∙ turned (ap (λ z. if z then suc (held final ps) else held final ps) e), λ b. bottom ps b x.1) where
      bottom : (ps : List (ℕ × ℕ)) → Bottom final (p ∷ ps) → (Bottom final ps → Bottom final (outside d ps)) → Bottom final (outside d ps)
      bottom [] b g = absurd (no_true (turned e ∙ b))
      bottom (q ∷ qs) b g = g b

    by : (z : Bool) → ((n : ℕ) → n < i → is_one_of os n ≡ false → is_one_of (numbers (if z then p ∷ ps else outside d ps)) n ≡ false → is_one_of final.opened n ≡ false)
        → (((n : ℕ) → n < p.0 → is_one_of os n ≡ false → is_one_of (numbers (outside d ps)) n ≡ false → is_one_of final.opened n ≡ false) → (held final (outside d ps) ≡ held final ps) × (Bottom final ps → Bottom final (outside d ps)))
        → Same (if z then p ∷ ps else outside d ps)
    by true f g = (refl, λ b. b)
    by false f g = dropped (f p.0 s.0 s.1 (newer_lacks os p.0 p.0 d ps (omega arith) s.2)) (g (λ n l. f n (omega (arith, l, s.0))))

  -- the oldest
  bottom_opens : (os : List ℕ) (i : ℕ) (ps : List (ℕ × ℕ)) → Sorted os i ps → Bottom final ps → (m : ℕ) × (m < i) × (is_one_of os m ≡ false) × (is_one_of final.opened m ≡ true)
  bottom_opens os i [] s b = absurd b
  bottom_opens os i (p ∷ []) s b = (p.0, s.0, s.1, b)
  bottom_opens os i (p ∷ q ∷ ps) s b = let x : (m : ℕ) × (m < p.0) × (is_one_of os m ≡ false) × (is_one_of final.opened m ≡ true) = bottom_opens os p.0 (q ∷ ps) s.2 b in (x.0, omega (arith, x.1, s.0), x.2, x.3)

-- ---- one piece that is no bracket

module _ (final : Known) (n i : ℕ) (next : Text) (no_open : is_one_of final.opened i ≡ false) (no_close : is_one_of final.closed i ≡ false) where
  abbrev Stays : Known → Type 0
  Stays z = Leads final (suc i) z → Inside final n z.pending

  less_stays : (b x y : Bool) (k : Known) → Inside final n k.pending → Stays (at_less i b x y k)
  less_stays b x y k h =
      either_is Stays (y || (b && x)) (record k { is_passed = true }) (if b then record k { pending = (i, k.depth) ∷ k.pending } else k) (λ e. h)
      (either_is Stays b (record k { pending = (i, k.depth) ∷ k.pending }) k
      (λ e. (ap (λ z. if z then suc (held final k.pending) else held final k.pending) no_open ∙ h.0, bottom_more final (i, k.depth) k.pending h.1)) (λ e. h))

  greater_stays : (y : Bool) (k : Known) → Inside final n k.pending → (ps : List (ℕ × ℕ)) → Stays (at_greater i y k ps)
  greater_stays y k h [] = λ e. h
  greater_stays y k h (p ∷ ps) =
      either_is Stays (p.1 == k.depth) (record k { pending = ps; opened = p.0 ∷ k.opened; closed = i ∷ k.closed }) (record k { is_passed = y })
      (λ e. absurd (no_true (turned no_close ∙ e.closed i (itself i k.closed)))) (λ e. h)

  outside_stays : (k : Known) (m d : ℕ) → IsSorted i k → Inside final n k.pending → Stays (record k { pending = outside m k.pending; depth = d })
  outside_stays k m d s h e =
      let x : (held final (outside m k.pending) ≡ held final k.pending) × (Bottom final k.pending → Bottom final (outside m k.pending))
      = outside_held final k.opened i m k.pending s (λ n l a b. e.unopened n (omega (arith, l)) (a, b)) in
      (x.0 ∙ h.0, x.1 h.1)

  clear_stays : (k : Known) → IsSorted i k → Inside final n k.pending → Stays (record k { pending = []; depth = 0 })
  clear_stays k s h e =
      let x : (m : ℕ) × (m < i) × (is_one_of k.opened m ≡ false) × (is_one_of final.opened m ≡ true) = bottom_opens final k.opened i k.pending s h.1 in
      absurd (no_true (turned (e.unopened x.0 (omega (arith, x.1)) (x.2, refl)) ∙ x.3))

  sign_stays : (b : Bool) (s : Text) (k : Known) → IsSorted i k → Inside final n k.pending → Stays (at_sign i b s next k)
  sign_stays b s k q h =
      either_is Stays (bytes_eq s (codes "<")) (at_less i b (bytes_eq next (codes "<")) (bytes_eq next (codes "=")) k) _ (less_stays b (bytes_eq next (codes "<")) (bytes_eq next (codes "=")) k h)
      (either_is Stays (bytes_eq s (codes ">")) (at_greater i (bytes_eq next (codes "=")) k k.pending) _ (greater_stays (bytes_eq next (codes "=")) k h k.pending)
      (either_is Stays (bytes_eq s (codes "(") || bytes_eq s (codes "[")) (record k { depth = suc k.depth }) _ (λ e. h)
      (either_is Stays (bytes_eq s (codes ")") || bytes_eq s (codes "]")) (record k { pending = outside k.depth k.pending; depth = k.depth - 1 }) _ (outside_stays k k.depth (k.depth - 1) q h)
      (either_is Stays ((bytes_eq s (codes "!") || bytes_eq s (codes "=")) && bytes_eq next (codes "=")) (record k { is_passed = true }) _ (λ e. h)
      (either_is Stays (bytes_eq s (codes "&&") || bytes_eq s (codes "||")) (record k { pending = outside k.depth k.pending }) _ (outside_stays k k.depth k.depth q h)
      (either_is Stays (bytes_eq s (codes "=") || bytes_eq s (codes ";") || bytes_eq s (codes "{") || bytes_eq s (codes ":")) (record k { pending = []; depth = 0 }) k (clear_stays k q h) (λ e. h)))))))

  piece_stays : (w : What) (k : Known) → IsSorted i k → Inside final n k.pending → Stays (known_behind i w next k)
  piece_stays w k q h = either_is Stays k.is_passed (record k { is_passed = false; behind_name = false }) (at_what i w next k) (λ e. h) (by w) where
    by : (w : What) → Stays (at_what i w next k)
    by (a_name t) = λ e. h
    by (a_number t) = λ e. h
    by (a_sign s) = sign_stays k.behind_name s (record k { behind_name = false }) q h

-- ---- pieces that are no brackets

pub bits_sorted : (bs : List Bit) (i : ℕ) (k : Known) → Before i k → IsSorted i k → IsSorted (number_behind i bs) (known_from i k bs)
bits_sorted [] i k b s = s
bits_sorted (c ∷ cs) i k b s = bits_sorted cs (suc i) (known_behind i c.what (sign_behind cs) k) (before_step i c.what (sign_behind cs) k b) (step_sorted i (sign_behind cs) c.what k (b i (omega arith)).0.0 s)

pub bits_inside : (final : Known) (n : ℕ) (bs : List Bit) (i : ℕ) (k : Known) → NoBrackets final i bs → Before i k → IsSorted i k → Leads final (number_behind i bs) (known_from i k bs) → Inside final n k.pending → Inside final n (known_from i k bs).pending
bits_inside final n [] i k a b s e h = h
bits_inside final n (c ∷ cs) i k a b s e h =
    let m : Known = known_behind i c.what (sign_behind cs) k in
    bits_inside final n cs (suc i) m a.2 (before_step i c.what (sign_behind cs) k b) (step_sorted i (sign_behind cs) c.what k (b i (omega arith)).0.0 s) e
    (piece_stays final n i (sign_behind cs) a.0 a.1 c.what k s h (leads_bits final cs (suc i) m e))
