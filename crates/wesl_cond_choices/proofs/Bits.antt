-- Bits of one word.
use Rattle.std.proofs.Common.{◌≡◌, ℕ, zero, suc, ◌+◌, ◌-◌, ◌*◌, ◌/◌, ◌^◌, ◌<◌, ◌≤◌, nat_eq, nat_lt, not, ◌&&◌, ◌||◌, Bool, true, false, inl, inr, ◌∙◌, ap, sym, refl, arith, eqb-true, w64, min, max}
use Rattle.std.specs.Prelude.{bit_and, bit_or}
use Rattle.std.specs.Int.{bit_at, bit_not}
use Rattle.std.proofs.Math.Pow.{pow_mono}
use Rattle.std.proofs.lemmas.Bool.{cases_lt, lt-ltb, le-ltb}
use Rattle.std.proofs.lemmas.Nat.Bits.{bit_at_and, bit_at_or, bit_at_not, bit_at_ones, bit_at_ones_above, bit_at_cat_low, bit_at_cat_high, bit_at-lt, bit_at-zero, shr_and_one}

both : (x y : ℕ) → x < 2 → y < 2 → nat_eq (min x y) 1 ≡ (nat_eq x 1 && nat_eq y 1)
both zero zero p q = refl
both zero (suc zero) p q = refl
both (suc zero) zero p q = refl
both (suc zero) (suc zero) p q = refl
both zero (suc (suc y)) p q = absurd (omega arith)
both (suc zero) (suc (suc y)) p q = absurd (omega arith)
both (suc (suc x)) y p q = absurd (omega arith)

either : (x y : ℕ) → x < 2 → y < 2 → nat_eq (max x y) 1 ≡ (nat_eq x 1 || nat_eq y 1)
either zero zero p q = refl
either zero (suc zero) p q = refl
either (suc zero) zero p q = refl
either (suc zero) (suc zero) p q = refl
either zero (suc (suc y)) p q = absurd (omega arith)
either (suc zero) (suc (suc y)) p q = absurd (omega arith)
either (suc (suc x)) y p q = absurd (omega arith)

other : (x : ℕ) → x < 2 → nat_eq (1 - x) 1 ≡ not (nat_eq x 1)
other zero p = refl
other (suc zero) p = refl
other (suc (suc x)) p = absurd (omega arith)

pub bit_of_and : (x y b : ℕ) → nat_eq (bit_at (bit_and x y) b) 1 ≡ (nat_eq (bit_at x b) 1 && nat_eq (bit_at y b) 1)
bit_of_and x y b = ap (λ z. nat_eq z 1) (bit_at_and x y b) ∙ both (bit_at x b) (bit_at y b) (bit_at-lt x b) (bit_at-lt y b)

pub bit_of_or : (x y b : ℕ) → nat_eq (bit_at (bit_or x y) b) 1 ≡ (nat_eq (bit_at x b) 1 || nat_eq (bit_at y b) 1)
bit_of_or x y b = ap (λ z. nat_eq z 1) (bit_at_or x y b) ∙ either (bit_at x b) (bit_at y b) (bit_at-lt x b) (bit_at-lt y b)

pub bit_of_without : (x y b : ℕ) → y < 2 ^ 64 → b < 64 → nat_eq (bit_at (bit_and x (bit_not w64 y)) b) 1 ≡ (nat_eq (bit_at x b) 1 && not (nat_eq (bit_at y b) 1))
bit_of_without x y b fits within =
    bit_of_and x (bit_not w64 y) b
    ∙ ap (λ t. nat_eq (bit_at x b) 1 && t) (ap (λ z. nat_eq z 1) (bit_at_not w64 y b fits within) ∙ other (bit_at y b) (bit_at-lt y b))

-- the lowest n bits are set
pub bit_of_ones : (n b : ℕ) → nat_eq (bit_at (2 ^ n - 1) b) 1 ≡ nat_lt b n
bit_of_ones n b =
    elim (cases_lt b n) [
      | inl low ↦ ap (λ z. nat_eq z 1) (bit_at_ones n b low) ∙ sym (lt-ltb b n low)
      | inr high ↦ ap (λ z. nat_eq z 1) (bit_at_ones_above n b high) ∙ sym (le-ltb b n high)
    ]

-- all bits of a word are set, where there are more flags
pub bit_of_full : (flags b : ℕ) → 6 ≤ flags → b < 64 → nat_eq (bit_at 18446744073709551615 b) 1 ≡ nat_lt b (2 ^ flags)
bit_of_full flags b many within =
    let more : 2 ^ 6 ≤ 2 ^ flags = pow_mono many in
    let low : b < 2 ^ flags = omega arith in
    bit_of_ones 64 b ∙ lt-ltb b 64 within ∙ sym (lt-ltb b (2 ^ flags) low)

-- a test that holds of each number below n
holds_below : ℕ → (ℕ → Bool) → Bool
holds_below zero p = true
holds_below (suc n) p = p n && holds_below n p

pub of_both : (x y : Bool) → (x && y) ≡ true → (x ≡ true) × (y ≡ true)
of_both true y h = (refl, h)
of_both false y h = absurd (cc)

at_below : (n : ℕ) (p : ℕ → Bool) → holds_below n p ≡ true → (b : ℕ) → b < n → p b ≡ true
unfolding holds_below
at_below zero p h b low = absurd (omega arith)
at_below (suc n) p h b low =
    let parts = of_both (p n) (holds_below n p) h in
    elim (cases_lt b n) [
      | inl before ↦ at_below n p parts.1 b before
      | inr last ↦ let e : b ≡ n = omega arith in rw e parts.0
    ]

has_pattern : ℕ → ℕ → Bool
has_pattern pattern flag = holds_below 64 (λ b. nat_eq (bit_at pattern b) (bit_at b flag))

pattern : (word flag : ℕ) → has_pattern word flag ≡ true → (b : ℕ) → b < 64 → bit_at word b ≡ bit_at b flag
unfolding has_pattern
pattern word flag h b within = eqb-true _ _ (at_below 64 (λ i. nat_eq (bit_at word i) (bit_at i flag)) h b within)

pub pattern_0 : (b : ℕ) → b < 64 → bit_at 12297829382473034410 b ≡ bit_at b 0
unfolding has_pattern holds_below
pattern_0 = pattern 12297829382473034410 0 refl

pub pattern_1 : (b : ℕ) → b < 64 → bit_at 14757395258967641292 b ≡ bit_at b 1
unfolding has_pattern holds_below
pattern_1 = pattern 14757395258967641292 1 refl

pub pattern_2 : (b : ℕ) → b < 64 → bit_at 17361641481138401520 b ≡ bit_at b 2
unfolding has_pattern holds_below
pattern_2 = pattern 17361641481138401520 2 refl

pub pattern_3 : (b : ℕ) → b < 64 → bit_at 18374966859414961920 b ≡ bit_at b 3
unfolding has_pattern holds_below
pattern_3 = pattern 18374966859414961920 3 refl

pub pattern_4 : (b : ℕ) → b < 64 → bit_at 18446462603027742720 b ≡ bit_at b 4
unfolding has_pattern holds_below
pattern_4 = pattern 18446462603027742720 4 refl

pub pattern_5 : (b : ℕ) → b < 64 → bit_at 18446744069414584320 b ≡ bit_at b 5
unfolding has_pattern holds_below
pattern_5 = pattern 18446744069414584320 5 refl

-- bits of a choice, where 64 choices share a word
pub low_flag : (word b flag : ℕ) → flag < 6 → bit_at (word * 64 + b) flag ≡ bit_at b flag
low_flag word b flag low = bit_at_cat_low word 6 b flag low

high_flag : (word b flag : ℕ) → b < 64 → 6 ≤ flag → bit_at (word * 64 + b) flag ≡ bit_at word (flag - 6)
high_flag word b flag within high = bit_at_cat_high word 6 b flag within high

pub on_flag : (word b flag : ℕ) → b < 64 → 6 ≤ flag → bit_and (word / 2 ^ (flag - 6)) 1 ≡ 1
    → bit_at 18446744073709551615 b ≡ bit_at (word * 64 + b) flag
on_flag word b flag within high set =
    bit_at_ones 64 b within ∙ sym (high_flag word b flag within high ∙ sym (shr_and_one word (flag - 6)) ∙ set)

none_of : (x : ℕ) → x < 2 → (x ≡ 1 → ⊥) → x ≡ 0
none_of zero low apart = refl
none_of (suc zero) low apart = absurd (apart refl)
none_of (suc (suc x)) low apart = absurd (omega arith)

pub off_flag : (word b flag : ℕ) → b < 64 → 6 ≤ flag → (bit_and (word / 2 ^ (flag - 6)) 1 ≡ 1 → ⊥)
    → bit_at 0 b ≡ bit_at (word * 64 + b) flag
off_flag word b flag within high clear =
    let none : bit_at word (flag - 6) ≡ 0 =
    none_of (bit_at word (flag - 6)) (bit_at-lt word (flag - 6)) (λ e. clear (shr_and_one word (flag - 6) ∙ e)) in
    bit_at-zero b ∙ sym (high_flag word b flag within high ∙ none)
