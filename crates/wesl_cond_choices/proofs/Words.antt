-- Rows of words, and sets of choices as such rows.
use Rattle.std.proofs.Common.{◌≡◌, ℕ, zero, suc, ◌+◌, ◌-◌, ◌*◌, ◌/◌, ◌%◌, ◌^◌, ◌<◌, ◌≤◌, nat_eq, nat_lt, ◌&&◌, Bool, true, false, ◌↔◌, IsTrue, List, length, replicate, get_or, set, inl, inr, ◌∙◌, ap, sym, refl, arith, ltb-true, w64}
use Rattle.std.specs.Prelude.{bit_and}
use Rattle.std.specs.Int.{bit_at, trailing_zeros}
use Rattle.std.proofs.Math.Pow.{pow_mono}
use Rattle.std.proofs.lemmas.Bool.{cases_lt, lt-ltb, le-ltb}
use Rattle.std.proofs.lemmas.List.{get_or-set_same, get_or-set_other, get_or_past, get_or-replicate, length-replicate, length-set}
use Rattle.std.proofs.lemmas.Nat.{and_le_l, pow-add}
use Rattle.std.proofs.lemmas.Nat.Bits.{bit_at-trailing_zeros, bit_at-zero}
use Rattle.wesl_cond_choices.specs.Choices.{Choices, Meet, has, has_bit, word_count, IsSet}
use Rattle.wesl_cond_choices.proofs.Bits.{bit_of_and, of_both}

-- bit b of word j
abbrev pub bit : List ℕ → ℕ → ℕ → Bool
bit words j b = nat_eq (bit_at (get_or words j 0) b) 1

-- the first n words of the old row are combined with a mask, and the others are as they were
pub record IsDone (on : Bool → Bool → Bool) (mask : ℕ → ℕ → Bool) (old new : List ℕ) (n : ℕ) : Type 0 where
  pub len : length new ≡ length old
  pub done : (j b : ℕ) → j < n → b < 64 → bit new j b ≡ on (bit old j b) (mask j b)
  pub rest : (j : ℕ) → n ≤ j → get_or new j 0 ≡ get_or old j 0

module _ (on : Bool → Bool → Bool) (mask : ℕ → ℕ → Bool) (old : List ℕ) where
  pub begun : IsDone on mask old old 0
  begun = record { len = refl; done = λ j b low within. absurd (omega arith); rest = λ j high. refl }

  pub one_more : (new : List ℕ) (i v : ℕ) → IsDone on mask old new i → i < length new
      → ((b : ℕ) → b < 64 → nat_eq (bit_at v b) 1 ≡ on (bit new i b) (mask i b)) → IsDone on mask old (set new i v) (i + 1)
  one_more new i v h inside here = record {
    len = length-set new i v ∙ h.len;
    done = λ j b low within.
        elim (cases_lt j i) [
          | inl before ↦ let apart : j ≡ i → ⊥ = λ e. omega arith in
              ap (λ w. nat_eq (bit_at w b) 1) (get_or-set_other new i j v 0 apart) ∙ h.done j b before within
          | inr last ↦ let e : j ≡ i = omega arith in
              ap (λ x. bit (set new i v) x b) e ∙ ap (λ w. nat_eq (bit_at w b) 1) (get_or-set_same new i v 0 inside) ∙ here b within
              ∙ ap (λ w. on (nat_eq (bit_at w b) 1) (mask i b)) (h.rest i (omega arith)) ∙ ap (λ x. on (bit old x b) (mask x b)) (sym e)
        ];
    rest = λ j high. let apart : j ≡ i → ⊥ = λ e. omega arith in get_or-set_other new i j v 0 apart ∙ h.rest j (omega arith);
  }

-- beyond the words no bit is set
pub none_past : (words : List ℕ) (k : ℕ) → length words ≤ k / 64 → has_bit words k ≡ false
unfolding has_bit
none_past words k past =
    ap (λ w. nat_eq (bit_at w (k % 64)) 1) (get_or_past words (k / 64) 0 past) ∙ ap (λ z. nat_eq z 1) (bit_at-zero (k % 64))

pub ended : (on : Bool → Bool → Bool) (mask : ℕ → ℕ → Bool) (old new : List ℕ) (n : ℕ) → IsDone on mask old new n → length old ≤ n
    → ((k : ℕ) → length old ≤ k / 64 → on false (mask (k / 64) (k % 64)) ≡ false) → (k : ℕ) → has_bit new k ≡ on (has_bit old k) (mask (k / 64) (k % 64))
unfolding has_bit
ended on mask old new n h all none k =
    elim (cases_lt (k / 64) (length old)) [
      | inl inside ↦ h.done (k / 64) (k % 64) (omega arith) (omega arith)
      | inr past ↦
          let len : length new ≡ length old = h.len in
          let gone : length new ≤ k / 64 = omega arith in
          none_past new k gone ∙ sym (ap (λ x. on x (mask (k / 64) (k % 64))) (none_past old k past) ∙ none k past)
    ]

above_zero : (x : ℕ) → (x ≡ 0 → ⊥) → 0 < x
above_zero zero some = absurd (some refl)
above_zero (suc x) some = omega arith

module _ (a b : List ℕ) where
  -- a word with a bit in both rows
  pub met_at : (i : ℕ) → get_or a i 0 < 2 ^ 64 → (bit_and (get_or a i 0) (get_or b i 0) ≡ 0 → ⊥)
      → (k : ℕ) × (has_bit a k ≡ true) × (has_bit b k ≡ true)
  unfolding has_bit
  met_at i fits some =
      let x : ℕ = get_or a i 0 in
      let y : ℕ = get_or b i 0 in
      let small : bit_and x y < 2 ^ 64 = omega (arith, and_le_l x y) in
      let t : ℕ = trailing_zeros w64 (bit_and x y) in
      let lowest = bit_at-trailing_zeros w64 (bit_and x y) (above_zero (bit_and x y) some) small in
      let low : t < 64 = lowest.0 in
      let set_there : nat_eq (bit_at (bit_and x y) t) 1 ≡ true = ap (λ z. nat_eq z 1) lowest.1 in
      let parts = of_both (nat_eq (bit_at x t) 1) (nat_eq (bit_at y t) 1) (sym (bit_of_and x y t) ∙ set_there) in
      let word : (i * 64 + t) / 64 ≡ i = omega arith in
      let place : (i * 64 + t) % 64 ≡ t = omega arith in (
        i * 64 + t,
        ap (λ j. bit a j ((i * 64 + t) % 64)) word ∙ ap (λ p. bit a i p) place ∙ parts.0,
        ap (λ j. bit b j ((i * 64 + t) % 64)) word ∙ ap (λ p. bit b i p) place ∙ parts.1,
      )

  pub apart : (n : ℕ) → length a ≤ n → ((j : ℕ) → j < n → bit_and (get_or a j 0) (get_or b j 0) ≡ 0)
      → (k : ℕ) → has_bit a k ≡ true → has_bit b k ≡ true → ⊥
  unfolding has_bit
  apart n all each k in_a in_b =
      elim (cases_lt (k / 64) n) [
        | inl inside ↦
            let x : ℕ = get_or a (k / 64) 0 in
            let y : ℕ = get_or b (k / 64) 0 in
            let there : nat_eq (bit_at (bit_and x y) (k % 64)) 1 ≡ true = bit_of_and x y (k % 64) ∙ ap (λ s. s && bit b (k / 64) (k % 64)) in_a ∙ in_b in
            let gone : nat_eq (bit_at (bit_and x y) (k % 64)) 1 ≡ false =
            ap (λ w. nat_eq (bit_at w (k % 64)) 1) (each (k / 64) inside) ∙ ap (λ z. nat_eq z 1) (bit_at-zero (k % 64)) in
            not_both (sym there ∙ gone)
        | inr past ↦ let gone : has_bit a k ≡ false = none_past a k (omega arith) in not_both (sym in_a ∙ gone)
      ]
    where
      not_both : true ≡ false → ⊥
      not_both e = cc

-- all words are full
module _ (flags full : ℕ) (is_full : (b : ℕ) → b < 64 → nat_eq (bit_at full b) 1 ≡ nat_lt b (2 ^ flags)) where
  few : flags ≤ 6 → (word_count flags ≡ 1) × (2 ^ flags ≤ 64)
  few low =
      let none : flags - 6 ≡ 0 = omega arith in
      (ap (λ n. 2 ^ n) none, pow_mono low)

  many : 6 ≤ flags → 2 ^ flags ≡ word_count flags * 64
  many high = let e : flags ≡ (flags - 6) + 6 = omega arith in ap (λ n. 2 ^ n) e ∙ pow-add 2 (flags - 6) 6

  in_word : (k : ℕ) → k / 64 < word_count flags → nat_lt (k % 64) (2 ^ flags) ≡ nat_lt k (2 ^ flags)
  in_word k inside =
      elim (cases_lt flags 6) [
        | inl low ↦
            let one : word_count flags ≡ 1 = (few (omega arith)).0 in
            let e : k % 64 ≡ k = omega arith in ap (λ x. nat_lt x (2 ^ flags)) e
        | inr high ↦
            let size : 2 ^ flags ≡ word_count flags * 64 = many high in
            lt-ltb (k % 64) (2 ^ flags) (omega arith) ∙ sym (lt-ltb k (2 ^ flags) (omega arith))
      ]

  past_words : (k : ℕ) → word_count flags ≤ k / 64 → 2 ^ flags ≤ k
  past_words k past =
      elim (cases_lt flags 6) [
        | inl low ↦ let one = few (omega arith) in omega (arith, one.0, one.1)
        | inr high ↦ let size : 2 ^ flags ≡ word_count flags * 64 = many high in omega arith
      ]

  pub all_bits : (k : ℕ) → has_bit (replicate (word_count flags) full) k ≡ nat_lt k (2 ^ flags)
  unfolding has_bit
  all_bits k =
      elim (cases_lt (k / 64) (word_count flags)) [
        | inl inside ↦
            ap (λ w. nat_eq (bit_at w (k % 64)) 1) (get_or-replicate (word_count flags) (k / 64) full 0 inside)
            ∙ is_full (k % 64) (omega arith) ∙ in_word k inside
        | inr past ↦
            none_past (replicate (word_count flags) full) k (omega (arith, length-replicate (word_count flags) full))
            ∙ sym (le-ltb k (2 ^ flags) (past_words k past))
      ]

  pub all_set : flags ≤ 16 → IsSet (record { flags = flags; words = replicate (word_count flags) full })
  all_set low = record {
    few = low;
    whole = length-replicate (word_count flags) full;
    within = λ k member. ltb-true k (2 ^ flags) (sym (all_bits k) ∙ member);
  }

-- all words are 0
pub no_bits : (n k : ℕ) → has_bit (replicate n 0) k ≡ false
unfolding has_bit
no_bits n k =
    elim (cases_lt (k / 64) n) [
      | inl inside ↦
          ap (λ w. nat_eq (bit_at w (k % 64)) 1) (get_or-replicate n (k / 64) 0 0 inside)
          ∙ ap (λ z. nat_eq z 1) (bit_at-zero (k % 64))
      | inr past ↦ none_past (replicate n 0) k (omega (arith, length-replicate {A = ℕ} n 0))
    ]

pub no_set : (flags : ℕ) → flags ≤ 16 → IsSet (record { flags = flags; words = replicate (word_count flags) 0 })
no_set flags low = record {
  few = low;
  whole = length-replicate (word_count flags) 0;
  within = λ k member. absurd (not_both (sym (no_bits (word_count flags) k) ∙ member));
}
  where
    not_both : false ≡ true → ⊥
    not_both e = cc

-- two sets meet where their words do
pub meet_of : (a b : Choices) → IsSet a → (r : Bool) → IsTrue r ↔ ((k : ℕ) × (has a k ≡ true) × (has b k ≡ true)) → IsTrue r ↔ Meet a b
meet_of a b set r met =
    (λ h. let found = met.0 h in (found.0, set.within found.0 found.1, found.1, found.2), λ h. met.1 (h.0, h.2, h.3))
