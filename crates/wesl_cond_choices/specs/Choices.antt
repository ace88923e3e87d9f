-- Sets of choices of feature flags. A choice of n flags is a number below 2 ^ n, whose bit i is the value of flag i.
use Rattle.std.specs.Prelude.{◌≡◌, ℕ, zero, suc, ◌-◌, ◌/◌, ◌%◌, ◌^◌, ◌<◌, ◌≤◌, nat_eq, Bool, true, false, List, [], ◌∷◌, ◌++◌, length, slice_index}
use Rattle.std.specs.Int.{bit_at}

-- how many flags the choices are of, and a bit for each choice: 64 to a word, the lowest first
pub record Choices : Type 0 where
  pub flags : ℕ
  pub words : List ℕ

-- whether bit k of a row of words is set
unfoldable pub has_bit : List ℕ → ℕ → Bool
has_bit words k = nat_eq (bit_at (slice_index words (k / 64)) (k % 64)) 1

-- whether the choice with this number is in the set
abbrev pub has : Choices → ℕ → Bool
has c k = has_bit c.words k

-- how many words a set has: one for 6 flags and fewer, and twice as many for each further flag
abbrev pub word_count : ℕ → ℕ
word_count flags = 2 ^ (flags - 6)

-- what is true of each set
pub record IsSet (c : Choices) : Type 0 where
  pub few : c.flags ≤ 16
  pub whole : length c.words ≡ word_count c.flags
  pub within : (k : ℕ) → has c k ≡ true → k < 2 ^ c.flags

-- some choice is in both
abbrev pub Meet : Choices → Choices → Type 0
Meet a b = (k : ℕ) × (k < 2 ^ a.flags) × (has a k ≡ true) × (has b k ≡ true)

-- no choice is in it
abbrev pub IsEmpty : Choices → Type 0
IsEmpty c = (k : ℕ) → has c k ≡ false

-- the numbers below n
abbrev pub below : ℕ → List ℕ
below zero = []
below (suc n) = below n ++ n ∷ []
