-- Numbers in base64 VLQ, as they are read (ECMA-426).
use Rattle.std.specs.Prelude.{◌≡◌, ◌+◌, ◌-◌, ◌*◌, ◌/◌, ◌%◌, ◌==◌, ◌&&◌, ℕ, nat_le, nat_lt, if◌then◌else◌, List, [], ◌∷◌, ◌++◌, Option, Some, None, option_map}

-- the digit of a character: A to Z, a to z, 0 to 9, `+` and `/`, and 64 of any other
unfoldable pub digit : ℕ → ℕ
digit c =
    if nat_le 65 c && nat_le c 90 then c - 65 else (if nat_le 97 c && nat_le c 122 then c - 71
    else (if nat_le 48 c && nat_le c 57 then c + 4 else (if c == 43 then 62 else (if c == 47 then 63 else 64))))

-- The number with which characters begin, and the characters behind it: each digit holds five bits of it, the lowest first, and one from
-- 32 on says that another one follows.
unfoldable pub number : List ℕ → Option (ℕ × List ℕ)
number [] = None
number (c ∷ cs) =
    if nat_lt (digit c) 32 then Some (digit c, cs)
    else (if nat_lt (digit c) 64 then option_map (λ r. (digit c - 32 + 32 * r.0, r.1)) (number cs) else None)

-- where a number leads from another: its lowest bit says that it leads back, the others how far
unfoldable pub moved : ℕ → ℕ → ℕ
moved from n = if n % 2 == 0 then from + n / 2 else from - n / 2

-- a character was added that is this digit
pub record AddsDigit (d : ℕ) (old new : List ℕ) : Type 0 where
  pub character : ℕ
  pub says : digit character ≡ d
  pub text : new ≡ old ++ character ∷ []

-- characters were added that are read as this number, whatever follows
pub record AddsNumber (n : ℕ) (old new : List ℕ) : Type 0 where
  pub added : List ℕ
  pub text : new ≡ old ++ added
  pub read : (more : List ℕ) → number (added ++ more) ≡ Some (n, more)

-- a number was added that leads from one to the other
pub record AddsMove (from to : ℕ) (old new : List ℕ) : Type 0 where
  pub move : ℕ
  pub added : AddsNumber move old new
  pub leads : moved from move ≡ to
