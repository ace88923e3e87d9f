-- Lines and columns, byte by byte.
use Rattle.std.proofs.Common.{◌≡◌, ◌≤◌, ◌+◌, ℕ, zero, suc, Bool, true, false, if◌then◌else◌, List, [], ◌∷◌, ◌++◌, refl, ap, add-one, arith}
use Rattle.std.proofs.lemmas.Bool.Decides.{nat_tests}
use Rattle.wesl_text_mappings.specs.Positions.{byte, column, ends_line, line, position, positions, units}

-- the line behind a byte
pub line_behind : (t : List ℕ) (p : ℕ) (b : Bool) → ends_line t p ≡ b → line t (p + 1) ≡ line t p + (if b then 1 else 0)
unfolding line
line_behind t p b e = rw add-one (ap (λ (b : Bool). line t p + (if b then 1 else 0)) e)

-- the column behind a byte
pub column_behind : (t : List ℕ) (p : ℕ) (b : Bool) → ends_line t p ≡ b → column t (p + 1) ≡ (if b then 0 else column t p + units (byte t p))
unfolding column
column_behind t p b e = rw add-one (ap (λ (b : Bool). if b then 0 else column t p + units (byte t p)) e)

one_at_most : (b : Bool) → (if b then 1 else 0) ≤ 1
one_at_most true = omega arith
one_at_most false = omega arith

-- no more lines end than there are bytes
pub line_at_most : (t : List ℕ) (p : ℕ) → line t p ≤ p
unfolding line
line_at_most t zero = omega arith
line_at_most t (suc p) = let h = line_at_most t p in let k = one_at_most (ends_line t p) in omega arith

none_or : (b : Bool) (x y : ℕ) → x ≤ y → (if b then 0 else x) ≤ y
none_or true x y h = omega arith
none_or false x y h = h

-- a byte begins at most two code units
pub units_at_most : (b : ℕ) → units b ≤ 2
units_at_most b = grind (arith, nat_tests)

pub column_at_most : (t : List ℕ) (p : ℕ) → column t p ≤ p + p
unfolding column
column_at_most t zero = omega arith
column_at_most t (suc p) =
    let h = column_at_most t p in let k = units_at_most (byte t p) in
    let s : column t p + units (byte t p) ≤ suc p + suc p = omega arith in
    none_or (ends_line t p) (column t p + units (byte t p)) (suc p + suc p) s

-- the place behind a byte, by whether a line ends with it
pub position_behind : (t : List ℕ) (p : ℕ) (b : Bool) (l c : ℕ) → ends_line t p ≡ b → l ≡ line t p + (if b then 1 else 0)
    → c ≡ (if b then 0 else column t p + units (byte t p)) → record { line = l; column = c } ≡ position t (p + 1)
position_behind t p b l c e f g =
    let first : l ≡ line t (p + 1) = rw (line_behind t p b e) f in
    let second : c ≡ column t (p + 1) = rw (column_behind t p b e) g in
    cc

-- one place more
pub positions_behind : (t : List ℕ) (p : ℕ) → positions t (p + 1) ≡ positions t p ++ position t (p + 1) ∷ []
unfolding positions
positions_behind t p = rw add-one refl

pub positions_first : (t : List ℕ) → positions t 0 ≡ position t 0 ∷ []
unfolding positions
positions_first t = refl

pub position_first : (t : List ℕ) → position t 0 ≡ record { line = 0; column = 0 }
unfolding line column
position_first t = refl
