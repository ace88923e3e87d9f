-- Lines and columns of a text of UTF-8, counted from 0. Lines end as WGSL says ("Blankspace and Line Breaks").
use Rattle.std.specs.Prelude.{◌+◌, ◌-◌, ◌==◌, ◌&&◌, ◌||◌, not, Bool, ℕ, zero, suc, nat_le, nat_lt, if◌then◌else◌, List, [], ◌∷◌, ◌++◌, get_or}
use Rattle.wesl_text_mappings.specs.declared.positions.Position.{Position}

-- the byte at a place, 0 where there is none
abbrev pub byte : List ℕ → ℕ → ℕ
byte t p = get_or t p 0

-- Whether a line ends with the byte at a place: a line feed, a vertical tab, a form feed, a carriage return without a line feed behind
-- it, or the last byte of U+0085, U+2028 or U+2029.
abbrev pub ends_line : List ℕ → ℕ → Bool
ends_line t p =
    (nat_le 0x0a (byte t p) && nat_le (byte t p) 0x0c) || (byte t p == 0x0d && not (byte t (p + 1) == 0x0a))
    || (byte t p == 0x85 && byte t (p - 1) == 0xc2)
    || ((byte t p == 0xa8 || byte t p == 0xa9) && byte t (p - 1) == 0x80 && byte t (p - 2) == 0xe2)

-- how many code units of UTF-16 begin with a byte of UTF-8: none in the middle of a character, and two where one of four bytes begins
abbrev pub units : ℕ → ℕ
units b = if nat_lt b 0x80 then 1 else (if nat_lt b 0xc0 then 0 else (if nat_lt b 0xf0 then 1 else 2))

-- the line of the byte at a place: how many lines end before it
unfoldable pub line : List ℕ → ℕ → ℕ
line t zero = 0
line t (suc p) = line t p + (if ends_line t p then 1 else 0)

-- its column: the code units that begin in its line before it
unfoldable pub column : List ℕ → ℕ → ℕ
column t zero = 0
column t (suc p) = if ends_line t p then 0 else column t p + units (byte t p)

-- where a byte stands
abbrev pub position : List ℕ → ℕ → Position
position t p = record { line = line t p; column = column t p }

-- where the bytes up to one stand
unfoldable pub positions : List ℕ → ℕ → List Position
positions t zero = position t 0 ∷ []
positions t (suc p) = positions t p ++ position t (suc p) ∷ []
