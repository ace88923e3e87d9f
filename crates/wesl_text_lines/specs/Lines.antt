-- Lines and columns of a text, in characters and from 1 (WGSL, "Blankspace and Line Breaks").
use Rattle.std.specs.Prelude.{ℕ, suc, ◌+◌, ◌-◌, Bool, ◌&&◌, ◌==◌, not, if◌then◌else◌, List, [], ◌∷◌, count_by, chars, nat_lt, nat_le, slice_index}
use Rattle.std.specs.Char.{len_utf8}
use Rattle.wesl_tree_base.specs.Pieces.{Text}
use Rattle.wesl_text_tokens.specs.Characters.{is_line_end}

-- whether a line ends behind a character, before these others: a carriage return before a line feed ends none, the line feed does
abbrev pub ends_line : ℕ → List ℕ → Bool
ends_line c [] = is_line_end c
ends_line c (d ∷ _) = is_line_end c && not (c == 13 && d == 10)

-- the bytes behind characters, the first of which begins at this byte
abbrev pub char_ends : ℕ → List ℕ → List ℕ
char_ends at [] = []
char_ends at (c ∷ cs) = (at + len_utf8 c) ∷ char_ends (at + len_utf8 c) cs

-- those of them with which a line has ended
abbrev pub line_ends : ℕ → List ℕ → List ℕ
line_ends at [] = []
line_ends at (c ∷ cs) = if ends_line c cs then (at + len_utf8 c) ∷ line_ends (at + len_utf8 c) cs else line_ends (at + len_utf8 c) cs

-- the bytes with which the lines of a text begin: its first byte, and those behind the ends of lines
abbrev pub line_starts : Text → List ℕ
line_starts text = 0 ∷ line_ends 0 (chars text)

-- the line of a byte: how many lines begin before it or with it
abbrev pub line_of : Text → ℕ → ℕ
line_of text offset = count_by (λ b. nat_le b offset) (line_starts text)

-- the byte with which that line begins
abbrev pub line_start_of : Text → ℕ → ℕ
line_start_of text offset = slice_index (line_starts text) (line_of text offset - 1)

-- its column: one more than the characters of that line that stand before it
abbrev pub column_of : Text → ℕ → ℕ
column_of text offset = suc (count_by (λ b. nat_lt (line_start_of text offset) b && nat_le b offset) (char_ends 0 (chars text)))
