-- Texts, the pieces between their colons, and what the pieces are (WESL, "Imports").
use Rattle.std.specs.Prelude.{ℕ, zero, suc, Bool, true, false, not, ◌&&◌, ◌||◌, ◌==◌, if◌then◌else◌, Option, Some, None, option_map, List, [], ◌∷◌, ◌++◌, bytes_eq, codes}

-- a text, by its bytes
abbrev pub Text : Type 0
Text = List ℕ

-- whether a byte stands in a text
abbrev pub has : ℕ → Text → Bool
has c [] = false
has c (x ∷ xs) = (x == c) || has c xs

-- the byte of `:`
abbrev pub colon : ℕ
colon = 58

-- the byte of `/`
abbrev pub slash : ℕ
slash = 47

-- one more byte before the first of the pieces
abbrev pub before_first : ℕ → List Text → List Text
before_first c [] = (c ∷ []) ∷ []
before_first c (t ∷ ts) = (c ∷ t) ∷ ts

-- a text cut at each byte c
abbrev pub cut : ℕ → Text → List Text
cut c [] = [] ∷ []
cut c (x ∷ xs) = if x == c then [] ∷ cut c xs else before_first x (cut c xs)

-- whether a text has no bytes
abbrev pub is_empty : Text → Bool
is_empty [] = true
is_empty _ = false

-- whether no text of a list is empty; of no texts it holds
abbrev pub all_filled : List Text → Bool
all_filled [] = true
all_filled (t ∷ ts) = not (is_empty t) && all_filled ts

-- The pieces between `::`: a text cut at each colon is then piece, nothing, piece, nothing, .., piece, and no
-- piece is empty.
abbrev pub paired : List Text → Option (List Text)
paired [] = None
paired (t ∷ []) = if is_empty t then None else Some (t ∷ [])
paired (t ∷ gap ∷ ts) = if not (is_empty t) && is_empty gap then option_map (λ us. t ∷ us) (paired ts) else None

-- the pieces of a text between its `::`, each nonempty and without a colon; none where it has no such form, as the empty text
abbrev pub pieces : Text → Option (List Text)
pieces text = paired (cut colon text)

-- whether a piece is `package`, `self` or `super`
abbrev pub is_keyword : Text → Bool
is_keyword t = bytes_eq t (codes "package") || (bytes_eq t (codes "self") || bytes_eq t (codes "super"))

-- nonempty names joined by slashes
abbrev pub is_package_name : Text → Bool
is_package_name t = all_filled (cut slash t)

-- the word `super`, so many times
abbrev pub supers : ℕ → List Text
supers zero = []
supers (suc n) = codes "super" ∷ supers n

-- what so many modules above the reader is written as
abbrev pub relative_pieces : ℕ → List Text
relative_pieces zero = codes "self" ∷ []
relative_pieces (suc n) = codes "super" ∷ supers n

-- texts joined by `::`; of no texts the empty text
abbrev pub joined : List Text → Text
joined [] = []
joined (t ∷ []) = t
joined (t ∷ u ∷ us) = t ++ codes "::" ++ joined (u ∷ us)
