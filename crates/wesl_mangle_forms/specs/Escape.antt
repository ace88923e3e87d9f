-- The escape form: the pieces between the underscores of a name that stands for an item of a module.
-- WESL, NameMangling: underscore-count mangling.
use Rattle.std.specs.Prelude.{ℕ, zero, suc, Bool, true, false, cond, not, ◌&&◌, ◌||◌, List, [], ◌∷◌, ◌++◌, length, take, drop, replicate, Option, Some, None, option_map, option_and_then, nat_le, ◌==◌}
use Rattle.std.specs.List.{slice_split, join_with_byte, flat_map, prefix_len, list_any, list_all}
use Rattle.std.specs.Char.{is_ascii_digit}
use Rattle.std.specs.Fmt.{decimal}
use Rattle.std.specs.Str.{bytes_eq, all_ascii_digits}
use Rattle.std.specs.Str.Parse.{digits_value}
use lib.Chars.{codes}
use Rattle.wesl_tree_names.specs.Path.{Text, Origin, absolute, relative, from_package, Path}

infixl 10 ◌>>=◌
-- what is read on from what was read; where nothing was, nothing is
abbrev pub ◌>>=◌ : {A B : Type 0} → Option A → (A → Option B) → Option B
o >>= f = option_and_then f o

-- a text cut at each underscore
abbrev pub pieces_of : Text → List Text
pieces_of = slice_split (λ c. c == 95)

-- a text cut at each slash
abbrev pub parts_of : Text → List Text
parts_of = slice_split (λ c. c == 47)

-- the pieces with an underscore between each two
abbrev pub from_pieces : List Text → Text
from_pieces = join_with_byte 95

-- the parts with a slash between each two
abbrev pub from_parts : List Text → Text
from_parts = join_with_byte 47

-- Writing.

-- a name of one piece is itself; before another stands an underscore with the number of its underscores
abbrev pub with_count : List Text → List Text
with_count [] = []
with_count (p ∷ []) = p ∷ []
with_count (p ∷ q ∷ ps) = [] ∷ (decimal (length (q ∷ ps)) ++ p) ∷ q ∷ ps

-- the pieces of a name without slashes, with that number before them where it has underscores
abbrev pub escaped_part : Text → List Text
escaped_part n = with_count (pieces_of n)

-- several parts stand after `import` and their number
abbrev pub escaped_parts : List Text → List Text
escaped_parts [] = []
escaped_parts (p ∷ []) = escaped_part p
escaped_parts (p ∷ q ∷ ps) = codes "import" ∷ decimal (length (p ∷ q ∷ ps)) ∷ flat_map escaped_part (p ∷ q ∷ ps)

-- the pieces of a name, by the parts between its slashes
abbrev pub escaped : Text → List Text
escaped n = escaped_parts (parts_of n)

-- the pieces of an origin: `package`, `self` for no level up, `super` once for each level, or those of a package's name
abbrev pub escaped_origin : Origin → List Text
escaped_origin absolute = codes "package" ∷ []
escaped_origin (relative zero) = codes "self" ∷ []
escaped_origin (relative (suc n)) = replicate (suc n) (codes "super")
escaped_origin (from_package n) = escaped n

-- the pieces that stand for an item of a module
abbrev pub escaped_item : Path → Text → List Text
escaped_item p i = escaped_origin p.origin ++ flat_map escaped p.components ++ escaped i

-- the escape form
abbrev pub escape : Path → Text → Text
escape p i = from_pieces (escaped_item p i)

-- Reading: each of these takes what it reads from the front of the pieces, and gives it with the pieces left.

-- a piece that begins with digits, which are a number n, and n more pieces
abbrev pub counted : Text → List Text → Option (Text × List Text)
counted q ps =
    let k = prefix_len is_ascii_digit q in
    let n = digits_value 10 (take k q) in
    cond (not (k == 0) && nat_le n (length ps)) (Some (from_pieces (drop k q ∷ take n ps), drop n ps)) None

-- a name: one piece that is not empty, or an empty one and a counted one
abbrev pub read_name : List Text → Option (Text × List Text)
read_name [] = None
read_name ((c ∷ cs) ∷ ps) = Some (c ∷ cs, ps)
read_name ([] ∷ []) = None
read_name ([] ∷ q ∷ ps) = counted q ps

-- so many names
abbrev pub read_names : ℕ → List Text → Option (List Text × List Text)
read_names zero ps = Some ([], ps)
read_names (suc n) ps = do
  x ← read_name ps
  y ← read_names n x.1
  Some (x.0 ∷ y.0, y.1)

-- names to the end; a name has a piece or more, so no more names are there than pieces
abbrev pub read_all_names : ℕ → List Text → Option (List Text)
read_all_names most [] = Some []
read_all_names zero (p ∷ ps) = None
read_all_names (suc most) (p ∷ ps) = do
  x ← read_name (p ∷ ps)
  ns ← read_all_names most x.1
  Some (x.0 ∷ ns)

-- one or more ASCII digits, and nothing else
abbrev pub is_number : Text → Bool
is_number q = not (length q == 0) && all_ascii_digits q

-- a number alone, and so many names, which a slash joins
abbrev pub read_import : List Text → Option (Origin × List Text)
read_import [] = None
read_import (q ∷ ps) = cond (is_number q) (do
  x ← read_names (digits_value 10 q) ps
  Some (from_package (from_parts x.0), x.1)) None

-- whether it is the word `super`
abbrev pub is_super : Text → Bool
is_super n = bytes_eq n (codes "super")

-- an origin: `package`, `self`, a run of `super` as the number of levels, `import` with a number and so many names, or else
-- one name, which is a package's; of no pieces none is read
abbrev pub read_origin : List Text → Option (Origin × List Text)
read_origin [] = None
read_origin (w ∷ ps) =
    cond (bytes_eq w (codes "package")) (Some (absolute, ps))
    (cond (bytes_eq w (codes "self")) (Some (relative 0, ps))
    (cond (is_super w) (let n = prefix_len is_super ps in Some (relative (suc n), drop n ps))
    (cond (bytes_eq w (codes "import")) (read_import ps)
    (option_map (λ x. (from_package x.0, x.1)) (read_name (w ∷ ps))))))

-- the last name is the item, those before it are the components
abbrev pub item_below : Origin → List Text → Option (Path × Text)
item_below o [] = None
item_below o (n ∷ []) = Some (record { origin = o; components = [] }, n)
item_below o (n ∷ m ∷ ns) = option_map (λ x. (record { origin = x.0.origin; components = n ∷ x.0.components }, x.1)) (item_below o (m ∷ ns))

-- the item that the pieces stand for
abbrev pub unescaped : List Text → Option (Path × Text)
unescaped ps = do
  x ← read_origin ps
  ns ← read_all_names (length x.1) x.1
  item_below x.0 ns

-- the item that a name in the escape form stands for, if it has that form
abbrev pub unescape : Text → Option (Path × Text)
unescape t = unescaped (pieces_of t)

-- Where reading gives back what was written.

-- a word that stands for an origin or before the parts of a package's name: `package`, `self`, `super` or `import`
abbrev pub is_word : Text → Bool
is_word n = bytes_eq n (codes "package") || (bytes_eq n (codes "self") || (is_super n || bytes_eq n (codes "import")))

-- not empty, no digit first, no slash, and none of the words
abbrev pub is_plain : Text → Bool
is_plain [] = false
is_plain (c ∷ cs) = not (is_ascii_digit c) && (not (list_any (λ b. b == 47) (c ∷ cs)) && not (is_word (c ∷ cs)))

-- whether each part of a package's name is plain; any other origin passes
abbrev pub is_plain_origin : Origin → Bool
is_plain_origin absolute = true
is_plain_origin (relative n) = true
is_plain_origin (from_package n) = list_all is_plain (parts_of n)

-- whether all names are plain: each part of a package's name, each component, and the item
abbrev pub is_reversible : Path → Text → Bool
is_reversible p i = is_plain_origin p.origin && (list_all is_plain p.components && is_plain i)
