-- The Unicode form: the words of a path and an item, with two marks that look like colons between each two.
use Rattle.std.specs.Prelude.{ℕ, zero, suc, Bool, true, false, cond, not, ◌&&◌, ◌||◌, List, [], ◌∷◌, ◌++◌, length, take, drop, replicate, Option, Some, None, ◌==◌}
use Rattle.std.specs.List.{onto_first, join_by, prefix_len, list_all}
use Rattle.std.specs.Str.{bytes_eq}
use lib.Chars.{codes}
use Rattle.wesl_tree_names.specs.Path.{Text, Origin, absolute, relative, from_package, Path}
use Rattle.wesl_mangle_forms.specs.Escape.{◌>>=◌, is_super, item_below}

-- U+02D0
abbrev pub mark : Text
mark = 0xcb ∷ 0x90 ∷ []

-- what stands between each two words: the mark twice
abbrev pub separator : Text
separator = mark ++ mark

-- Writing.

-- the words with a separator between each two
abbrev pub from_words : List Text → Text
from_words = join_by (λ w. w) separator

-- the words of an origin: `package`, `self` for no level up, `super` once for each level, or a package's name as it is
abbrev pub origin_words : Origin → List Text
origin_words absolute = codes "package" ∷ []
origin_words (relative zero) = codes "self" ∷ []
origin_words (relative (suc n)) = replicate (suc n) (codes "super")
origin_words (from_package n) = n ∷ []

-- the words of the origin, each component, and the item
abbrev pub words_of_item : Path → Text → List Text
words_of_item p i = origin_words p.origin ++ p.components ++ i ∷ []

-- the Unicode form
abbrev pub unicode : Path → Text → Text
unicode p i = from_words (words_of_item p i)

-- Reading.

-- the text without so many of its first bytes, cut at each separator from the left
abbrev pub words_after : ℕ → Text → List Text
words_after skip [] = [] ∷ []
words_after (suc skip) (c ∷ cs) = words_after skip cs
words_after zero (c ∷ cs) = cond (bytes_eq (take 4 (c ∷ cs)) separator) ([] ∷ words_after 3 cs) (onto_first c (words_after 0 cs))

-- a text cut at each separator from the left
abbrev pub words_of : Text → List Text
words_of t = words_after 0 t

-- the origin that the first words are, with the words left: `package`, `self`, a run of `super` as the number of levels, or
-- else one word, which is a package's name; of no words there is none
abbrev pub read_origin_words : List Text → Option (Origin × List Text)
read_origin_words [] = None
read_origin_words (w ∷ ws) =
    cond (bytes_eq w (codes "package")) (Some (absolute, ws))
    (cond (bytes_eq w (codes "self")) (Some (relative 0, ws))
    (cond (is_super w) (let n = prefix_len is_super ws in Some (relative (suc n), drop n ws))
    (Some (from_package w, ws))))

-- the item that the words stand for
abbrev pub item_of_words : List Text → Option (Path × Text)
item_of_words ws = do
  x ← read_origin_words ws
  item_below x.0 x.1

-- the item that a name in the Unicode form stands for, if it has that form
abbrev pub from_unicode : Text → Option (Path × Text)
from_unicode t = item_of_words (words_of t)

-- Where reading gives back what was written.

-- whether a mark stands anywhere in a text
abbrev pub has_mark : Text → Bool
has_mark [] = false
has_mark (c ∷ cs) = bytes_eq (take 2 (c ∷ cs)) mark || has_mark cs

-- not empty, without a mark, and none of the words
abbrev pub is_own_word : Text → Bool
is_own_word w = not (length w == 0) && (not (has_mark w) && (not (bytes_eq w (codes "package")) && (not (bytes_eq w (codes "self")) && not (is_super w))))

-- whether a package's name is a word of its own; any other origin passes
abbrev pub is_own_origin : Origin → Bool
is_own_origin absolute = true
is_own_origin (relative n) = true
is_own_origin (from_package n) = is_own_word n

-- every name is a word of its own
abbrev pub has_own_words : Path → Text → Bool
has_own_words p i = is_own_origin p.origin && (list_all is_own_word p.components && is_own_word i)
