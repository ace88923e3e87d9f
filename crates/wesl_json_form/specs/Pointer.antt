-- The parts that lead to a value within a value, and their text: a JSON Pointer (RFC 6901).
use Rattle.std.specs.Prelude.{ℕ, List, [], ◌∷◌, ◌++◌, if◌then◌else◌, ◌==◌, codes, decimal, flat_map, encode_utf8}
use Rattle.std.specs.Str.{chars}
use Rattle.wesl_tree_names.specs.Path.{Text}

-- one step into a value: to the member at a key of an object, or to the item at an index of a list, counted from 0
pub data Part : Type 0 where
  key : Text → Part
  index : ℕ → Part

-- `~` is written `~0`, and `/` is written `~1`
abbrev pub escaped_char : ℕ → Text
escaped_char c = if c == 126 then codes "~0" else (if c == 47 then codes "~1" else encode_utf8 c)

-- a key as it stands in a JSON Pointer: only `~` and `/` are written otherwise
unfoldable pub escaped : Text → Text
escaped s = flat_map escaped_char (chars s)

-- what stands for a part behind its slash: a key with its `~` and `/` escaped, or an index in decimal
abbrev pub part_text : Part → Text
part_text (key k) = escaped k
part_text (index i) = decimal i

-- each part with a slash before it
abbrev pub pointer_text : List Part → Text
pointer_text [] = []
pointer_text (p ∷ path) = (47 ∷ part_text p) ++ pointer_text path
