-- The data that a borrowed value stands for.
use Rattle.std.specs.Prelude.{ℕ, List, [], ◌∷◌, map}
use Rattle.serde_json.specs.Data.{Num, Data, null, boolean, number, string, array, object, Items, Members, no_members, put}
use Rattle.serde_json.specs.View.{items_of}
use Rattle.wesl_json_form.specs.Number.{num_of}
use Rattle.wesl_json_form.specs.declared.key.Key.{Key}
use Rattle.wesl_json_form.specs.declared.number.Number.{Number}
use Rattle.wesl_json_form.specs.declared.value.BorrowedValue.{BorrowedValue, fold-BorrowedValue}
use Rattle.wesl_json_form.specs.declared.value.BorrowedValue.TheOpen.{BorrowedValue-F}

-- the number of a JSON text that it is
abbrev pub number_view : Number → Num
number_view n = num_of n.kind

-- the text of a key
abbrev pub key_text : Key → List ℕ
key_text k = k.text.now.now

-- the members go in one after another, so the last of a key stays
abbrev pub put_all : List (Key × Data) → Members → Members
put_all [] found = found
put_all (m ∷ ms) found = put_all ms (put (key_text m.0) m.1 found)

-- one level, with each value inside already seen as its data
abbrev pub borrowed_step : BorrowedValue-F Data → Data
borrowed_step BorrowedValue-F.Null = null
borrowed_step (BorrowedValue-F.Bool b) = boolean b
borrowed_step (BorrowedValue-F.Number n) = number (number_view n)
borrowed_step (BorrowedValue-F.String s) = string s.now
borrowed_step (BorrowedValue-F.Array v) = array (items_of v.now)
borrowed_step (BorrowedValue-F.Object v) = object (put_all v.now no_members)

-- the JSON data that a borrowed value stands for; of members with one key the last counts
abbrev pub borrowed_view : BorrowedValue → Data
borrowed_view = fold-BorrowedValue Data borrowed_step

-- the JSON data that the items of a list stand for
abbrev pub items_view : List BorrowedValue → Items
items_view vs = items_of (map borrowed_view vs)

-- the JSON data that the members of an object stand for; of those with one key the last counts
abbrev pub members_view : List (Key × BorrowedValue) → Members
members_view ms = put_all (map (λ m. (m.0, borrowed_view m.1)) ms) no_members
