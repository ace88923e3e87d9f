-- What is promised of the reading: what is said is read, and one text says one tree.
use Rattle.std.specs.Prelude.{◌≡◌, ◌≤◌, ℕ, Bool, true, false, List, [], Some}
use Rattle.wesl_tree_names.specs.Path.{Text}
use Rattle.wesl_tree_syntax.specs.Tree.{TreeOf, end, before}
use Rattle.wesl_tree_syntax.specs.Unit.{UnitOf, forest_of_unit}
use Rattle.wesl_text_tokens.specs.Tokens.{Token}
use Rattle.wesl_text_form.specs.Slots.{Slot, left}
use Rattle.wesl_text_form.specs.Productions.{Sort, a_bare_expression}
use Rattle.wesl_text_form.specs.Spelling.{slots_as}
use Rattle.wesl_text_form.specs.Says.{Says, TextSays, levels}
use Rattle.wesl_text_reading.specs.Reading.{reading, reading_of_unit}

-- the tokens say the tree in the place of a sort: they fill its slots
abbrev pub SaysAs : Sort → List Token → TreeOf Text → Type 0
SaysAs s ts t = (ss : List Slot) × (slots_as s t ≡ Some ss) × (left ss ts ≡ Some [])

-- whether nodes of a sort are read by themselves: an expression only with its span, since operators take it so
abbrev pub is_read_alone : Sort → Bool
is_read_alone a_bare_expression = false
is_read_alone _ = true

-- what is said in the place of a sort is read, to its end, at each number of levels that is not below its own
abbrev pub TreesAreRead : Type 0
TreesAreRead =
    (s : Sort) (n : ℕ) (ts : List Token) (t : TreeOf Text) → is_read_alone s ≡ true → SaysAs s ts t → levels (before t end) ≤ n
    → reading n s ts ≡ Some (t, [])

-- tokens say one tree in the place of a sort, whichever it is, and whatever the tree's depth
abbrev pub TokensSayOneTree : Type 0
TokensSayOneTree = (s : Sort) (ts : List Token) (t u : TreeOf Text) → SaysAs s ts t → SaysAs s ts u → t ≡ u

-- the unit that tokens say is what they are read as, at each number of levels that is not below its own
abbrev pub UnitsAreRead : Type 0
UnitsAreRead =
    (n : ℕ) (ts : List Token) (u : UnitOf Text) → Says ts u → levels (forest_of_unit u) ≤ n → reading_of_unit n ts ≡ Some u

-- tokens say one unit, and so does a text, whatever its depth:
abbrev pub TokensSayOneUnit : Type 0
TokensSayOneUnit = (ts : List Token) (u v : UnitOf Text) → Says ts u → Says ts v → u ≡ v

abbrev pub TextSaysOneUnit : Type 0
TextSaysOneUnit = (t : Text) (u v : UnitOf Text) → TextSays t u → TextSays t v → u ≡ v
