-- What is promised of printing: the tokens that must stand are enough, those of a text may stand apart, and what a text says can be
-- printed.
use Rattle.std.specs.Prelude.{◌≡◌, true, List, [], Some}
use Rattle.wesl_tree_names.specs.Path.{Text}
use Rattle.wesl_tree_syntax.specs.Tree.{TreeOf}
use Rattle.wesl_tree_syntax.specs.Unit.{UnitOf}
use Rattle.wesl_text_tokens.specs.Tokens.{Token, tokens, tokens_of_bits}
use Rattle.wesl_text_form.specs.Slots.{Slot, left, fewest}
use Rattle.wesl_text_form.specs.Productions.{Sort}
use Rattle.wesl_text_form.specs.Spelling.{slots, slots_as}
use Rattle.wesl_text_form.specs.Says.{Says, TextSays, spelling, IsWritable, bits_apart}
use Rattle.wesl_text_reading.specs.Laws.{SaysAs}

-- the tokens of a tree's slots that must stand fill them, in the place of each sort
abbrev pub FewestSayTrees : Type 0
FewestSayTrees = (s : Sort) (t : TreeOf Text) (ss : List Slot) → slots_as s t ≡ Some ss → left ss (fewest ss) ≡ Some []

-- those of a unit's slots say the unit
abbrev pub FewestSay : Type 0
FewestSay = (u : UnitOf Text) (ss : List Slot) → slots u ≡ Some ss → Says (fewest ss) u

-- the tokens of a text that says a tree are the same where no two touch: their template lists do not rest on what touches what. Of
-- other texts it does not hold: in `a<b+==c>` a list stands, and in `a < b += = c >` none.
abbrev pub TreesStandApart : Type 0
TreesStandApart =
    (s : Sort) (tree : TreeOf Text) (t : Text) (ts : List Token) → tokens t ≡ Some ts → SaysAs s ts tree
    → tokens_of_bits (bits_apart ts) ≡ ts

-- and of one that says a unit
abbrev pub UnitsStandApart : Type 0
UnitsStandApart =
    (u : UnitOf Text) (t : Text) (ts : List Token) → tokens t ≡ Some ts → Says ts u → tokens_of_bits (bits_apart ts) ≡ ts

-- what a text says can be printed: the tokens that must stand are read as they are meant
abbrev pub SaidAreWritable : Type 0
SaidAreWritable = (t : Text) (u : UnitOf Text) → TextSays t u → IsWritable u ≡ true

-- the tokens of a unit that is printed say it
abbrev pub SpellingsSay : Type 0
SpellingsSay = (u : UnitOf Text) (ts : List Token) → spelling u ≡ Some ts → Says ts u
