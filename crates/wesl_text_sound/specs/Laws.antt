-- What is promised of the reading beside that what is said is read: what is read is said, and no other.
use Rattle.std.specs.Prelude.{◌≡◌, ◌↔◌, ◌<◌, ℕ, Bool, true, List, [], ◌∷◌, Some, None, IsUtf8}
use Rattle.wesl_tree_names.specs.Path.{Text}
use Rattle.wesl_tree_syntax.specs.Tree.{TreeOf}
use Rattle.wesl_tree_syntax.specs.Unit.{UnitOf, forest_of_unit}
use Rattle.wesl_text_tokens.specs.Tokens.{Token, name, number, tokens}
use Rattle.wesl_text_form.specs.Names.{is_word, is_number}
use Rattle.wesl_text_form.specs.Productions.{Sort}
use Rattle.wesl_text_form.specs.Says.{Says, TextSays, levels}
use Rattle.wesl_text_reading.specs.Reading.{reading, reading_of_unit}
use Rattle.wesl_text_reading.specs.Laws.{SaysAs}

-- whether a token may stand among those of a text: a name is one word, and a number is one number
abbrev pub is_token : Token → Bool
is_token (name t) = is_word t
is_token (number t) = is_number t
is_token _ = true

-- all of them may
abbrev pub AreTokens : List Token → Type 0
AreTokens [] = Unit {0}
AreTokens (t ∷ ts) = (is_token t ≡ true) × AreTokens ts

-- what such tokens are read as in the place of a sort, to their end, they say
abbrev pub TreesAreSaid : Type 0
TreesAreSaid =
    (s : Sort) (n : ℕ) (ts : List Token) (t : TreeOf Text) → AreTokens ts → reading n s ts ≡ Some (t, [])
    → SaysAs s ts t

-- the unit that such tokens are read as, they say
abbrev pub UnitsAreSaid : Type 0
UnitsAreSaid = (n : ℕ) (ts : List Token) (u : UnitOf Text) → AreTokens ts → reading_of_unit n ts ≡ Some u → Says ts u

-- the tokens of a text of UTF-8, as each string is, are such
abbrev pub TokensOfTexts : Type 0
TokensOfTexts = (t : Text) (ts : List Token) → IsUtf8 t → tokens t ≡ Some ts → AreTokens ts

-- the unit that the tokens of such a text are read as, the text says
abbrev pub TextsAreSaid : Type 0
TextsAreSaid =
    (n : ℕ) (t : Text) (ts : List Token) (u : UnitOf Text) → IsUtf8 t → tokens t ≡ Some ts → reading_of_unit n ts ≡ Some u
    → TextSays t u

-- ---- together with what is said is read

-- a text says just the units that its tokens are read as, at whichever number of levels
abbrev pub TextsSayWhatIsRead : Type 0
TextsSayWhatIsRead =
    (t : Text) (ts : List Token) (u : UnitOf Text) → IsUtf8 t → tokens t ≡ Some ts
    → TextSays t u ↔ ((n : ℕ) × (reading_of_unit n ts ≡ Some u))

-- where its tokens are read as a unit, a text says no other
abbrev pub TextsSayNoOther : Type 0
TextsSayNoOther =
    (n : ℕ) (t : Text) (ts : List Token) (u v : UnitOf Text) → IsUtf8 t → tokens t ≡ Some ts → reading_of_unit n ts ≡ Some u
    → TextSays t v → u ≡ v

-- where they are not read, it says none with at most so many levels
abbrev pub UnreadTextsSayMore : Type 0
UnreadTextsSayMore =
    (n : ℕ) (t : Text) (ts : List Token) (u : UnitOf Text) → tokens t ≡ Some ts → reading_of_unit n ts ≡ None
    → TextSays t u → n < levels (forest_of_unit u)
