-- What holds of each token of a text.
use Rattle.std.specs.Prelude.{◌≡◌, ℕ, Bool, true, not, ◌&&◌, ◌==◌, List, [], ◌∷◌, Some, IsUtf8}
use Rattle.wesl_tree_names.specs.Path.{Text}
use Rattle.wesl_text_tokens.specs.Tokens.{Token, name, number, tokens}

-- whether a text has no such byte
abbrev pub lacks : ℕ → Text → Bool
lacks c [] = true
lacks c (x ∷ xs) = not (x == c) && lacks c xs

-- names have neither dots nor slashes
abbrev pub HasNoSign : Token → Type 0
HasNoSign (name t) = (lacks 46 t ≡ true) × (lacks 47 t ≡ true)
HasNoSign t = Unit {0}

-- a name, and a number, is a text whose one token it is
abbrev pub StandsAlone : Token → Type 0
StandsAlone (name t) = tokens t ≡ Some (name t ∷ [])
StandsAlone (number t) = tokens t ≡ Some (number t ∷ [])
StandsAlone t = Unit {0}

-- it holds of each token
abbrev pub EachToken : (Token → Type 0) → List Token → Type 0
EachToken p [] = Unit {0}
EachToken p (t ∷ ts) = p t × EachToken p ts

-- no name of a text has dots or slashes
abbrev pub NamesHaveNoSigns : Type 0
NamesHaveNoSigns = (t : Text) (ts : List Token) → tokens t ≡ Some ts → EachToken HasNoSign ts

-- the names and numbers of a text of UTF-8, as each string is, stand alone
abbrev pub NamesStandAlone : Type 0
NamesStandAlone = (t : Text) (ts : List Token) → IsUtf8 t → tokens t ≡ Some ts → EachToken StandsAlone ts
