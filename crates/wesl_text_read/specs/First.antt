-- What comes first.
use Rattle.std.specs.Prelude.{ℕ, suc, Bool, ◌&&◌, true, false, if◌then◌else◌, List, [], ◌∷◌, ◌++◌, Option, Some, None, option_and_then, codes, bytes_eq}
use Rattle.wesl_tree_names.specs.Path.{Text, Origin, absolute, relative, from_package}
use Rattle.wesl_text_tokens.specs.declared.symbol.Symbol.{Symbol}
use Rattle.wesl_text_tokens.specs.declared.symbol.Symbol.TheVariants as is
use Rattle.wesl_text_tokens.specs.Tokens.{Token, name, number, symbol, close_list}
use Rattle.wesl_text_form.specs.Slots.{behind_if_there}
use Rattle.wesl_text_form.specs.Names.{is_free}
use Rattle.wesl_text_form.specs.Spelling.{dot}
use Rattle.wesl_text_reading.specs.FirstTokens.{begins_expression, begins_sign, behind_first, goes_on_behind}
use Rattle.wesl_text_reading.specs.Leaves.{Read, are_free, step_words, where_so}

-- the symbol that comes first, the word and the number:
abbrev pub sign_first : List Token → Option Symbol
sign_first (symbol s ∷ ts) = Some s
sign_first _ = None

abbrev pub word_first : List Token → Option Text
word_first (name t ∷ ts) = Some t
word_first _ = None

abbrev pub number_first : List Token → Option Text
number_first (number t ∷ ts) = Some t
number_first _ = None

-- the truth value that a word is, and that comes first
abbrev pub truth_of : Text → Option Bool
truth_of t = if bytes_eq t (codes "true") then Some true else if bytes_eq t (codes "false") then Some false else None

abbrev pub truth_first : List Token → Option Bool
truth_first ts = option_and_then truth_of (word_first ts)

-- a word that comes first and may be declared and used as a name, and what is left
abbrev pub read_free : List Token → Read Text
read_free (name t ∷ ts) = where_so (is_free t) t ts
read_free _ = None

-- whether a token is a word
abbrev pub is_word : Token → Bool
is_word (name t) = true
is_word _ = false

-- whether `super` comes first, and `::` behind it
abbrev pub begins_super : List Token → Bool
begins_super (name t ∷ ts) = bytes_eq t (codes "super") && begins_sign is.ColonColon ts
begins_super _ = false

-- so many levels up, and one more for each `super` with `::` that comes; and what is left
abbrev pub supers : ℕ → List Token → ℕ × List Token
supers n (t ∷ u ∷ ts) = elim (begins_super (t ∷ u ∷ ts)) as (λ _. ℕ × List Token) [
  | true ↦ supers (suc n) ts
  | false ↦ (n, t ∷ u ∷ ts)
]
supers n ts = (n, ts)

-- where a path begins that has this word before its first `::`, by the tokens behind; and what is left
abbrev pub read_origin : Text → List Token → Read Origin
read_origin t ts =
    if bytes_eq t (codes "package") then Some (absolute, ts)
    else if bytes_eq t (codes "self") then Some (relative 0, ts)
    else if bytes_eq t (codes "super") then (let x : ℕ × List Token = supers 1 ts in Some (relative x.0, x.1))
    else where_so (is_free t) (from_package t) ts

-- names, each with `::` behind it, and what is left; none where one of the words is no name
abbrev pub read_steps : List Token → Read (List Text)
read_steps ts = let x : List Text × List Token = step_words ts in where_so (are_free x.0) x.0 x.1

-- behind an expression in a list: whether another one follows behind a comma, and what is left
abbrev pub next_expression : List Token → Bool × List Token
next_expression ts = elim (begins_sign is.Comma ts) as (λ _. Bool × List Token) [
  | false ↦ (false, ts)
  | true ↦ (begins_expression (behind_first ts), behind_first ts)
]

-- whether a comma comes first, and what is behind it
abbrev pub behind_comma : List Token → Bool × List Token
behind_comma ts = (begins_sign is.Comma ts, behind_if_there (symbol is.Comma) ts)

-- whether a list ends at a token that follows a comma
abbrev pub is_end : Token → Bool
is_end (symbol is.ParenRight) = true
is_end close_list = true
is_end _ = false

-- whether a comma comes first, and something behind it that is no end
abbrev pub begins_next : List Token → Bool
begins_next ts = begins_sign is.Comma ts && goes_on_behind (behind_first ts)

-- the word behind a `.`, where both come first
abbrev pub part_first : List Token → Option Text
part_first (symbol is.Period ∷ name t ∷ ts) = Some t
part_first _ = None

-- the name of a rule that begins with this word, by the tokens behind the word; and what is left
abbrev pub read_rule : Text → List Token → Read Text
read_rule t ts = elim (part_first ts) as (λ _. Read Text) [
  | None ↦ Some (t, ts)
  | Some u ↦ Some (t ++ dot ∷ u, behind_first (behind_first ts))
]
