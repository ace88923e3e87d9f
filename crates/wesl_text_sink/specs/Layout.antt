-- Text in which tokens are laid out: blanks, a token, blanks, a token, and so on.
use Rattle.std.specs.Prelude.{ℕ, ◌+◌, Bool, true, not, ◌&&◌, ◌||◌, List, [], ◌∷◌, ◌++◌, length, map, Option, Some, None, codes}
use Rattle.std.specs.Str.{is_utf8}
use Rattle.wesl_tree_base.specs.Pieces.{is_empty}
use Rattle.wesl_tree_names.specs.Path.{Text}
use Rattle.wesl_text_tokens.specs.Characters.{is_one_of}
use Rattle.wesl_text_tokens.specs.Symbols.{symbol_text}
use Rattle.wesl_text_tokens.specs.Tokens.{Token, name, number, symbol, open_list, close_list}
use Rattle.wesl_text_sink.specs.declared.kind.Kind.{Kind}
use Rattle.wesl_text_sink.specs.declared.kind.Kind.TheVariants as kinds
use Rattle.wesl_text_sink.specs.declared.kind.Mark.{Mark}
use Rattle.wesl_text_sink.specs.Touching.{may_touch}

-- a token with the blanks before it
pub record Laid : Type 0 where
  pub blanks : Text
  pub token : Token

-- what a token is, and its text
abbrev pub kind_of : Token → Kind
kind_of (name t) = kinds.Name
kind_of (number t) = kinds.Number
kind_of (symbol s) = kinds.Symbol s
kind_of open_list = kinds.OpenList
kind_of close_list = kinds.CloseList

abbrev pub token_text : Token → Text
token_text (name t) = t
token_text (number t) = t
token_text (symbol s) = symbol_text s
token_text open_list = codes "<"
token_text close_list = codes ">"

-- the token of a kind that is this text
abbrev pub token_by : Kind → Text → Token
token_by kinds.Name t = name t
token_by kinds.Number t = number t
token_by (kinds.Symbol s) t = symbol s
token_by kinds.OpenList t = open_list
token_by kinds.CloseList t = close_list

-- the text, and the tokens
abbrev pub layout : List Laid → Text
layout [] = []
layout (l ∷ ls) = (l.blanks ++ token_text l.token) ++ layout ls

abbrev pub laid_tokens : List Laid → List Token
laid_tokens ls = map (λ l. l.token) ls

-- blanks and line feeds alone
abbrev pub are_blanks : Text → Bool
are_blanks [] = true
are_blanks (c ∷ cs) = is_one_of (codes " \n") c && are_blanks cs

-- whether the text of a name or a number is that of characters
abbrev pub is_spelled : Token → Bool
is_spelled (name t) = is_utf8 t
is_spelled (number t) = is_utf8 t
is_spelled _ = true

-- whether blanks part a token from the one before it, if there is one: there are some, or the two may touch
abbrev pub are_apart : Option Kind → Text → Kind → Bool
are_apart None blanks k = true
are_apart (Some j) blanks k = not (is_empty blanks) || may_touch j k

-- whether tokens are laid out behind another, if there is one
abbrev pub are_laid : Option Kind → List Laid → Bool
are_laid before [] = true
are_laid before (l ∷ ls) =
    (are_blanks l.blanks && is_spelled l.token)
    && (are_apart before l.blanks (kind_of l.token) && are_laid (Some (kind_of l.token)) ls)

-- where a token stands behind so many bytes and these blanks
abbrev pub mark_at : ℕ → Text → Kind → Text → Mark
mark_at at blanks k t = record { kind = k; start = at + length blanks; end = at + length blanks + length t }

-- where tokens stand, the first of them behind so many bytes
abbrev pub marks_from : ℕ → List Laid → List Mark
marks_from at [] = []
marks_from at (l ∷ ls) =
    mark_at at l.blanks (kind_of l.token) (token_text l.token)
    ∷ marks_from (at + length l.blanks + length (token_text l.token)) ls

-- the kind of the last token, if there is one
abbrev pub last_kind : List Mark → Option Kind
last_kind [] = None
last_kind (m ∷ []) = Some m.kind
last_kind (m ∷ n ∷ ms) = last_kind (n ∷ ms)
