-- Which tokens may stand side by side with nothing between them.
use Rattle.std.specs.Prelude.{ℕ, Bool, true, false, not, ◌&&◌, ◌||◌, ◌==◌, [], ◌∷◌, codes}
use Rattle.wesl_tree_names.specs.Path.{Text}
use Rattle.wesl_text_tokens.specs.Characters.{is_one_of}
use Rattle.wesl_text_tokens.specs.Symbols.{symbol_text}
use Rattle.wesl_text_sink.specs.declared.kind.Kind.{Kind}
use Rattle.wesl_text_sink.specs.declared.kind.Kind.TheVariants as kinds

-- the text of what is no name and no number
abbrev pub sign_text : Kind → Text
sign_text kinds.Name = []
sign_text kinds.Number = []
sign_text (kinds.Symbol s) = symbol_text s
sign_text kinds.OpenList = codes "<"
sign_text kinds.CloseList = codes ">"

-- the first and the last byte of a text; 0 where it has none
abbrev pub first_of : Text → ℕ
first_of [] = 0
first_of (c ∷ cs) = c

abbrev pub last_of : Text → ℕ
last_of [] = 0
last_of (c ∷ []) = c
last_of (c ∷ d ∷ cs) = last_of (d ∷ cs)

-- a sign that begins a symbol or a comment with the same sign behind it
abbrev pub is_run : ℕ → Bool
is_run = is_one_of (codes "&|+-:<>/")

-- Two signs that begin a symbol or a comment where nothing stands between them: `=` behind any other, `&&`, `||`, `++`,
-- `--`, `::`, `<<`, `>>`, `//`, `->` and `/*`.
abbrev pub runs_on : ℕ → ℕ → Bool
runs_on a b = (b == 61) || ((a == b) && is_run a) || ((a == 45) && (b == 62)) || ((a == 47) && (b == 42))

-- Whether a token may stand right behind another. Names and numbers go on where no sign stands between them, a number goes
-- on with `.`, and `.` begins a number; two signs are told apart unless they begin a symbol or a comment. The two that close
-- template lists in one another are told apart by the lists.
abbrev pub may_touch : Kind → Kind → Bool
may_touch kinds.Name kinds.Name = false
may_touch kinds.Name kinds.Number = false
may_touch kinds.Name k = true
may_touch kinds.Number kinds.Name = false
may_touch kinds.Number kinds.Number = false
may_touch kinds.Number k = not (first_of (sign_text k) == 46)
may_touch j kinds.Name = true
may_touch j kinds.Number = not (last_of (sign_text j) == 46)
may_touch kinds.CloseList kinds.CloseList = true
may_touch j k = not (runs_on (last_of (sign_text j)) (first_of (sign_text k)))
