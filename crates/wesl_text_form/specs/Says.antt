-- Which units tokens say, and which units have a text.
use Rattle.std.specs.Prelude.{◌≡◌, ℕ, suc, max, Bool, true, false, ◌&&◌, ◌||◌, ◌==◌, if◌then◌else◌, is_some, List, [], ◌∷◌, ◌++◌, Option, Some, None, option_map, option_and_then, codes, bytes_eq}
use Rattle.wesl_tree_names.specs.Path.{Text}
use Rattle.wesl_tree_syntax.specs.Tree.{TreeOf, kind, at, end, tree, expression_node, compound, switch_clause, call_statement, import_entry}
use Rattle.wesl_tree_syntax.specs.Unit.{UnitOf}
use Rattle.wesl_text_tokens.specs.Symbols.{symbol_text}
use Rattle.wesl_text_tokens.specs.Characters.{is_doubled}
use Rattle.wesl_text_tokens.specs.Pieces.{What, a_name, a_number, a_sign, Bit}
use Rattle.wesl_text_tokens.specs.Tokens.{Token, name, number, symbol, open_list, close_list, tokens_of_bits, tokens}
use Rattle.wesl_text_form.specs.Slots.{Slot, left, fewest, same_token}
use Rattle.wesl_text_form.specs.Productions.{Sort}
use Rattle.wesl_text_form.specs.Spelling.{Label, Forest, Slots, slots, slots_as}

-- whether tokens fill slots
abbrev pub are_filled : Option (List Token) → Bool
are_filled (Some []) = true
are_filled _ = false

-- whether tokens say what has these slots
abbrev pub say_slots : List Token → Slots → Bool
say_slots ts ss = elim ss as (λ _. Bool) [ None ↦ false | Some us ↦ are_filled (left us ts) ]

-- the tokens say the unit: they fill its slots
abbrev pub Says : List Token → UnitOf Text → Type 0
Says ts u = (ss : List Slot) × (slots u ≡ Some ss) × (left ss ts ≡ Some [])

-- the text says the unit
abbrev pub TextSays : Text → UnitOf Text → Type 0
TextSays t u = (ts : List Token) × (tokens t ≡ Some ts) × Says ts u

-- ---- nesting

-- the labels of which each is a level: expressions with their spans, calls that are statements, bodies, clauses of a `switch`, and
-- entries of imports
abbrev pub is_level : Label → Bool
is_level (at expression_node start finish) = true
is_level (kind compound) = true
is_level (kind switch_clause) = true
is_level (kind call_statement) = true
is_level (kind import_entry) = true
is_level _ = false

-- how many levels stand in one another, at most
abbrev pub levels : Forest → ℕ
levels end = 0
levels (tree l children others) = max (if is_level l then suc (levels children) else levels children) (levels others)

-- ---- whether a text has these tokens

-- a sign, glued to the one before it where so
abbrev pub sign_bit : Bool → Text → Bit
sign_bit glued t = record { what = a_sign t; is_glued = glued }

-- the signs of a symbol, with nothing between: two alike that are doubled are one
abbrev pub sign_bits : Text → List Bit
sign_bits [] = []
sign_bits (c ∷ []) = sign_bit false (c ∷ []) ∷ []
sign_bits (c ∷ d ∷ []) = if (c == d) && is_doubled c then sign_bit false (c ∷ d ∷ []) ∷ [] else sign_bit false (c ∷ []) ∷ sign_bit true (d ∷ []) ∷ []
sign_bits (c ∷ d ∷ e ∷ cs) = sign_bit false (c ∷ []) ∷ sign_bit true (d ∷ []) ∷ sign_bit true (e ∷ []) ∷ []

-- the pieces of a token that stands apart
abbrev pub token_bits : Token → List Bit
token_bits (name t) = record { what = a_name t; is_glued = false } ∷ []
token_bits (number t) = record { what = a_number t; is_glued = false } ∷ []
token_bits (symbol s) = sign_bits (symbol_text s)
token_bits open_list = sign_bits (codes "<")
token_bits close_list = sign_bits (codes ">")

-- the pieces of tokens of which no two touch
abbrev pub bits_apart : List Token → List Bit
bits_apart [] = []
bits_apart (t ∷ ts) = token_bits t ++ bits_apart ts

-- whether two lists of tokens are one
abbrev pub same_tokens : List Token → List Token → Bool
same_tokens [] [] = true
same_tokens (t ∷ ts) (u ∷ us) = same_token t u && same_tokens ts us
same_tokens _ _ = false

-- whether tokens are those of the text in which they stand apart: its template lists are theirs, and no comparison is read as one
abbrev pub are_read_as_meant : List Token → Bool
are_read_as_meant ts = same_tokens (tokens_of_bits (bits_apart ts)) ts

-- the tokens that are printed for slots, where they are read as meant
abbrev pub as_meant : List Slot → Option (List Token)
as_meant ss = if are_read_as_meant (fewest ss) then Some (fewest ss) else None

-- the tokens of a unit that is printed; none where no text says the unit
abbrev pub spelling : UnitOf Text → Option (List Token)
spelling u = option_and_then as_meant (slots u)

-- whether a text says the unit
abbrev pub IsWritable : UnitOf Text → Bool
IsWritable u = is_some (spelling u)

-- the same of a tree in the place of a sort
abbrev pub spelling_as : Sort → TreeOf Text → Option (List Token)
spelling_as s t = option_and_then as_meant (slots_as s t)
