-- Statements without the `;` that they end with, as parts of `for` have them.
use Rattle.std.specs.Prelude.{ℕ, Bool, ◌&&◌, if◌then◌else◌, List, [], ◌∷◌, Option, Some, None, option_and_then, option_map, codes}
use Rattle.wesl_tree_names.specs.Path.{Text}
use Rattle.wesl_tree_syntax.specs.Tree.{TreeOf, assignment, before, branch, decrement, end, forest_of, increment, respell}
use Rattle.wesl_tree_syntax.specs.Unit.{name_in}
use Rattle.wesl_tree_syntax.specs.View.{call_view, expression_tree}
use Rattle.wesl_text_tokens.specs.declared.symbol.Symbol.{Symbol}
use Rattle.wesl_text_tokens.specs.declared.symbol.Symbol.TheVariants as is
use Rattle.wesl_text_tokens.specs.Tokens.{Token, name, symbol}
use Rattle.wesl_text_form.specs.Operators.{assignment_symbol}
use Rattle.wesl_text_form.specs.Slots.{behind_token}
use Rattle.wesl_text_form.specs.Productions.{Sort, a_bare_statement, a_call, an_expression}
use Rattle.wesl_text_form.specs.Spelling.{are_apart, is_simple, is_target_at}
use Rattle.wesl_text_reading.specs.FirstTokens.{assignment_of}
use Rattle.wesl_text_reading.specs.Leaves.{Read, after, where_so}
use Rattle.wesl_text_reading.specs.Reading.{Reader as TreeReader, label_first, read_node, read_row, wildcard, without_end}
use Rattle.wesl_text_read.specs.First.{sign_first}
use Rattle.wesl_text_read.specs.Levels.{inner}
use Rattle.wesl_text_read_simple.specs.declared.expressed.Change.{Change}
use Rattle.wesl_text_read_simple.specs.declared.expressed.Change.TheVariants as changes
use Rattle.wesl_text_read_simple.specs.declared.expressed.FirstPart.{FirstPart as HeldPart}
use Rattle.wesl_text_read_simple.specs.declared.expressed.FirstPart.TheVariants as held

-- how a statement goes on behind what is assigned to, by a symbol and by the first token:
abbrev pub change_of : Symbol → Option Change
change_of is.PlusPlus = Some changes.Increment
change_of is.MinusMinus = Some changes.Decrement
change_of s = option_map (λ o. changes.Assignment o) (assignment_of s)

abbrev pub change_first : List Token → Option Change
change_first ts = option_and_then change_of (sign_first ts)

-- what a statement begins with that begins with an expression: a call, or what is assigned to and how
pub data FirstPart : Type 0 where
  a_call_alone : TreeOf Text → FirstPart
  a_place : TreeOf Text → Change → FirstPart

-- what the code holds of it, where each identifier is its name
abbrev pub part_view : List Text → HeldPart → FirstPart
part_view names (held.Call c) = a_call_alone (respell (name_in names) (call_view c))
part_view names (held.Place e c) = a_place (respell (name_in names) (expression_tree e)) c

-- whether an expression may be assigned to, and ends the attributes before it
abbrev pub may_change : TreeOf Text → TreeOf Text → Bool
may_change a e = is_target_at 1 (before a (before e end)) && are_apart (before a (before e end))

-- `_` as the target of an assignment
abbrev pub read_wildcard : TreeReader
read_wildcard ts =
    option_and_then (λ us. Some (wildcard (λ s vs. None), us)) (behind_token (name (codes "_")) ts)

-- where `child` reads the children of each sort
module _ (child : Sort → TreeReader) where
  -- a simple statement without its `;`
  abbrev pub unended_of : TreeReader
  unended_of ts = elim (label_first child a_bare_statement ts) as (λ _. Read (TreeOf Text)) [
    | None ↦ None
    | Some l ↦
        if is_simple (Some l)
        then read_node child (λ row. read_row child (λ s us. None) (without_end child row)) a_bare_statement (Some l) ts
        else None
  ]

  -- A call where the token behind the first expression tells nothing else.
  abbrev pub part_of : List Token → Read FirstPart
  part_of ts = after (child an_expression ts) (λ e us. elim (change_first us) as (λ _. Read FirstPart) [
    | None ↦ after (child a_call ts) (λ c vs. Some (a_call_alone c, vs))
    | Some c ↦ Some (a_place e c, us)
  ])

  -- what is behind the attributes and the target of a statement, with them
  abbrev pub changed_of : Change → TreeOf Text → TreeOf Text → TreeReader
  changed_of changes.Increment a e ts =
      option_and_then (λ us. where_so (may_change a e) (branch increment (a ∷ e ∷ [])) us)
      (behind_token (symbol is.PlusPlus) ts)
  changed_of changes.Decrement a e ts =
      option_and_then (λ us. where_so (may_change a e) (branch decrement (a ∷ e ∷ [])) us)
      (behind_token (symbol is.MinusMinus) ts)
  changed_of (changes.Assignment o) a e ts =
      option_and_then (λ us. after (child an_expression us) (λ x vs.
      where_so (may_change a e) (record { label = assignment o; children = forest_of (a ∷ e ∷ x ∷ []) }) vs))
      (behind_token (symbol (assignment_symbol o)) ts)

-- the same with so many levels in an expression's place
abbrev pub unended_at : ℕ → TreeReader
unended_at n = unended_of (inner n)

abbrev pub part_at : ℕ → List Token → Read FirstPart
part_at n = part_of (inner n)

abbrev pub changed_at : ℕ → Change → TreeOf Text → TreeOf Text → TreeReader
changed_at n = changed_of (inner n)
