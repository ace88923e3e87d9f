-- Lists with the sign that closes them.
use Rattle.std.specs.Prelude.{ℕ, Bool, true, false, not, List, Some, option_and_then}
use Rattle.wesl_tree_syntax.specs.Tree.{Kind}
use Rattle.wesl_text_tokens.specs.declared.symbol.Symbol.{Symbol}
use Rattle.wesl_text_tokens.specs.declared.symbol.Symbol.TheVariants as is
use Rattle.wesl_text_tokens.specs.Tokens.{Token, symbol}
use Rattle.wesl_text_form.specs.Slots.{behind_token}
use Rattle.wesl_text_form.specs.Productions.{Sort}
use Rattle.wesl_text_reading.specs.FirstTokens.{begins_sign, behind_first}
use Rattle.wesl_text_reading.specs.Leaves.{after}
use Rattle.wesl_text_reading.specs.Reading.{Reader}
use Rattle.wesl_text_read.specs.Parts.{commas_at}

-- nodes of a sort with commas between and perhaps one behind, as one tree of a kind, and the sign that closes them
abbrev pub closed_at : ℕ → Kind → Sort → Symbol → Reader
closed_at n k s closing ts = after (commas_at n k s ts) (λ t us. option_and_then (λ vs. Some (t, vs)) (behind_token (symbol closing) us))

-- behind an item of a list that a sign closes: whether another one follows behind a comma, and what is left
abbrev pub next_item : Symbol → List Token → Bool × List Token
next_item closing ts = elim (begins_sign is.Comma ts) as (λ _. Bool × List Token) [
  | false ↦ (false, ts)
  | true ↦ (not (begins_sign closing (behind_first ts)), behind_first ts)
]
