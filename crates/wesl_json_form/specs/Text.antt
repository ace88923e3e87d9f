-- What tokens say, as data, and the tokens that are left.
use Rattle.std.specs.Prelude.{ℕ, length}
use Rattle.json.specs.Json.{Parse, value, items, members}
use Rattle.serde_json.specs.Data.{Data, Items, Members, no_members}
use Rattle.serde_json.specs.Read.{of_json, of_items, of_members, converted}

-- one value, with arrays and objects nested no deeper than the number
abbrev pub value_at : ℕ → Parse Data
value_at depth tokens = converted of_json (value depth tokens)

-- the items up to the end of an array, each nested no deeper than the number
abbrev pub items_at : ℕ → Parse Items
items_at depth tokens = converted of_items (items (value depth) (length tokens) tokens)

-- the members up to the end of an object, each nested no deeper than the number
abbrev pub members_at : ℕ → Parse Members
members_at depth tokens = converted (λ ms. of_members ms no_members) (members (value depth) (length tokens) tokens)
