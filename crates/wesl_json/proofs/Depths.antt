-- A text of a value that nests too deep is not read.
use Rattle.std.proofs.Common.{◌≡◌, inl, inr, ℕ, zero, suc, ◌<◌, ◌≤◌, max, List, [], ◌∷◌, ◌++◌, length, Option, Some, None, option_and_then, refl, sym, ap, ap₂, ◌∙◌, arith, append_assoc, append-nil}
use Rattle.std.proofs.lemmas.Bool.{cases_lt}
use Rattle.json.specs.Token.{Token}
use Rattle.json.specs.Json.{Json, null, boolean, number, string, array, object, Items, no_items, item, Members, no_members, member, parse_map, after_end_array, items_step, items, members, value, if_last}
use Rattle.json.specs.Tree.{json_tokens, items_tokens, members_tokens, depth, items_depth, members_depth}
use Rattle.json.proofs.Printed.Trees.{value-json_tokens}
use Rattle.serde_json.specs.Data as value_data
use Rattle.serde_json.specs.Read.{of_json, max_depth, read}
use Rattle.serde_json.specs.Written.{outline, items_outline, members_outline, blank, blank_items, blank_members, IsInOrder}

-- no value begins with a closing bracket
begins : (j : Json) (rest : List Token) → after_end_array (json_tokens j ++ rest) ≡ None
begins null rest = refl
begins (boolean b) rest = refl
begins (number s) rest = refl
begins (string s) rest = refl
begins (array js) rest = refl
begins (object ms) rest = refl

-- ---- the tokens of a value are not read at fewer levels than its depth

mutual
  unfolding value items members

  deep : (j : Json) (d : ℕ) (rest : List Token) → d < depth j → value d (json_tokens j ++ rest) ≡ None
  deep null d rest h = absurd (omega arith)
  deep (boolean b) d rest h = absurd (omega arith)
  deep (number s) d rest h = absurd (omega arith)
  deep (string s) d rest h = absurd (omega arith)
  deep (array js) zero rest h = refl
  deep (array js) (suc d) rest h = ap (parse_map array) (deep_items js d (length (items_tokens js ++ rest)) rest (omega arith))
  deep (object ms) zero rest h = refl
  deep (object ms) (suc d) rest h = ap (parse_map object) (deep_members ms d (length (members_tokens ms ++ rest)) rest (omega arith))

  deep_items : (js : Items) (d n : ℕ) (rest : List Token) → d < items_depth js → items (value d) n (items_tokens js ++ rest) ≡ None
  deep_items no_items d n rest h = absurd (omega arith)
  deep_items (item j js) d zero rest h = refl
  deep_items (item j js) d (suc n) rest h =
      let after = items_tokens js ++ rest in
      let more = λ (o : Option (Json × List Token)). option_and_then (λ p. parse_map (item p.0) (items (value d) n p.1)) o in
      ap (items (value d) (suc n)) (append_assoc (json_tokens j) (items_tokens js) rest)
      ∙ ap (items_step (value d) (items (value d) n) (json_tokens j ++ after)) (begins j after)
      ∙ elim (cases_lt d (depth j)) [
        | inl high ↦ ap more (deep j d after high)
        | inr low ↦ ap more (value-json_tokens j d after low) ∙ ap (parse_map (item j)) (deep_items js d n rest (omega arith))
      ]

  deep_members : (ms : Members) (d n : ℕ) (rest : List Token) → d < members_depth ms → members (value d) n (members_tokens ms ++ rest) ≡ None
  deep_members no_members d n rest h = absurd (omega arith)
  deep_members (member k j ms) d zero rest h = refl
  deep_members (member k j ms) d (suc n) rest h =
      let after = members_tokens ms ++ rest in
      let more = λ (o : Option (Json × List Token)). option_and_then (λ p. parse_map (member k p.0) (members (value d) n p.1)) o in
      ap (λ l. members (value d) (suc n) (Token.key k ∷ l)) (append_assoc (json_tokens j) (members_tokens ms) rest)
      ∙ elim (cases_lt d (depth j)) [
        | inl high ↦ ap more (deep j d after high)
        | inr low ↦ ap more (value-json_tokens j d after low) ∙ ap (parse_map (member k j)) (deep_members ms d n rest (omega arith))
      ]

-- ---- the depth is that of the value

mutual
  depth-blank : (j : Json) → depth (blank j) ≡ depth j
  depth-blank null = refl
  depth-blank (boolean b) = refl
  depth-blank (number s) = refl
  depth-blank (string s) = refl
  depth-blank (array js) = ap (λ n. suc n) (depth-blank_items js)
  depth-blank (object ms) = ap (λ n. suc n) (depth-blank_members ms)

  depth-blank_items : (js : Items) → items_depth (blank_items js) ≡ items_depth js
  depth-blank_items no_items = refl
  depth-blank_items (item j js) = ap₂ max (depth-blank j) (depth-blank_items js)

  depth-blank_members : (ms : Members) → members_depth (blank_members ms) ≡ members_depth ms
  depth-blank_members no_members = refl
  depth-blank_members (member k j ms) = ap₂ max (depth-blank j) (depth-blank_members ms)

mutual
  depth-outline : (d : value_data.Data) → depth (outline d) ≡ value_data.depth d
  depth-outline value_data.null = refl
  depth-outline (value_data.boolean b) = refl
  depth-outline (value_data.number n) = refl
  depth-outline (value_data.string s) = refl
  depth-outline (value_data.array ds) = ap (λ n. suc n) (depth-items_outline ds)
  depth-outline (value_data.object ms) = ap (λ n. suc n) (depth-members_outline ms)

  depth-items_outline : (ds : value_data.Items) → items_depth (items_outline ds) ≡ value_data.items_depth ds
  depth-items_outline value_data.no_items = refl
  depth-items_outline (value_data.item d ds) = ap₂ max (depth-outline d) (depth-items_outline ds)

  depth-members_outline : (ms : value_data.Members) → members_depth (members_outline ms) ≡ value_data.members_depth ms
  depth-members_outline value_data.no_members = refl
  depth-members_outline (value_data.member k d ms) = ap₂ max (depth-outline d) (depth-members_outline ms)

-- ---- the whole text

abbrev whole : Option (Json × List Token) → Option value_data.Data
whole o = option_and_then of_json (option_and_then (λ p. if_last p.0 p.1) o)

unread : (text : List ℕ) (d : value_data.Data) → IsInOrder text d → max_depth < value_data.depth d → read text ≡ None
unread text d w h =
    let same = sym (depth-blank w.0) ∙ ap depth w.2 ∙ depth-outline d in
    ap whole (ap (value max_depth) (w.1 ∙ sym (append-nil (json_tokens w.0))) ∙ deep w.0 max_depth [] (omega arith))

-- what was written and is read again is the value
pub read_as_written : (text : List ℕ) (d : value_data.Data) → IsInOrder text d → (value_data.depth d ≤ max_depth → read text ≡ Some d) → (e : value_data.Data) → read text ≡ Some e → e ≡ d
read_as_written text d w back e r = elim (cases_lt max_depth (value_data.depth d)) [
  | inl high ↦ absurd (let never : ⊥ = let gone = sym r ∙ unread text d w high in cc in never)
  | inr low ↦ let same = sym r ∙ back low in cc
]
