-- What a borrowed value shows, and items that grow at their end.
use Rattle.std.proofs.Common.{◌≡◌, ℕ, List, [], ◌∷◌, ◌++◌, Bool, Option, Some, None, Bor, refl, ap, rules}
use Rattle.json.specs.Token.{Token}
use Rattle.json.specs.Json.{parse_map}
use Rattle.serde_json.specs.Data.{null, boolean, number, string, array, object, Items, no_items, item}
use Rattle.wesl_json_form.specs.View.{borrowed_view, items_view, members_view, number_view}
use Rattle.wesl_json_form.specs.declared.key.Key.{Key}
use Rattle.wesl_json_form.specs.declared.number.Number.{Number}
use Rattle.wesl_json_form.specs.declared.value.BorrowedValue as value
use Rattle.wesl_json_form.specs.declared.value.BorrowedValue.{BorrowedValue, the_lemmas}

pub null_view : borrowed_view value.Null ≡ null
null_view = search (rules, the_lemmas)

pub truth_view : (b : Bool) → borrowed_view (value.Bool b) ≡ boolean b
truth_view b = search (rules, the_lemmas)

pub number_seen : (n : Number) → borrowed_view (value.Number n) ≡ number (number_view n)
number_seen n = search (rules, the_lemmas)

pub text_view : (s : Bor (List ℕ)) → borrowed_view (value.String s) ≡ string s.now
text_view s = search (rules, the_lemmas)

pub ruleset shown = (null_view, truth_view, number_seen, text_view)

pub array_view : (vs : Bor (List BorrowedValue)) → borrowed_view (value.Array vs) ≡ array (items_view vs.now)
array_view vs = search (rules, the_lemmas)

pub object_view : (ms : Bor (List (Key × BorrowedValue))) → borrowed_view (value.Object ms) ≡ object (members_view ms.now)
object_view ms = search (rules, the_lemmas)

-- ---- items

-- the items of the values, then others
abbrev pub and_then_items : List BorrowedValue → Items → Items
and_then_items [] rest = rest
and_then_items (v ∷ vs) rest = item (borrowed_view v) (and_then_items vs rest)

pub items_alone : (vs : List BorrowedValue) → and_then_items vs no_items ≡ items_view vs
items_alone [] = refl
items_alone (v ∷ vs) = ap (item (borrowed_view v)) (items_alone vs)

moved_over : (vs : List BorrowedValue) (v : BorrowedValue) (rest : Items) → and_then_items vs (item (borrowed_view v) rest) ≡ and_then_items (vs ++ v ∷ []) rest
moved_over [] v rest = refl
moved_over (w ∷ vs) v rest = ap (item (borrowed_view w)) (moved_over vs v rest)

pub one_more_item : (vs : List BorrowedValue) (v : BorrowedValue) (o : Option (Items × List Token)) → parse_map (and_then_items vs) (parse_map (item (borrowed_view v)) o) ≡ parse_map (and_then_items (vs ++ v ∷ [])) o
one_more_item vs v None = refl
one_more_item vs v (Some q) = ap (λ ds. Some (ds, q.1)) (moved_over vs v q.0)

pub no_item_yet : (o : Option (Items × List Token)) → o ≡ parse_map (and_then_items []) o
no_item_yet None = refl
no_item_yet (Some q) = refl
