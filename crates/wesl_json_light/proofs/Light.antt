-- Lists of borrowed values beside lists of values, item by item.
use Rattle.std.proofs.Common.{◌≡◌, ℕ, ◌+◌, ◌<◌, List, [], ◌∷◌, ◌++◌, length, get_or, take, refl, sym, ap, ◌∙◌}
use Rattle.std.proofs.lemmas.List.{take_more}
use Rattle.serde_json.specs.Data.{item}
use Rattle.serde_json.specs.View.{view, items_view as values_view}
use Rattle.serde_json.specs.declared.value.Value.{Value}
use Rattle.wesl_json_form.specs.View.{borrowed_view, items_view}
use Rattle.wesl_json_form.specs.declared.value.BorrowedValue.{BorrowedValue}
use Rattle.wesl_json_form.proofs.Lists.{items_then, items-then}

values-then : (vs : List Value) (v : Value) → values_view (vs ++ v ∷ []) ≡ items_then (values_view vs) (view v)
values-then [] v = refl
values-then (w ∷ vs) v = ap (item (view w)) (values-then vs v)

-- a turn of the loop that makes values of items
pub values-turn : (xs : List BorrowedValue) (i : ℕ) (x : BorrowedValue) (vs grown : List Value) (v : Value) → i < length xs → x ≡ get_or xs i x → grown ≡ vs ++ v ∷ [] → values_view vs ≡ items_view (take i xs) → view v ≡ borrowed_view x
    → values_view grown ≡ items_view (take (i + 1) xs)
values-turn xs i x vs grown v within here is before_it this =
    ap values_view is ∙ values-then vs v ∙ ap (λ ds. items_then ds (view v)) before_it ∙ ap (items_then (items_view (take i xs))) this
    ∙ sym (items-then (take i xs) x) ∙ ap items_view (sym (take_more xs i x within ∙ ap (λ w. take i xs ++ w ∷ []) (sym here)))

-- and of the one that makes items of values
pub items-turn : (xs : List Value) (i : ℕ) (x : Value) (vs grown : List BorrowedValue) (v : BorrowedValue) → i < length xs → x ≡ get_or xs i x → grown ≡ vs ++ v ∷ [] → items_view vs ≡ values_view (take i xs) → borrowed_view v ≡ view x
    → items_view grown ≡ values_view (take (i + 1) xs)
items-turn xs i x vs grown v within here is before_it this =
    ap items_view is ∙ items-then vs v ∙ ap (λ ds. items_then ds (borrowed_view v)) before_it ∙ ap (items_then (values_view (take i xs))) this
    ∙ sym (values-then (take i xs) x) ∙ ap values_view (sym (take_more xs i x within ∙ ap (λ w. take i xs ++ w ∷ []) (sym here)))
