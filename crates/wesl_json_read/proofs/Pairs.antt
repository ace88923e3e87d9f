-- A list that has not two items is no span.
use Rattle.std.proofs.Common.{◌≡◌, ◌==◌, List, [], ◌∷◌, length, None, false, refl}
use Rattle.wesl_json_form.specs.View.{items_view}
use Rattle.wesl_json_form.specs.Reading.{span_of_items}
use Rattle.wesl_json_form.specs.declared.value.BorrowedValue.{BorrowedValue}

pub no_pair : (vs : List BorrowedValue) → (length vs == 2) ≡ false → span_of_items (items_view vs) ≡ None
no_pair [] h = refl
no_pair (v ∷ []) h = refl
no_pair (v ∷ (w ∷ [])) h = cc
no_pair (v ∷ (w ∷ (x ∷ vs))) h = refl
