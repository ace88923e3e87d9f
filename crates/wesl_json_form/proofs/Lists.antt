-- Lists of borrowed values and of members, which grow at their ends.
use Rattle.std.proofs.Common.{◌≡◌, ℕ, ◌+◌, ◌<◌, List, [], ◌∷◌, ◌++◌, length, get_or, map, take, drop, refl, sym, ap, ◌∙◌}
use Rattle.std.proofs.Math.Seq.{drop-append_seam}
use Rattle.std.proofs.lemmas.List.{take_more}
use Rattle.serde_json.specs.Data.{Data, Items, no_items, item, Members, no_members, put}
use Rattle.wesl_json_form.specs.View.{borrowed_view, items_view, key_text, members_view, put_all}
use Rattle.wesl_json_form.specs.declared.key.Key.{Key}
use Rattle.wesl_json_form.specs.declared.value.BorrowedValue.{BorrowedValue}

abbrev pub Entry : Type 0
Entry = Key × BorrowedValue

abbrev pub seen : Entry → Key × Data
seen m = (m.0, borrowed_view m.1)

put_all-then : (xs : List Entry) (m : Entry) (found : Members) → put_all (map seen (xs ++ m ∷ [])) found ≡ put (key_text m.0) (borrowed_view m.1) (put_all (map seen xs) found)
put_all-then [] m found = refl
put_all-then (x ∷ xs) m found = put_all-then xs m (put (key_text x.0) (borrowed_view x.1) found)

-- what lies above what lay there first
pub lies_above : {A : Type 0} (xs ys stack : List A) (from : ℕ) → from ≡ length xs → stack ≡ xs ++ ys → drop from stack ≡ ys
lies_above xs ys stack from here is = ap (λ n. drop n stack) here ∙ ap (drop (length xs)) is ∙ drop-append_seam xs ys

-- one more member is put in last
pub members_view-then : (xs : List Entry) (m : Entry) → members_view (xs ++ m ∷ []) ≡ put (key_text m.0) (borrowed_view m.1) (members_view xs)
members_view-then xs m = put_all-then xs m no_members

-- the members up to one more
pub members_view-more : (xs : List Entry) (i : ℕ) (m : Entry) → i < length xs → m ≡ get_or xs i m → members_view (take (i + 1) xs) ≡ put (key_text m.0) (borrowed_view m.1) (members_view (take i xs))
members_view-more xs i m within here = ap members_view (take_more xs i m within ∙ ap (λ w. take i xs ++ w ∷ []) (sym here)) ∙ members_view-then (take i xs) m

abbrev pub items_then : Items → Data → Items
items_then no_items d = item d no_items
items_then (item e es) d = item e (items_then es d)

pub items-then : (vs : List BorrowedValue) (v : BorrowedValue) → items_view (vs ++ v ∷ []) ≡ items_then (items_view vs) (borrowed_view v)
items-then [] v = refl
items-then (w ∷ vs) v = ap (item (borrowed_view w)) (items-then vs v)
