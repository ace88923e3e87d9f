-- Numbers that are not read as whole ones, item by item and member by member.
use Rattle.std.proofs.Common.{◌≡◌, ℕ, ◌+◌, ◌<◌, List, [], ◌∷◌, ◌++◌, take, length, get_or, Bool, true, false, ◌||◌, Ordering, Less, Equal, Greater, nat_cmp, Some, string_bytes, refl, sym, ap, ◌∙◌, inl, inr}
use Rattle.std.specs.Cmp.Lexicographic.{slice_cmp}
use Rattle.std.specs.Ordering.{match_ordering}
use Rattle.serde_json.specs.Data.{Data, Members, no_members, member, put}
use Rattle.serde_json.specs.Find.{get_item}
use Rattle.serde_json.specs.Written.{has_float, items_have_float, members_have_float}
use Rattle.serde_json.specs.View.{view, items_view, members_view}
use Rattle.serde_json.specs.declared.value.Value.{Value}
use Rattle.serde_json.proofs.Views.{Entry, get_item_within}
use Rattle.wesl_json_form.specs.View.{borrowed_view, key_text, items_view as borrowed_items_view, members_view as borrowed_members_view}
use Rattle.wesl_json_form.specs.declared.value.BorrowedValue.{BorrowedValue}
use Rattle.wesl_json_form.proofs.Lists.{Entry as BorrowedEntry, members_view-more}
use Rattle.wesl_tree_names.specs.Path.{Text}
use Rattle.wesl_json_form.specs.Keys.{HasMember}
use Rattle.wesl_program_bundle.proofs.Readings.{longer}
use Rattle.std.proofs.lemmas.Bool.{or_parts}

-- the first is not, and what follows from the second
past : (a b : Bool) {c : Bool} → (a || b) ≡ false → (b ≡ false → c ≡ false) → (a || c) ≡ false
past true b h next = cc
past false b h next = next h

-- ---- items

pub item-found : (vs : List Value) (i : ℕ) (v : Value) → i < length vs → v ≡ get_or vs i v → get_item i (items_view vs) ≡ Some (view v)
item-found vs i v low e = sym (get_item_within vs i v low) ∙ ap (λ x. Some (view x)) (sym e)

floats-append : (vs : List Value) (v : Value) → items_have_float (items_view vs) ≡ false → has_float (view v) ≡ false → items_have_float (items_view (vs ++ v ∷ [])) ≡ false
floats-append [] v before here = rw here
floats-append (w ∷ vs) v before here = past (has_float (view w)) (items_have_float (items_view vs)) before (λ later. floats-append vs v later here)

pub floats-turn : (vs : List Value) (i : ℕ) (v : Value) → i < length vs → v ≡ get_or vs i v → items_have_float (items_view (take i vs)) ≡ false → has_float (view v) ≡ false → items_have_float (items_view (take (i + 1) vs)) ≡ false
floats-turn vs i v low e before here = ap (λ ws. items_have_float (items_view ws)) (longer vs i v low e) ∙ floats-append (take i vs) v before here

-- ---- members

pub HasMember-middle : (done : List Entry) (e : Entry) (left : List Entry) → HasMember (string_bytes e.0) (view e.1) (members_view (done ++ e ∷ left))
HasMember-middle [] e left = inl (refl, refl)
HasMember-middle (x ∷ done) e left = inr (HasMember-middle done e left)

pub floats-member : (done : List Entry) (e : Entry) → members_have_float (members_view done) ≡ false → has_float (view e.1) ≡ false → members_have_float (members_view (done ++ e ∷ [])) ≡ false
floats-member [] e before here = rw here
floats-member (x ∷ done) e before here = past (has_float (view x.1)) (members_have_float (members_view done)) before (λ later. floats-member done e later here)

-- ---- items of light values

whole-append : (vs : List BorrowedValue) (v : BorrowedValue) → items_have_float (borrowed_items_view vs) ≡ false → has_float (borrowed_view v) ≡ false → items_have_float (borrowed_items_view (vs ++ v ∷ [])) ≡ false
whole-append [] v before here = rw here
whole-append (w ∷ vs) v before here = past (has_float (borrowed_view w)) (items_have_float (borrowed_items_view vs)) before (λ later. whole-append vs v later here)

pub whole-turn : (vs : List BorrowedValue) (i : ℕ) (v : BorrowedValue) → i < length vs → v ≡ get_or vs i v → items_have_float (borrowed_items_view (take i vs)) ≡ false → has_float (borrowed_view v) ≡ false → items_have_float (borrowed_items_view (take (i + 1) vs)) ≡ false
whole-turn vs i v low e before here = ap (λ ws. items_have_float (borrowed_items_view ws)) (longer vs i v low e) ∙ whole-append (take i vs) v before here

-- ---- members of light values

put_at-whole : (o : Ordering) (k l : Text) (d e : Data) (ms : Members) → has_float d ≡ false → members_have_float (member l e ms) ≡ false → members_have_float (put k d ms) ≡ false → members_have_float (match_ordering o (member k d (member l e ms)) (member l d ms) (member l e (put k d ms))) ≡ false
put_at-whole Less k l d e ms here before later = rw here before
put_at-whole Equal k l d e ms here before later = rw here (or_parts (has_float e) (members_have_float ms) before).1
put_at-whole Greater k l d e ms here before later =
    let first : has_float e ≡ false = (or_parts (has_float e) (members_have_float ms) before).0 in
    rw first later

-- a member more, whether or not it takes the place of another
put-whole : (k : Text) (d : Data) (ms : Members) → has_float d ≡ false → members_have_float ms ≡ false → members_have_float (put k d ms) ≡ false
put-whole k d no_members here before = rw here
put-whole k d (member l e ms) here before =
    put_at-whole (slice_cmp nat_cmp k l) k l d e ms here before (put-whole k d ms here (or_parts (has_float e) (members_have_float ms) before).1)

-- a turn of the loop over members
pub whole-member : (ms : List BorrowedEntry) (i : ℕ) (m : BorrowedEntry) → i < length ms → m ≡ get_or ms i m → members_have_float (borrowed_members_view (take i ms)) ≡ false → has_float (borrowed_view m.1) ≡ false → members_have_float (borrowed_members_view (take (i + 1) ms)) ≡ false
whole-member ms i m low e before here =
    ap members_have_float (members_view-more ms i m low e) ∙ put-whole (key_text m.0) (borrowed_view m.1) (borrowed_members_view (take i ms)) here before
