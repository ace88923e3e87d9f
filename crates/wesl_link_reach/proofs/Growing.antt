-- Lists that grow.
use Rattle.std.proofs.Common.{◌≡◌, inl, inr, ℕ, zero, suc, ◌<◌, ◌≤◌, ◌+◌, List, [], ◌∷◌, ◌++◌, length, length-append, take, drop, slice_index_or, slice_get, Some, Contains, All, arith, subst, sym, ap, ◌∙◌, append_assoc}
use Rattle.std.proofs.lemmas.List.{append-nil, take_more, take-append-le, take-append-drop}
use Rattle.std.proofs.lemmas.List.Elements.{Contains-append_left, Contains-append_cases, Contains-push_cases, Contains-get_or}
use Rattle.std.proofs.lemmas.Option.{slice_get_within, slice_get-get_or, get_or_from_slice_get}
use Rattle.wesl_link_reach.specs.Faults.{AreDistinct}
use Rattle.wesl_link_reach.specs.Faults.AreDistinct.{none, one_more as one_distinct}
use Rattle.wesl_link_reach.specs.Laws.{Within}
use Rattle.wesl_link_reach.specs.Loading.{GoesOn}
use Rattle.wesl_link_symbols.proofs.Lists.{contains_first, contains_later, contains_cases}
use Rattle.wesl_link_reach.proofs.Lists.{contains_one}

pub within_itself : {X : Type 0} (xs : List X) → Within xs xs
within_itself xs = record { held = λ x h. h }

pub within_push : {X : Type 0} (xs : List X) (x : X) → Within xs (xs ++ x ∷ [])
within_push xs x = record { held = λ y h. Contains-append_left xs (x ∷ []) y h }

pub within_on : {X : Type 0} (xs ys : List X) → GoesOn xs ys → Within xs ys
within_on {X} xs ys (rest, e) = record { held = λ x h. subst (λ (zs : List X). Contains zs x) (sym e) (Contains-append_left xs rest x h) }

pub within_cons : {X : Type 0} (m : X) (xs ys : List X) → Within xs ys → Within (m ∷ xs) (m ∷ ys)
within_cons {X} m xs ys more = record {
  held = λ x h. elim (contains_cases m x xs h) [
    | inl e ↦ subst (λ (y : X). Contains (m ∷ ys) y) e (contains_first m ys)
    | inr k ↦ contains_later m x ys (more.held x k)
  ];
}

pub goes_on_itself : {X : Type 0} (xs : List X) → GoesOn xs xs
goes_on_itself xs = ([], sym (append-nil xs))

pub goes_on_trans : {X : Type 0} (xs ys zs : List X) → GoesOn xs ys → GoesOn ys zs → GoesOn xs zs
goes_on_trans {X} xs ys zs (a, e) (b, f) = (a ++ b, f ∙ (ap (λ (t : List X). t ++ b) e ∙ append_assoc xs a b))

pub goes_on_cons : {X : Type 0} (m : X) (xs ys : List X) → GoesOn xs ys → GoesOn (m ∷ xs) (m ∷ ys)
goes_on_cons {X} m xs ys (a, e) = (a, ap (λ (t : List X). m ∷ t) e)

pub goes_on_length : {X : Type 0} (xs ys : List X) → GoesOn xs ys → length xs ≤ length ys
goes_on_length {X} xs ys (more, e) =
    let both : length ys ≡ length (xs ++ more) = ap length e in
    let sum : length (xs ++ more) ≡ length xs + length more = length-append xs more in
    omega arith

pub take_on : {X : Type 0} (n : ℕ) (xs ys : List X) → n ≤ length xs → GoesOn xs ys → take n ys ≡ take n xs
take_on {X} n xs ys b (more, e) = ap (λ (zs : List X). take n zs) e ∙ take-append-le n xs more b

pub contains_take : {X : Type 0} (n : ℕ) (xs : List X) (x : X) → Contains (take n xs) x → Contains xs x
contains_take {X} n xs x h = subst (λ (ys : List X). Contains ys x) (take-append-drop n xs) (Contains-append_left (take n xs) (drop n xs) x h)

-- what holds of each of the first i and of the next, holds of each of the first i + 1
pub first_more : {X : Type 0} (Q : X → Type 0) (xs : List X) (i : ℕ) (d : X) → i < length xs → ((x : X) → Contains (take i xs) x → Q x) → Q (slice_index_or xs i d) → (x : X) → Contains (take (i + 1) xs) x → Q x
first_more {X} Q xs i d b earlier here x h =
    elim (Contains-push_cases (take i xs) (slice_index_or xs i d) x (subst (λ (ys : List X). Contains ys x) (take_more xs i d b) h)) [
      | inl k ↦ earlier x k
      | inr e ↦ subst Q e here
    ]

-- the same as a list grows at its end while a turn is taken
pub turn_more : {X : Type 0} (Q : X → Type 0) (xs ys : List X) (i : ℕ) (x : X) → i < length xs → GoesOn xs ys → slice_index_or xs i x ≡ x → ((y : X) → Contains (take i xs) y → Q y) → Q x
    → (y : X) → Contains (take (i + 1) ys) y → Q y
turn_more {X} Q xs ys i x b on e earlier here y h =
    first_more Q xs i x b earlier (subst Q (sym e) here) y (subst (λ (zs : List X). Contains zs y) (take_on (i + 1) xs ys (omega arith) on) h)

pub distinct_push : {X : Type 0} (xs : List X) (x : X) → AreDistinct xs → (Contains xs x → ⊥) → AreDistinct (xs ++ x ∷ [])
distinct_push [] x d fresh = one_distinct x [] fresh none
distinct_push {X} (y ∷ ys) x (one_distinct _ _ other_fresh d) fresh =
    one_distinct y (ys ++ x ∷ [])
    (λ h. elim (Contains-append_cases ys (x ∷ []) y h) [
      | inl in_ys ↦ other_fresh in_ys
      | inr in_x ↦ fresh (subst (λ (z : X). Contains (y ∷ ys) z) (sym (contains_one x y in_x)) (contains_first y ys))
    ])
    (distinct_push ys x d (λ h. fresh (contains_later y x ys h)))

all_places : {X : Type 0} (Q : X → Type 0) (p : X) (ps : List X) → Q p → ((x : X) → Contains ps x → Q x) → (k : ℕ) (d : X) → k < suc (length ps) → Q (slice_index_or (p ∷ ps) k d)
all_places Q p ps first rest zero d b = first
all_places Q p ps first rest (suc k) d b = rest (slice_index_or ps k d) (Contains-get_or ps k d (omega arith))

pub all_of : {X : Type 0} (Q : X → Type 0) (p : X) (ps : List X) → Q p → ((x : X) → Contains ps x → Q x) → All Q (p ∷ ps)
all_of Q p ps first rest = λ k d b. all_places Q p ps first rest k d b

-- a place of a list that a loop goes over is an element of what it was read from
pub element_of : {X : Type 0} (xs ys : List X) (k : ℕ) (d : X) → xs ≡ ys → k < length xs → Contains ys (slice_index_or xs k d)
element_of {X} xs ys k d e b = subst (λ (zs : List X). Contains zs (slice_index_or xs k d)) e (Contains-get_or xs k d b)

-- one more turn at a place that was read
pub turn_at : {X : Type 0} (Q : X → Type 0) (xs ys : List X) (i : ℕ) (x : X) → slice_get xs i ≡ Some x → GoesOn xs ys → ((y : X) → Contains (take i xs) y → Q y) → Q x
    → (y : X) → Contains (take (i + 1) ys) y → Q y
turn_at Q xs ys i x at on earlier here = turn_more Q xs ys i x (slice_get_within xs i x at) on (get_or_from_slice_get xs i x x at) earlier here

pub index_at : {X : Type 0} (xs ys : List X) (i : ℕ) (d : X) → xs ≡ ys → i < length ys → slice_get ys i ≡ Some (slice_index_or xs i d)
index_at {X} xs ys i d e b = slice_get-get_or ys i d b ∙ ap (λ (zs : List X). Some (slice_index_or zs i d)) (sym e)
