-- Lemmas on lists and their places.
use Rattle.std.proofs.Common.{◌≡◌, ◌⊎◌, inl, inr, ℕ, zero, suc, ◌<◌, ◌≤◌, ◌+◌, Some, List, [], ◌∷◌, ◌++◌, length, map, slice_get, slice_index_or, length-append, Contains, All, arith, refl, subst, sym, ap}
use Rattle.std.proofs.lemmas.List.Elements.{Contains-append_cases, Contains-append_left, Contains-append_right}
use Rattle.wesl_link_symbols.proofs.Lists.{contains_nil, contains_first, contains_later, contains_cases}
use Rattle.wesl_link_reach.specs.Faults.{AreDistinct}
use Rattle.wesl_link_reach.specs.Faults.AreDistinct.{one_more as one_distinct}

-- two numbers are the same, or one is below the other
pub order : (x y : ℕ) → (x ≡ y) ⊎ ((x < y) ⊎ (y < x))
order zero zero = inl refl
order zero (suc y) = inr (inl (omega arith))
order (suc x) zero = inr (inr (omega arith))
order (suc x) (suc y) = elim (order x y) [ inl e ↦ inl (ap suc e) | inr e ↦ elim e [ inl f ↦ inr (inl (omega arith)) | inr f ↦ inr (inr (omega arith)) ] ]

pub contains_one : {X : Type 0} (x y : X) → Contains (x ∷ []) y → x ≡ y
contains_one x y h = elim (contains_cases x y [] h) [ inl e ↦ e | inr t ↦ absurd (contains_nil y t) ]

pub contains_map : {X Y : Type 0} (h : X → Y) (xs : List X) (y : Y) → Contains (map h xs) y → (x : X) × Contains xs x × (h x ≡ y)
contains_map h [] y held = absurd (contains_nil y held)
contains_map {X} {Y} h (x ∷ xs) y held = by_case (contains_cases (h x) y (map h xs) held) (contains_map h xs y)
  where
    by_case : (h x ≡ y) ⊎ Contains (map h xs) y → (Contains (map h xs) y → (z : X) × Contains xs z × (h z ≡ y)) → (z : X) × Contains (x ∷ xs) z × (h z ≡ y)
    by_case (inl e) rest = (x, contains_first x xs, e)
    by_case (inr t) rest = let (z, held, e) = rest t in (z, contains_later x z xs held, e)

pub map_contains : {X Y : Type 0} (h : X → Y) (xs : List X) (x : X) → Contains xs x → Contains (map h xs) (h x)
map_contains h [] x held = absurd (contains_nil x held)
map_contains {X} {Y} h (y ∷ xs) x held = by_case (contains_cases y x xs held) (map_contains h xs x)
  where
    by_case : (y ≡ x) ⊎ Contains xs x → (Contains xs x → Contains (map h xs) (h x)) → Contains (h y ∷ map h xs) (h x)
    by_case (inl e) rest = subst (λ (z : X). Contains (h y ∷ map h xs) (h z)) e (contains_first (h y) (map h xs))
    by_case (inr t) rest = contains_later (h y) (h x) (map h xs) (rest t)

pub all_into : {X : Type 0} {A B : X → Type 0} → ((x : X) → A x → B x) → (ps : List X) → All A ps → All B ps
all_into h ps a = λ k d b. h (slice_index_or ps k d) (a k d b)

split_at : {X : Type 0} (y : X) (ys : List X) (x : X) → (y ≡ x) ⊎ Contains ys x → (Contains ys x → (before : List X) × (after : List X) × (ys ≡ before ++ x ∷ after))
    → (before : List X) × (after : List X) × (y ∷ ys ≡ before ++ x ∷ after)
split_at {X} y ys x (inl e) rest = ([], ys, ap (λ (z : X). z ∷ ys) e)
split_at {X} y ys x (inr h) rest = let (before, after, e) = rest h in (y ∷ before, after, ap (λ (zs : List X). y ∷ zs) e)

split : {X : Type 0} (ys : List X) (x : X) → Contains ys x → (before : List X) × (after : List X) × (ys ≡ before ++ x ∷ after)
split [] x (k, b, e) = absurd (omega arith)
split (y ∷ ys) x h = split_at y ys x (contains_cases y x ys h) (split ys x)

other_cases : {X : Type 0} (x y : X) (before after : List X) → (x ≡ y → ⊥) → Contains before y ⊎ Contains (x ∷ after) y → Contains (before ++ after) y
other_cases x y before after differs (inl h) = Contains-append_left before after y h
other_cases x y before after differs (inr h) =
    elim (contains_cases x y after h) [ inl e ↦ absurd (differs e) | inr t ↦ Contains-append_right before after y t ]

pub distinct_length : {X : Type 0} (xs ys : List X) → AreDistinct xs → ((x : X) → Contains xs x → Contains ys x) → length xs ≤ length ys
distinct_length [] ys d h = omega arith
distinct_length {X} (x ∷ xs) ys (one_distinct _ _ fresh d) h =
    let (before, after, e) = split ys x (h x (contains_first x xs)) in
    let shorter : length xs ≤ length (before ++ after) =
    distinct_length xs (before ++ after) d (λ y in_xs. other_cases x y before after (λ (same : x ≡ y). fresh (subst (λ (z : X). Contains xs z) (sym same) in_xs))
    (Contains-append_cases before (x ∷ after) y (subst (λ (zs : List X). Contains zs y) e (h y (contains_later x y xs in_xs))))) in
    let e2 : length ys ≡ length (before ++ x ∷ after) = ap length e in
    let more : length (before ++ after) ≡ length before + length after = length-append before after in
    let all : length (before ++ x ∷ after) ≡ length before + length (x ∷ after) = length-append before (x ∷ after) in
    omega arith

pub length_map : {X Y : Type 0} (h : X → Y) (xs : List X) → length (map h xs) ≡ length xs
length_map h [] = refl
length_map h (x ∷ xs) = ap suc (length_map h xs)

-- ---- places of a list

pub contains_at_place : {X : Type 0} (xs : List X) (i : ℕ) → i < length xs → (x : X) × (i < length xs) × (slice_get xs i ≡ Some x)
contains_at_place [] i b = absurd (omega arith)
contains_at_place (x ∷ xs) zero b = (x, b, refl)
contains_at_place (x ∷ xs) (suc i) b = let (y, c, at) = contains_at_place xs i (omega arith) in (y, b, at)

pub last_place : {X : Type 0} (xs : List X) (x : X) → slice_get (xs ++ x ∷ []) (length xs) ≡ Some x
last_place [] x = refl
last_place (y ∷ xs) x = last_place xs x

pub place_kept : {X : Type 0} (xs : List X) (x : X) (i : ℕ) (y : X) → slice_get xs i ≡ Some y → slice_get (xs ++ x ∷ []) i ≡ Some y
place_kept [] x i y e = cc
place_kept (z ∷ xs) x zero y e = e
place_kept (z ∷ xs) x (suc i) y e = place_kept xs x i y e
