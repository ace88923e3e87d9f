-- Numbers given one by one, and the names of the keys that have one.
use Rattle.std.proofs.Common.{◌≡◌, ℕ, zero, suc, ◌+◌, ◌<◌, ◌≤◌, Bool, true, false, not, cond, ◌||◌, ◌==◌, List, [], ◌∷◌, ◌++◌, length, get_or, map, drop, drop-cons, add-one, refl, sym, ◌∙◌, ap, subst, arith, append_assoc, length-append, ◌⊎◌, inl, inr}
use Rattle.std.specs.Prelude.{if◌then◌else◌}
use Rattle.std.specs.List.{list_any, position_or_len, All, Contains}
use Rattle.std.specs.Bool.{Decides}
use Rattle.std.proofs.lemmas.List.{map-append}
use Rattle.std.proofs.lemmas.Grind.{common_steps}
use Rattle.std.proofs.lemmas.Bool.{cases_lt}
use Rattle.std.proofs.lemmas.Bool.Decides.{eqb_tells, Decides-eqb}
use Rattle.wesl_tree_syntax.specs.Unit.{name_in}
use Rattle.wesl_scope_meanings.specs.Scopes.{Key, free, same_key}
use Rattle.wesl_scope_numbers.specs.Canonical.{index_in, with_key, canonical_from}
use Rattle.wesl_scope_meanings.specs.Keys.{key_name}
use Rattle.wesl_scope_numbers.specs.Numbering.{distinct_from}
use Rattle.wesl_scope_meanings.proofs.Entries.{keys_decide, one_test}

-- where a key stands among those that have a number
pub stands : (k : Key) (seen : List Key) → (index_in k seen ≡ length seen) ⊎ ((index_in k seen < length seen) × (get_or seen (index_in k seen) (free []) ≡ k))
stands k [] = inl refl
stands k (x ∷ xs) = at (same_key x k) (keys_decide x k) (stands k xs)
  where
    at : (t : Bool) → Decides t (x ≡ k) → (index_in k xs ≡ length xs) ⊎ ((index_in k xs < length xs) × (get_or xs (index_in k xs) (free []) ≡ k))
        → ((if t then 0 else suc (index_in k xs)) ≡ length (x ∷ xs)) ⊎ (((if t then 0 else suc (index_in k xs)) < length (x ∷ xs)) × (get_or (x ∷ xs) (if t then 0 else suc (index_in k xs)) (free []) ≡ k))
    at true d s = inr (omega arith, d.0 refl)
    at false d (inl e) = inl (ap suc e)
    at false d (inr h) = inr (omega (arith, h.0), h.1)

before_end : (xs ys : List Key) (i : ℕ) → i < length xs → get_or (xs ++ ys) i (free []) ≡ get_or xs i (free [])
before_end xs ys i h = grind (arith, common_steps)

at_end : (xs : List Key) (x : Key) (i : ℕ) → i ≡ length xs → get_or (xs ++ x ∷ []) i (free []) ≡ x
at_end xs x i h = grind (arith, common_steps)

-- once it is put, it stands at its number
pub put : (k : Key) (seen : List Key) → (index_in k seen < length (with_key seen k)) × (get_or (with_key seen k) (index_in k seen) (free []) ≡ k)
put k seen = by (eqb_tells (index_in k seen) (length seen)) (stands k seen)
  where
    by : (((index_in k seen == length seen) ≡ true) × (index_in k seen ≡ length seen)) ⊎ (((index_in k seen == length seen) ≡ false) × (index_in k seen ≡ length seen → ⊥)) → (index_in k seen ≡ length seen) ⊎ ((index_in k seen < length seen) × (get_or seen (index_in k seen) (free []) ≡ k))
        → (index_in k seen < length (with_key seen k)) × (get_or (with_key seen k) (index_in k seen) (free []) ≡ k)
    by (inl e) s =
        subst (λ b. (index_in k seen < length (if b then seen ++ k ∷ [] else seen)) × (get_or (if b then seen ++ k ∷ [] else seen) (index_in k seen) (free []) ≡ k)) (sym e.0)
        (omega (arith, e.1, length-append seen (k ∷ [])), at_end seen k (index_in k seen) e.1)
    by (inr e) (inl f) = absurd (e.1 f)
    by (inr e) (inr h) =
        subst (λ b. (index_in k seen < length (if b then seen ++ k ∷ [] else seen)) × (get_or (if b then seen ++ k ∷ [] else seen) (index_in k seen) (free []) ≡ k)) (sym e.0) h

-- the keys that have numbers stay where they are
pub goes_on : (seen ks : List Key) → (more : List Key) × (distinct_from seen ks ≡ seen ++ more)
goes_on seen [] = ([], sym (no_more seen))
  where
    no_more : (xs : List Key) → xs ++ [] ≡ xs
    no_more [] = refl
    no_more (x ∷ xs) = ap (λ ys. x ∷ ys) (no_more xs)
goes_on seen (k ∷ ks) = joined (grown (index_in k seen == length seen)) (goes_on (with_key seen k) ks)
  where
    grown : (b : Bool) → (more : List Key) × ((if b then seen ++ k ∷ [] else seen) ≡ seen ++ more)
    grown true = (k ∷ [], refl)
    grown false = ([], sym (no_more seen))
      where
        no_more : (xs : List Key) → xs ++ [] ≡ xs
        no_more [] = refl
        no_more (x ∷ xs) = ap (λ ys. x ∷ ys) (no_more xs)

    joined : (more : List Key) × (with_key seen k ≡ seen ++ more) → (later : List Key) × (distinct_from (with_key seen k) ks ≡ with_key seen k ++ later) → (all : List Key) × (distinct_from (with_key seen k) ks ≡ seen ++ all)
    joined a b = (a.0 ++ b.0, b.1 ∙ (ap (λ xs. xs ++ b.0) a.1 ∙ append_assoc seen a.0 b.0))

-- the number of a key leads to it
pub leads_back : (k : Key) (seen ks : List Key) → (index_in k seen < length (distinct_from (with_key seen k) ks)) × (get_or (distinct_from (with_key seen k) ks) (index_in k seen) (free []) ≡ k)
leads_back k seen ks =
    let g = goes_on (with_key seen k) ks in
    let p = put k seen in (
      let n = length-append (with_key seen k) g.0 in omega (arith, p.0, n, ap length g.1),
      ap (λ xs. get_or xs (index_in k seen) (free [])) g.1 ∙ (before_end (with_key seen k) g.0 (index_in k seen) p.0 ∙ p.1),
    )

name_at : (ks : List Key) (i : ℕ) → i < length ks → name_in (map key_name ks) i ≡ key_name (get_or ks i (free []))
name_at [] i h = absurd (omega (arith, h))
name_at (k ∷ ks) zero h = refl
name_at (k ∷ ks) (suc i) h = name_at ks i (omega (arith, h))

-- so each number has the name of its key
pub names_of_numbers : (seen ks : List Key) → map (name_in (map key_name (distinct_from seen ks))) (canonical_from seen ks) ≡ map key_name ks
names_of_numbers seen [] = refl
names_of_numbers seen (k ∷ ks) =
    let b = leads_back k seen ks in
    ap (λ n. n ∷ map (name_in (map key_name (distinct_from (with_key seen k) ks))) (canonical_from (with_key seen k) ks)) (name_at (distinct_from (with_key seen k) ks) (index_in k seen) b.0 ∙ ap key_name b.1)
    ∙ ap (λ ns. key_name k ∷ ns) (names_of_numbers (with_key seen k) ks)

abbrev pub EachBelow : ℕ → List ℕ → Type 0
EachBelow n [] = Unit {0}
EachBelow n (m ∷ ms) = (m < n) × EachBelow n ms

-- and is below their count
pub numbers_below : (seen ks : List Key) → EachBelow (length (distinct_from seen ks)) (canonical_from seen ks)
numbers_below seen [] = tt
numbers_below seen (k ∷ ks) = ((leads_back k seen ks).0, numbers_below (with_key seen k) ks)

pub all_numbers : (n : ℕ) (ns : List ℕ) → EachBelow n ns → All (λ m. m < n) ns
all_numbers n [] h = λ k d l. absurd (omega (arith, l))
all_numbers n (m ∷ ms) h = at (all_numbers n ms h.1)
  where
    at : All (λ i. i < n) ms → All (λ i. i < n) (m ∷ ms)
    at rest zero d l = h.0
    at rest (suc k) d l = rest k d (omega (arith, l))

pub one_number_each : (seen ks : List Key) → length (canonical_from seen ks) ≡ length ks
one_number_each seen [] = refl
one_number_each seen (k ∷ ks) = ap suc (one_number_each (with_key seen k) ks)

-- every number below the count of the different keys is given
abbrev GivenAfter : List Key → ℕ → List Key → Type 0
GivenAfter ks m seen = length seen ≤ m → m < length (distinct_from seen ks) → Contains (canonical_from seen ks) m

stands_later : (m n : ℕ) (ns : List ℕ) → Contains ns m → Contains (n ∷ ns) m
stands_later m n ns c = (suc c.0, omega (arith, c.1), c.2)

stands_next : (m i : ℕ) (k : Key) (seen ks : List Key) → length seen ≤ m → i ≡ length seen → (length seen < m) ⊎ (m ≤ length seen) → m < length (distinct_from (seen ++ k ∷ []) ks) → GivenAfter ks m (seen ++ k ∷ []) → Contains (i ∷ canonical_from (seen ++ k ∷ []) ks) m
stands_next m i k seen ks low e (inl l) h rest = stands_later m i (canonical_from (seen ++ k ∷ []) ks) (rest (omega (arith, l, length-append seen (k ∷ []))) h)
stands_next m i k seen ks low e (inr l) h rest = let same : i ≡ m = omega (arith, l, low, e) in (0, omega arith, same)

stands_after : (t : Bool) (m i : ℕ) (k : Key) (seen ks : List Key) → Decides t (i ≡ length seen) → length seen ≤ m → m < length (distinct_from (if t then seen ++ k ∷ [] else seen) ks)
    → ((xs : List Key) → GivenAfter ks m xs) → Contains (i ∷ canonical_from (if t then seen ++ k ∷ [] else seen) ks) m
stands_after false m i k seen ks d low h rest = stands_later m i (canonical_from seen ks) (rest seen low h)
stands_after true m i k seen ks d low h rest = stands_next m i k seen ks low (d.0 refl) (cases_lt (length seen) m) h (rest (seen ++ k ∷ []))

pub each_stands : (seen ks : List Key) (m : ℕ) → GivenAfter ks m seen
each_stands seen [] m low high = absurd (omega (arith, low, high))
each_stands seen (k ∷ ks) m low high =
    stands_after (index_in k seen == length seen) m (index_in k seen) k seen ks (Decides-eqb (index_in k seen) (length seen)) low high (λ xs. each_stands xs ks m)

-- a key that is put by the code
module _ {K : Type 0} (f : K → Key) (eq : K → K → Bool) (k : K) (same : (x : K) → eq k x ≡ same_key (f x) (f k)) where
  pub index_is : (xs : List K) → position_or_len (eq k) xs ≡ index_in (f k) (map f xs)
  index_is [] = refl
  index_is (x ∷ xs) = at (eq k x) (same_key (f x) (f k)) (same x) (index_is xs)
    where
      at : (s t : Bool) → s ≡ t → position_or_len (eq k) xs ≡ index_in (f k) (map f xs) → cond (not s) (1 + position_or_len (eq k) xs) 0 ≡ (if t then 0 else suc (index_in (f k) (map f xs)))
      at true true e h = refl
      at false false e h = omega (arith, h)
      at true false e h = absurd (let y : ⊥ = cc in y)
      at false true e h = absurd (let y : ⊥ = cc in y)

  any_is : (xs : List K) → list_any (eq k) xs ≡ not (index_in (f k) (map f xs) == length (map f xs))
  any_is [] = refl
  any_is (x ∷ xs) = ap (λ t. t || list_any (eq k) xs) (same x) ∙ at (same_key (f x) (f k)) (any_is xs)
    where
      at : (t : Bool) → list_any (eq k) xs ≡ not (index_in (f k) (map f xs) == length (map f xs)) → (t || list_any (eq k) xs) ≡ not ((if t then 0 else suc (index_in (f k) (map f xs))) == suc (length (map f xs)))
      at true h = not_zero (length (map f xs))
        where
          not_zero : (n : ℕ) → true ≡ not (0 == suc n)
          not_zero n = ap not (sym (one_test (0 == suc n) false (Decides-eqb 0 (suc n)) ((λ e. absurd (let y : ⊥ = cc in y)), (λ e. absurd (omega (arith, e))))))
      at false h = h ∙ ap not (one_test (index_in (f k) (map f xs) == length (map f xs)) (suc (index_in (f k) (map f xs)) == suc (length (map f xs))) (Decides-eqb (index_in (f k) (map f xs)) (length (map f xs))) ((λ e. let q = (Decides-eqb (suc (index_in (f k) (map f xs))) (suc (length (map f xs)))).0 e in omega (arith, q)), (λ e. (Decides-eqb (suc (index_in (f k) (map f xs))) (suc (length (map f xs)))).1 (ap suc e))))

  pub keys_are : (xs : List K) → map f (if list_any (eq k) xs then xs else xs ++ k ∷ []) ≡ with_key (map f xs) (f k)
  keys_are xs = by (list_any (eq k) xs) (index_in (f k) (map f xs) == length (map f xs)) (any_is xs)
    where
      by : (a b : Bool) → a ≡ not b → map f (if a then xs else xs ++ k ∷ []) ≡ (if b then map f xs ++ f k ∷ [] else map f xs)
      by true true e = absurd (let y : ⊥ = cc in y)
      by true false e = refl
      by false true e = map-append f xs (k ∷ [])
      by false false e = absurd (let y : ⊥ = cc in y)

  -- one more key
  later_keys : (xs : List K) (i : ℕ) → i < length xs → k ≡ get_or xs i k → map f (drop i xs) ≡ f k ∷ map f (drop (i + 1) xs)
  later_keys xs i h is = rw (drop-cons xs i k h, ← is, add-one) refl

  pub next_given : (xs : List K) (i : ℕ) (old new : List K) (ns ms : List ℕ) (n : ℕ) (z : List ℕ) → i < length xs → k ≡ get_or xs i k → n ≡ position_or_len (eq k) old → new ≡ (if list_any (eq k) old then old else old ++ k ∷ []) → ms ≡ ns ++ n ∷ []
      → ns ++ canonical_from (map f old) (map f (drop i xs)) ≡ z → ms ++ canonical_from (map f new) (map f (drop (i + 1) xs)) ≡ z
  next_given xs i old new ns ms n z h is n_is new_is ms_is inv =
      let rest = map f (drop (i + 1) xs) in
      let grown : map f new ≡ with_key (map f old) (f k) = ap (map f) new_is ∙ keys_are old in
      let number : n ≡ index_in (f k) (map f old) = n_is ∙ index_is old in
      ap (λ x. x ++ canonical_from (map f new) rest) ms_is
      ∙ (append_assoc ns (n ∷ []) (canonical_from (map f new) rest)
      ∙ (ap (λ m. ns ++ m ∷ canonical_from (map f new) rest) number
      ∙ (ap (λ s. ns ++ index_in (f k) (map f old) ∷ canonical_from s rest) grown
      ∙ (ap (λ ks. ns ++ canonical_from (map f old) ks) (sym (later_keys xs i h is)) ∙ inv))))

  pub next_seen : (xs : List K) (i : ℕ) (old new : List K) (z : List Key) → i < length xs → k ≡ get_or xs i k → new ≡ (if list_any (eq k) old then old else old ++ k ∷ [])
      → distinct_from (map f old) (map f (drop i xs)) ≡ z → distinct_from (map f new) (map f (drop (i + 1) xs)) ≡ z
  next_seen xs i old new z h is new_is inv =
      let rest = map f (drop (i + 1) xs) in
      ap (λ s. distinct_from s rest) (ap (map f) new_is ∙ keys_are old) ∙ (ap (distinct_from (map f old)) (sym (later_keys xs i h is)) ∙ inv)
