-- What the lists of kept places say of a place, and of two.
use Rattle.std.proofs.Common.{◌≡◌, ℕ, zero, suc, ◌+◌, ◌^◌, ◌<◌, nat_eq, Bool, true, false, ◌&&◌, ◌||◌, if◌then◌else◌, ◌↔◌, ◌⊎◌, IsTrue, List, [], ◌∷◌, ◌++◌, map, length, get_or, Contains, slice_get, Option, Some, None, IfSome, Bor, length-append, inl, inr, ◌∙◌, ap, subst, sym, refl, arith, eq-eqb, eqb-true}
use Rattle.std.specs.List.{list_any}
use Rattle.std.specs.Option.{option_copied, option_map}
use Rattle.std.specs.Slice.{IsItemAt}
use Rattle.std.proofs.lemmas.Bool.{cases_eq}
use Rattle.std.proofs.lemmas.List.Folds.{list_any-append}
use Rattle.std.proofs.lemmas.Nat.{pow_pos}
use Rattle.std.proofs.lemmas.List.{length-map}
use Rattle.std.proofs.lemmas.Option.{slice_get-map, slice_get_past, slice_get_read, slice_get_within}
use Rattle.std.proofs.lemmas.List.Elements.{Contains-get_or}
use Rattle.wesl_cond_choices.specs.declared.place.Place.{Place}
use Rattle.wesl_cond_choices.specs.declared.place.Place.TheVariants.{Always, Import, Declaration, Name}
use Rattle.wesl_cond_choices.specs.Places.{is_always, same_place, keeps, together}
use Rattle.wesl_cond_choices.specs.Choices.{Choices, Meet, below}
use Rattle.wesl_cond_choices.proofs.Bits.{of_both}
use Rattle.wesl_cond_choices.specs.Alive.{PlaceSets, AreOver, AreChoicesOf, set_has, has_at, kept_from, kept_by, kept_lists, number_of, ShareChoice}

is_false : (x y : ℕ) → (x ≡ y → ⊥) → nat_eq x y ≡ false
is_false x y apart = of_test (nat_eq x y) (λ e. apart (eqb-true x y e))
  where
    of_test : (b : Bool) → (b ≡ true → ⊥) → b ≡ false
    of_test true h = absurd (h refl)
    of_test false h = refl

any_if : (p : Place → Bool) (b : Bool) (x : Place) (xs : List Place) → list_any p (if b then x ∷ xs else xs) ≡ ((b && p x) || list_any p xs)
any_if p true x xs = refl
any_if p false x xs = refl

or_false : (x : Bool) → (x || false) ≡ x
or_false true = refl
or_false false = refl

and_true : (x : Bool) → (x && true) ≡ x
and_true true = refl
and_true false = refl

and_false : (x : Bool) → (x && false) ≡ false
and_false true = refl
and_false false = refl

module _ (sets : List Choices) (k : ℕ) (place : ℕ → Place) where
  -- places of another kind
  misses : (q : Place) → ((i : ℕ) → same_place (place i) q ≡ false) → (ns : List ℕ) (j : ℕ)
      → list_any (λ p. same_place p q) (kept_from sets k place j ns) ≡ false
  misses q other [] j = refl
  misses q other (n ∷ ns) j =
      any_if (λ p. same_place p q) (has_at sets k (Some n)) (place j) (kept_from sets k place (suc j) ns)
      ∙ (λ t. (has_at sets k (Some n) && other j t) || misses q other ns (suc j) t) ∙ ap (λ x. x || false) (and_false (has_at sets k (Some n)))

  module _ (same : (i j : ℕ) → same_place (place i) (place j) ≡ nat_eq i j) where
    -- those before the ones that are counted
    before : (ns : List ℕ) (i j : ℕ) → i < j → list_any (λ p. same_place p (place i)) (kept_from sets k place j ns) ≡ false
    before [] i j low = refl
    before (n ∷ ns) i j low =
        let other : same_place (place j) (place i) ≡ false = same j i ∙ is_false j i (λ e. omega arith) in
        any_if (λ p. same_place p (place i)) (has_at sets k (Some n)) (place j) (kept_from sets k place (suc j) ns)
        ∙ (λ t. (has_at sets k (Some n) && other t) || before ns i (suc j) (omega arith) t) ∙ ap (λ x. x || false) (and_false (has_at sets k (Some n)))

    hits : (ns : List ℕ) (i j : ℕ) → list_any (λ p. same_place p (place (j + i))) (kept_from sets k place j ns) ≡ has_at sets k (slice_get ns i)
    hits [] i j = refl
    hits (n ∷ ns) zero j =
        let here : same_place (place j) (place (j + 0)) ≡ true = same j (j + 0) ∙ eq-eqb j (j + 0) (omega arith) in
        let none : list_any (λ p. same_place p (place (j + 0))) (kept_from sets k place (suc j) ns) ≡ false = before ns (j + 0) (suc j) (omega arith) in
        any_if (λ p. same_place p (place (j + 0))) (has_at sets k (Some n)) (place j) (kept_from sets k place (suc j) ns)
        ∙ (λ t. (has_at sets k (Some n) && here t) || none t) ∙ or_false (has_at sets k (Some n) && true) ∙ and_true (has_at sets k (Some n))
    hits (n ∷ ns) (suc i) j =
        let other : same_place (place j) (place (j + suc i)) ≡ false = same j (j + suc i) ∙ is_false j (j + suc i) (λ e. omega arith) in
        let next : j + suc i ≡ suc j + i = omega arith in
        any_if (λ p. same_place p (place (j + suc i))) (has_at sets k (Some n)) (place j) (kept_from sets k place (suc j) ns)
        ∙ ap (λ x. (has_at sets k (Some n) && x) || list_any (λ p. same_place p (place (j + suc i))) (kept_from sets k place (suc j) ns)) other
        ∙ ap (λ x. x || list_any (λ p. same_place p (place (j + suc i))) (kept_from sets k place (suc j) ns)) (and_false (has_at sets k (Some n)))
        ∙ ap (λ x. list_any (λ p. same_place p (place x)) (kept_from sets k place (suc j) ns)) next ∙ hits ns i (suc j)

    from_first : (ns : List ℕ) (i : ℕ) → list_any (λ p. same_place p (place i)) (kept_from sets k place 0 ns) ≡ has_at sets k (slice_get ns i)
    from_first ns i =
        let e : i ≡ 0 + i = omega arith in ap (λ x. list_any (λ p. same_place p (place x)) (kept_from sets k place 0 ns)) e ∙ hits ns i 0

module _ (s : PlaceSets) (k : ℕ) where
  three : (q : Place) (x y z : Bool) → list_any (λ p. same_place p q) (kept_from s.sets k Import 0 s.imports) ≡ x
      → list_any (λ p. same_place p q) (kept_from s.sets k Declaration 0 s.declarations) ≡ y
      → list_any (λ p. same_place p q) (kept_from s.sets k Name 0 s.names) ≡ z → list_any (λ p. same_place p q) (kept_by s k) ≡ ((x || y) || z)
  three q x y z a b c =
      list_any-append (λ p. same_place p q) (kept_from s.sets k Import 0 s.imports ++ kept_from s.sets k Declaration 0 s.declarations)
      (kept_from s.sets k Name 0 s.names)
      ∙ (λ t. list_any-append (λ p. same_place p q) (kept_from s.sets k Import 0 s.imports) (kept_from s.sets k Declaration 0 s.declarations) t || c t)
      ∙ (λ t. (a t || b t) || z)

  -- a choice keeps a place exactly where it is in the place's set
  pub keeps_is : (place : Place) → keeps (kept_by s k) place ≡ (is_always place || has_at s.sets k (number_of s place))
  keeps_is Always = refl
  keeps_is (Import i) =
      three (Import i) (has_at s.sets k (slice_get s.imports i)) false false (from_first s.sets k Import (λ i j. refl) s.imports i)
      (misses s.sets k Declaration (Import i) (λ j. refl) s.declarations 0) (misses s.sets k Name (Import i) (λ j. refl) s.names 0)
      ∙ or_false (has_at s.sets k (slice_get s.imports i) || false) ∙ or_false (has_at s.sets k (slice_get s.imports i))
  keeps_is (Declaration i) =
      three (Declaration i) false (has_at s.sets k (slice_get s.declarations i)) false (misses s.sets k Import (Declaration i) (λ j. refl) s.imports 0)
      (from_first s.sets k Declaration (λ i j. refl) s.declarations i) (misses s.sets k Name (Declaration i) (λ j. refl) s.names 0)
      ∙ or_false (has_at s.sets k (slice_get s.declarations i))
  keeps_is (Name i) =
      three (Name i) false false (has_at s.sets k (slice_get s.names i)) (misses s.sets k Import (Name i) (λ j. refl) s.imports 0)
      (misses s.sets k Declaration (Name i) (λ j. refl) s.declarations 0) (from_first s.sets k Name (λ i j. refl) s.names i)

  pub kept_apart : (place : Place) → is_always place ≡ false → keeps (kept_by s k) place ≡ has_at s.sets k (number_of s place)
  kept_apart place h = keeps_is place ∙ ap (λ x. x || has_at s.sets k (number_of s place)) h

  pub kept_always : (place : Place) → is_always place ≡ true → keeps (kept_by s k) place ≡ true
  kept_always place h = keeps_is place ∙ ap (λ x. x || has_at s.sets k (number_of s place)) h

module _ {X : Type 0} (f : ℕ → X) (p : X → Bool) where
  map_append : (xs ys : List ℕ) → list_any p (map f (xs ++ ys)) ≡ (list_any p (map f xs) || list_any p (map f ys))
  map_append [] ys = refl
  map_append (x ∷ xs) ys = ap (λ b. p (f x) || b) (map_append xs ys) ∙ or_assoc (p (f x)) (list_any p (map f xs)) (list_any p (map f ys))
    where
      or_assoc : (a b c : Bool) → (a || (b || c)) ≡ ((a || b) || c)
      or_assoc true b c = refl
      or_assoc false b c = refl

  last_too : (n : ℕ) → list_any p (map f (below (suc n))) ≡ (list_any p (map f (below n)) || p (f n))
  last_too n = map_append (below n) (n ∷ []) ∙ ap (λ b. list_any p (map f (below n)) || b) (or_false (p (f n)))

  pub any_to : (n : ℕ) → list_any p (map f (below n)) ≡ true → (k : ℕ) × (k < n) × (p (f k) ≡ true)
  any_to zero h = absurd (cc)
  any_to (suc n) h = elim (of_either (list_any p (map f (below n))) (p (f n)) (sym (last_too n) ∙ h)) [
    | inl early ↦ let found = any_to n early in (found.0, omega arith, found.2)
    | inr last ↦ (n, omega arith, last)
  ]
    where
      of_either : (a b : Bool) → (a || b) ≡ true → (a ≡ true) ⊎ (b ≡ true)
      of_either true b h = inl refl
      of_either false b h = inr h

  pub any_from : (n k : ℕ) → k < n → p (f k) ≡ true → list_any p (map f (below n)) ≡ true
  any_from zero k low h = absurd (omega arith)
  any_from (suc n) k low h = elim (cases_eq k n) [
    | inl last ↦ last_too n ∙ ap (λ b. list_any p (map f (below n)) || b) (ap (λ x. p (f x)) (sym last) ∙ h) ∙ or_true (list_any p (map f (below n)))
    | inr early ↦ last_too n ∙ ap (λ b. b || p (f n)) (any_from n k (omega arith) h)
  ]
    where
      or_true : (a : Bool) → (a || true) ≡ true
      or_true true = refl
      or_true false = refl

same_tests : (a b : Bool) → (a ≡ true → b ≡ true) → (b ≡ true → a ≡ true) → a ≡ b
same_tests true b f g = sym (f refl)
same_tests false true f g = g refl
same_tests false false f g = refl

both_true : (a b : Bool) → a ≡ true → b ≡ true → (a && b) ≡ true
both_true a b p q = (λ t. p t && q t)

module _ (s : PlaceSets) (a b : Place) where
  -- an answer that is true exactly where some choice keeps both
  told : (r : Bool) → (r ≡ true → (k : ℕ) × (k < 2 ^ s.flags) × (keeps (kept_by s k) a ≡ true) × (keeps (kept_by s k) b ≡ true))
      → ((k : ℕ) → k < 2 ^ s.flags → keeps (kept_by s k) a ≡ true → keeps (kept_by s k) b ≡ true → r ≡ true) → r ≡ together (kept_lists s) a b
  told r to from =
      same_tests r (together (kept_lists s) a b)
      (λ h. let found = to h in
      any_from (kept_by s) (λ kept. keeps kept a && keeps kept b) (2 ^ s.flags) found.0 found.1
      (both_true (keeps (kept_by s found.0) a) (keeps (kept_by s found.0) b) found.2 found.3))
      (λ h. let found = any_to (kept_by s) (λ kept. keeps kept a && keeps kept b) (2 ^ s.flags) h in
      let parts = of_both (keeps (kept_by s found.0) a) (keeps (kept_by s found.0) b) found.2 in
      from found.0 found.1 parts.0 parts.1)

  pub told_always : is_always a ≡ true → is_always b ≡ true → true ≡ together (kept_lists s) a b
  told_always first second = told true (λ _. (0, pow_pos s.flags, kept_always s 0 a first, kept_always s 0 b second)) (λ k low in_a in_b. refl)

  pub told_second : (r : Bool) → is_always a ≡ true → is_always b ≡ false → IsTrue r ↔ ShareChoice s (number_of s b) (number_of s b)
      → r ≡ together (kept_lists s) a b
  told_second r first second shared =
      told r (λ h. let found = shared.0 h in (found.0, found.1, kept_always s found.0 a first, kept_apart s found.0 b second ∙ found.2))
      (λ k low in_a in_b. let member = sym (kept_apart s k b second) ∙ in_b in shared.1 (k, low, member, member))

  pub told_first : (r : Bool) → is_always a ≡ false → is_always b ≡ true → IsTrue r ↔ ShareChoice s (number_of s a) (number_of s a)
      → r ≡ together (kept_lists s) a b
  told_first r first second shared =
      told r (λ h. let found = shared.0 h in (found.0, found.1, kept_apart s found.0 a first ∙ found.2, kept_always s found.0 b second))
      (λ k low in_a in_b. let member = sym (kept_apart s k a first) ∙ in_a in shared.1 (k, low, member, member))

  pub told_both : (r : Bool) → is_always a ≡ false → is_always b ≡ false → IsTrue r ↔ ShareChoice s (number_of s a) (number_of s b)
      → r ≡ together (kept_lists s) a b
  told_both r first second shared =
      told r (λ h. let found = shared.0 h in (found.0, found.1, kept_apart s found.0 a first ∙ found.2, kept_apart s found.0 b second ∙ found.3))
      (λ k low in_a in_b. shared.1 (k, low, sym (kept_apart s k a first) ∙ in_a, sym (kept_apart s k b second) ∙ in_b))

module _ (s : PlaceSets) (n m : ℕ) where
  -- two sets that are there
  pub share_of : (x y : Choices) → slice_get s.sets n ≡ Some x → slice_get s.sets m ≡ Some y → x.flags ≡ s.flags → (r : Bool)
      → IsTrue r ↔ Meet x y → IsTrue r ↔ ShareChoice s (Some n) (Some m)
  share_of x y first second over r meet = (
    λ h. let found = meet.0 h in
        (found.0, subst (λ f. found.0 < 2 ^ f) over found.1, ap (set_has found.0) first ∙ found.2, ap (set_has found.0) second ∙ found.3),
    λ h. meet.1 (h.0, subst (λ f. h.0 < 2 ^ f) (sym over) h.1, sym (ap (set_has h.0) first) ∙ h.2, sym (ap (set_has h.0) second) ∙ h.3),
  )

-- what is read at an index is in the list
pub there : {X : Type 0} (xs : List X) (i : ℕ) (x : X) → i < length xs → x ≡ get_or xs i x → (slice_get xs i ≡ Some x) × Contains xs x
there xs i x inside is = (slice_get_read xs (length xs) i x refl inside is, subst (Contains xs) (sym is) (Contains-get_or xs i x inside))

-- ---- the lists by the numbers of their choices

length_below : (n : ℕ) → length (below n) ≡ n
length_below zero = refl
length_below (suc n) = omega (arith, length-append (below n) (n ∷ []), length_below n)

get_front : (xs ys : List ℕ) (k : ℕ) → k < length xs → slice_get (xs ++ ys) k ≡ slice_get xs k
get_front [] ys k h = absurd (omega (arith, h))
get_front (x ∷ xs) ys zero h = refl
get_front (x ∷ xs) ys (suc k) h = get_front xs ys k (omega (arith, h))

get_last : (xs : List ℕ) (x : ℕ) → slice_get (xs ++ x ∷ []) (length xs) ≡ Some x
get_last [] x = refl
get_last (y ∷ xs) x = get_last xs x

get_below : (n k : ℕ) → k < n → slice_get (below n) k ≡ Some k
get_below zero k h = absurd (omega arith)
get_below (suc n) k h =
    let long : length (below n) ≡ n = length_below n in
    elim (cases_eq k n) [
      | inl last ↦ ap (slice_get (below n ++ n ∷ [])) (last ∙ sym long) ∙ (get_last (below n) n ∙ ap Some (sym last))
      | inr early ↦ let low : k < n = omega arith in get_front (below n) (n ∷ []) k (omega (arith, low, long)) ∙ get_below n k low
    ]

length_lists : (s : PlaceSets) → length (kept_lists s) ≡ 2 ^ s.flags
length_lists s = length-map (below (2 ^ s.flags)) (kept_by s) ∙ length_below (2 ^ s.flags)

pub long_of : (s : PlaceSets) (set : Option (Bor Choices)) → IfSome set (λ c. c.now.flags ≡ s.flags) → IfSome set (λ c. length (kept_lists s) ≡ 2 ^ c.now.flags)
long_of s None h = h
long_of s (Some c) h = length_lists s ∙ ap (λ n. 2 ^ n) (sym h)

-- the choices that keep a place are those of its set
pub choices_kept : (s : PlaceSets) (place : Place) → is_always place ≡ false → (set : Option Choices) → ((k : ℕ) → set_has k set ≡ has_at s.sets k (number_of s place))
    → AreChoicesOf (kept_lists s) place set
choices_kept s place apart set h k kept at =
    let low : k < 2 ^ s.flags = omega (arith, slice_get_within (kept_lists s) k kept at, length_lists s) in
    let here : slice_get (kept_lists s) k ≡ Some (kept_by s k) = slice_get-map (kept_by s) (below (2 ^ s.flags)) k ∙ ap (option_map (kept_by s)) (get_below (2 ^ s.flags) k low) in
    let same : Some kept ≡ Some (kept_by s k) = sym at ∙ here in
    let is : kept ≡ kept_by s k = cc in
    ap (λ l. keeps l place) is ∙ (kept_apart s k place apart ∙ sym (h k))

-- what is lent of sets is one of them
pub lent : (sets : List Choices) (i : ℕ) (set : Option (Bor Choices)) → IsItemAt sets i set → option_copied set ≡ slice_get sets i
lent sets i None h = sym (slice_get_past sets i h.3)
lent sets i (Some x) h = sym (slice_get_read sets (length sets) i x.now refl (h.3).0 h.1)

pub lent_over : (flags : ℕ) (sets : List Choices) (i : ℕ) → AreOver flags sets → (set : Option (Bor Choices)) → IsItemAt sets i set → IfSome set (λ c. c.now.flags ≡ flags)
lent_over flags sets i over None h = tt
lent_over flags sets i over (Some x) h = over x.now (there sets i x.now (h.3).0 h.1).1
