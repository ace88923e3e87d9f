-- Sets of choices that are kept once each, as one more is added; what places keep by their places among them.
use Rattle.std.proofs.Common.{◌≡◌, ◌⊎◌, ℕ, zero, suc, ◌+◌, ◌^◌, ◌<◌, ◌≤◌, if◌then◌else◌, List, [], ◌∷◌, ◌++◌, length, length-append, map, get_or, slice_get, Contains, Some, None, inl, inr, refl, sym, ap, ◌∙◌, subst, arith}
use Rattle.std.proofs.lemmas.Bool.{cases_lt}
use Rattle.std.proofs.lemmas.List.{get_or_append_left, get_or_push}
use Rattle.std.proofs.lemmas.List.Elements.{Contains-append_cases, Contains-append_left, Contains-append_right}
use Rattle.wesl_cond_choices.specs.Alive.{AreOver, kept_by, kept_from, kept_lists, place_sets, set_has}
use Rattle.wesl_cond_choices.specs.Choices.{Choices, below}
use Rattle.wesl_cond_choices.specs.declared.place.Place.{Place}
use Rattle.wesl_cond_choices.specs.declared.place.Place.TheVariants.{Import, Declaration, Name}
use Rattle.wesl_cond_sets.specs.SetNumbers.{AreKept, place_of}

-- ---- lists

pub get_before : {X : Type 0} (xs : List X) (y : X) (n : ℕ) → n < length xs → slice_get (xs ++ y ∷ []) n ≡ slice_get xs n
get_before [] y n h = absurd (omega arith)
get_before (x ∷ xs) y zero h = refl
get_before (x ∷ xs) y (suc n) h = get_before xs y n (omega arith)

pub get_last : {X : Type 0} (xs : List X) (y : X) → slice_get (xs ++ y ∷ []) (length xs) ≡ Some y
get_last [] y = refl
get_last (x ∷ xs) y = get_last xs y

module _ {X : Type 0} where
  get_past : (xs : List X) (n : ℕ) → length xs ≤ n → slice_get xs n ≡ None
  get_past [] n h = refl
  get_past (x ∷ xs) zero h = absurd (omega (arith, h))
  get_past (x ∷ xs) (suc n) h = get_past xs n (omega (arith, h))

  pub get_inside : (xs : List X) (n : ℕ) → n < length xs → (x : X) × (slice_get xs n ≡ Some x)
  get_inside [] n h = absurd (omega (arith, h))
  get_inside (x ∷ xs) zero h = (x, refl)
  get_inside (x ∷ xs) (suc n) h = get_inside xs n (omega (arith, h))

  get_stays : (xs : List X) (y : X) (n : ℕ) (x : X) → slice_get xs n ≡ Some x → slice_get (xs ++ y ∷ []) n ≡ Some x
  get_stays xs y n x e = elim (cases_lt n (length xs)) [
    | inl h ↦ get_before xs y n h ∙ e
    | inr h ↦ absurd (let none : slice_get xs n ≡ None = get_past xs n h in let z : ⊥ = cc in z)
  ]

  default_free : (xs : List X) (n : ℕ) (c d : X) → n < length xs → get_or xs n c ≡ get_or xs n d
  default_free [] n c d h = absurd (omega (arith, h))
  default_free (x ∷ xs) zero c d h = refl
  default_free (x ∷ xs) (suc n) c d h = default_free xs n c d (omega (arith, h))

  default_past : (xs : List X) (n : ℕ) (d : X) → length xs ≤ n → get_or xs n d ≡ d
  default_past [] n d h = refl
  default_past (x ∷ xs) zero d h = absurd (omega (arith, h))
  default_past (x ∷ xs) (suc n) d h = default_past xs n d (omega (arith, h))

get_there : {X : Type 0} (xs : List X) (n : ℕ) (x : X) → slice_get xs n ≡ Some x → Contains xs x
get_there [] n x e = absurd (let z : ⊥ = cc in z)
get_there (y ∷ xs) zero x e = let f : y ≡ x = cc in (0, omega arith, f)
get_there (y ∷ xs) (suc n) x e = let (i, l, f) = get_there xs n x e in (suc i, omega (arith, l), f)

pub over_at : (flags : ℕ) (sets : List Choices) (n : ℕ) (c : Choices) → AreOver flags sets → slice_get sets n ≡ Some c → c.flags ≡ flags
over_at flags sets n c o e = o c (get_there sets n c e)

-- ---- one set more

module _ (kept new : List Choices) (places : List ℕ) (sets : List Choices) (place : ℕ) (set : Choices) where
  grown : (new ≡ kept) ⊎ (new ≡ kept ++ set ∷ []) → (n : ℕ) (x : Choices) → slice_get kept n ≡ Some x → slice_get new n ≡ Some x
  grown (inl e) n x h = ap (λ xs. slice_get xs n) e ∙ h
  grown (inr e) n x h = ap (λ xs. slice_get xs n) e ∙ get_stays kept set n x h

  none_beside : (new ≡ kept) ⊎ (new ≡ kept ++ set ∷ []) → ((c : Choices) → Contains kept c → Contains sets c) → (c : Choices) → Contains new c → Contains (sets ++ set ∷ []) c
  none_beside (inl e) only c h = Contains-append_left sets (set ∷ []) c (only c (subst (λ xs. Contains xs c) e h))
  none_beside (inr e) only c h = elim (Contains-append_cases kept (set ∷ []) c (subst (λ xs. Contains xs c) e h)) [
    | inl old ↦ Contains-append_left sets (set ∷ []) c (only c old)
    | inr own ↦ Contains-append_right sets (set ∷ []) c own
  ]

  pub kept_more : AreKept kept places sets → slice_get new place ≡ Some set → (new ≡ kept) ⊎ (new ≡ kept ++ set ∷ []) → AreKept new (places ++ place ∷ []) (sets ++ set ∷ [])
  kept_more a there grows = record {
    count = length-append places (place ∷ []) ∙ (ap (λ m. m + 1) a.count ∙ sym (length-append sets (set ∷ [])));
    only = none_beside grows a.only;
    at = λ n. elim (cases_lt n (length places)) [
      | inl low ↦
          let inside : n < length sets = omega (arith, low, a.count) in
          let (x, is) = get_inside sets n inside in
          let same : get_or (places ++ place ∷ []) n (length new) ≡ get_or places n (length kept) =
          get_or_append_left places (place ∷ []) (length new) n low ∙ default_free places n (length new) (length kept) low in
          ap (slice_get new) same ∙ (grown grows (place_of kept places n) x (a.at n ∙ is) ∙ sym (get_stays sets set n x is))
      | inr high ↦ elim (cases_lt n (length places + 1)) [
        | inl last ↦
            let own : length places ≡ n = omega (arith, high, last) in
            let end : n ≡ length sets = omega (arith, own, a.count) in
            ap (slice_get new) (get_or_push places place (length new) n own) ∙ (there ∙ (sym (get_last sets set) ∙ ap (slice_get (sets ++ set ∷ [])) (sym end)))
        | inr past ↦
            let long : length (places ++ place ∷ []) ≤ n = omega (arith, past, length-append places (place ∷ [])) in
            let end : length (sets ++ set ∷ []) ≤ n = omega (arith, past, length-append sets (set ∷ []), a.count) in
            let high_enough : length new ≤ length new = omega arith in
            ap (slice_get new) (default_past (places ++ place ∷ []) n (length new) long) ∙ (get_past new (length new) high_enough ∙ sym (get_past (sets ++ set ∷ []) n end))
      ]
    ];
  }

pub kept_none : AreKept [] [] []
kept_none = record { count = refl; at = λ n. refl; only = λ c h. h }

-- ---- what places keep

each : {X Y : Type 0} {f g : X → Y} → ((x : X) → f x ≡ g x) → (xs : List X) → map f xs ≡ map g xs
each e [] = refl
each e (x ∷ xs) = λ t. e x t ∷ each e xs t

module _ (kept : List Choices) (places : List ℕ) (sets : List Choices) (a : AreKept kept places sets) where
  pub over_kept : (flags : ℕ) → AreOver flags sets → AreOver flags kept
  over_kept flags o c h = o c (a.only c h)

  from_kept : {H : Type 0} (set : H → ℕ) (hs : List H) (k : ℕ) (place : ℕ → Place) (j : ℕ)
      → kept_from kept k place j (map (λ h. place_of kept places (set h)) hs) ≡ kept_from sets k place j (map set hs)
  from_kept set [] k place j = refl
  from_kept set (h ∷ hs) k place j =
      λ t. if set_has k (a.at (set h) t) then place j ∷ from_kept set hs k place (suc j) t else from_kept set hs k place (suc j) t

  module _ {H K L : Type 0} (f : H → ℕ) (g : K → ℕ) (e : L → ℕ) (hs : List H) (ks : List K) (ls : List L) where
    by_same : (n k : ℕ) → kept_by (place_sets n kept (map (λ h. place_of kept places (f h)) hs) (map (λ h. place_of kept places (g h)) ks) (map (λ h. place_of kept places (e h)) ls)) k
        ≡ kept_by (place_sets n sets (map f hs) (map g ks) (map e ls)) k
    by_same n k = λ t. from_kept f hs k (λ j. Import j) 0 t ++ from_kept g ks k (λ j. Declaration j) 0 t ++ from_kept e ls k (λ j. Name j) 0 t

    pub lists_kept : (n : ℕ) → kept_lists (place_sets n kept (map (λ h. place_of kept places (f h)) hs) (map (λ h. place_of kept places (g h)) ks) (map (λ h. place_of kept places (e h)) ls))
        ≡ kept_lists (place_sets n sets (map f hs) (map g ks) (map e ls))
    lists_kept n = each (by_same n) (below (2 ^ n))
