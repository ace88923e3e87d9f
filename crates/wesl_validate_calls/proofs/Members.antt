-- Members of lists that are made from others.
use Rattle.std.proofs.Common.{◌≡◌, ◌⊎◌, zero, suc, ◌<◌, ◌++◌, Bool, true, false, cond, List, [], ◌∷◌, map, refl, sym, subst, inl, inr, arith}
use Rattle.std.specs.Prelude.{flat_map}
use Rattle.std.specs.List.{Contains, filter}
use Rattle.std.proofs.lemmas.List.Elements.{Contains-append_cases, Contains-append_left, Contains-append_right}

module _ {A : Type 0} where
  pub contains_none : (y : A) → Contains [] y → ⊥
  contains_none y c = let l : c.0 < 0 = c.1 in omega (arith, l)

  pub contains_here : (x : A) (xs : List A) → Contains (x ∷ xs) x
  contains_here x xs = (0, omega arith, refl)

  pub contains_later : (x m : A) (xs : List A) → Contains xs m → Contains (x ∷ xs) m
  contains_later x m xs c = (suc c.0, omega (arith, c.1), c.2)

  pub contains_cases : (x m : A) (xs : List A) → Contains (x ∷ xs) m → (x ≡ m) ⊎ Contains xs m
  contains_cases x m xs (zero, l, e) = inl e
  contains_cases x m xs (suc k, l, e) = inr (k, omega (arith, l), e)

module _ {A B : Type 0} (g : A → B) where
  pub to_mapped : (xs : List A) (x : A) → Contains xs x → Contains (map g xs) (g x)
  to_mapped [] x c = absurd (contains_none x c)
  to_mapped (y ∷ xs) x c = by (contains_cases y x xs c) (to_mapped xs x)
    where
      by : (y ≡ x) ⊎ Contains xs x → (Contains xs x → Contains (map g xs) (g x)) → Contains (g y ∷ map g xs) (g x)
      by (inl e) r = subst (λ z. Contains (g y ∷ map g xs) (g z)) e (contains_here (g y) (map g xs))
      by (inr d) r = contains_later (g y) (g x) (map g xs) (r d)

  pub from_mapped : (xs : List A) (y : B) → Contains (map g xs) y → (x : A) × (Contains xs x × (g x ≡ y))
  from_mapped [] y c = absurd (contains_none y c)
  from_mapped (x ∷ xs) y c = by (contains_cases (g x) y (map g xs) c) (from_mapped xs y)
    where
      by : (g x ≡ y) ⊎ Contains (map g xs) y → (Contains (map g xs) y → (z : A) × (Contains xs z × (g z ≡ y))) → (z : A) × (Contains (x ∷ xs) z × (g z ≡ y))
      by (inl e) r = (x, (contains_here x xs, e))
      by (inr d) r = let s = r d in (s.0, (contains_later x s.0 xs s.1.0, s.1.1))

module _ {A : Type 0} (p : A → Bool) where
  pub to_filtered : (xs : List A) (x : A) → Contains xs x → p x ≡ true → Contains (filter p xs) x
  to_filtered [] x c e = absurd (contains_none x c)
  to_filtered (y ∷ xs) x c e = by (p y) refl (contains_cases y x xs c) (λ d. to_filtered xs x d e)
    where
      by : (t : Bool) → p y ≡ t → (y ≡ x) ⊎ Contains xs x → (Contains xs x → Contains (filter p xs) x) → Contains (cond t (y ∷ filter p xs) (filter p xs)) x
      by true q (inl s) r = subst (λ z. Contains (y ∷ filter p xs) z) s (contains_here y (filter p xs))
      by true q (inr d) r = contains_later y x (filter p xs) (r d)
      by false q (inl s) r = let f : p x ≡ false = subst (λ z. p z ≡ false) s q in cc
      by false q (inr d) r = r d

  pub from_filtered : (xs : List A) (x : A) → Contains (filter p xs) x → Contains xs x × (p x ≡ true)
  from_filtered [] x c = absurd (contains_none x c)
  from_filtered (y ∷ xs) x c = by (p y) refl c (from_filtered xs x)
    where
      later : Contains xs x × (p x ≡ true) → Contains (y ∷ xs) x × (p x ≡ true)
      later d = (contains_later y x xs d.0, d.1)

      first : p y ≡ true → (y ≡ x) ⊎ Contains (filter p xs) x → (Contains (filter p xs) x → Contains xs x × (p x ≡ true)) → Contains (y ∷ xs) x × (p x ≡ true)
      first q (inl s) r = (subst (λ z. Contains (y ∷ xs) z) s (contains_here y xs), subst (λ z. p z ≡ true) s q)
      first q (inr d) r = later (r d)

      by : (t : Bool) → p y ≡ t → Contains (cond t (y ∷ filter p xs) (filter p xs)) x → (Contains (filter p xs) x → Contains xs x × (p x ≡ true)) → Contains (y ∷ xs) x × (p x ≡ true)
      by true q d r = first q (contains_cases y x (filter p xs) d) r
      by false q d r = later (r d)

module _ {A B : Type 0} (f : A → List B) where
  pub from_joined : (xs : List A) (y : B) → Contains (flat_map f xs) y → (x : A) × (Contains xs x × Contains (f x) y)
  from_joined [] y c = absurd (contains_none y c)
  from_joined (x ∷ xs) y c = by (Contains-append_cases (f x) (flat_map f xs) y c) (from_joined xs y)
    where
      by : Contains (f x) y ⊎ Contains (flat_map f xs) y → (Contains (flat_map f xs) y → (z : A) × (Contains xs z × Contains (f z) y)) → (z : A) × (Contains (x ∷ xs) z × Contains (f z) y)
      by (inl d) r = (x, (contains_here x xs, d))
      by (inr d) r = let s = r d in (s.0, (contains_later x s.0 xs s.1.0, s.1.1))

  pub to_joined : (xs : List A) (x : A) (y : B) → Contains xs x → Contains (f x) y → Contains (flat_map f xs) y
  to_joined [] x y c d = absurd (contains_none x c)
  to_joined (z ∷ xs) x y c d = by (contains_cases z x xs c) (λ e. to_joined xs x y e d)
    where
      by : (z ≡ x) ⊎ Contains xs x → (Contains xs x → Contains (flat_map f xs) y) → Contains (f z ++ flat_map f xs) y
      by (inl e) r = Contains-append_left (f z) (flat_map f xs) y (subst (λ w. Contains (f w) y) (sym e) d)
      by (inr e) r = Contains-append_right (f z) (flat_map f xs) y (r e)
