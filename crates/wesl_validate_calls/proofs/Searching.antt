-- Searches through a list by an index.
use Rattle.std.proofs.Common.{◌≡◌, ◌⊎◌, inl, inr, ◌+◌, ◌<◌, ◌≤◌, ◌||◌, ℕ, zero, suc, Bool, true, false, List, [], ◌∷◌, length, drop, get_or, Some, None, refl, sym, ap, ◌∙◌, subst, arith, add-one, Option}
use Rattle.std.specs.List.{Contains, list_any}
use Rattle.std.specs.Option.{option_or}
use Rattle.std.proofs.lemmas.List.{drop_all}
use Rattle.wesl_validate_calls.specs.Judged.{first_some}
use Rattle.wesl_validate_calls.proofs.Members.{contains_none, contains_here, contains_later, contains_cases}

module _ (p : ℕ → Bool) where
  pub any_here : (xs : List ℕ) (i : ℕ) → i < length xs → p (get_or xs i 0) ≡ true → list_any p (drop i xs) ≡ true
  any_here [] i h e = absurd (omega (arith, h))
  any_here (x ∷ xs) zero h e = ap (λ t. t || list_any p xs) e
  any_here (x ∷ xs) (suc i) h e = any_here xs i (omega (arith, h)) e

  next_suc : (xs : List ℕ) (i : ℕ) → i < length xs → p (get_or xs i 0) ≡ false → list_any p (drop i xs) ≡ list_any p (drop (suc i) xs)
  next_suc [] i h e = absurd (omega (arith, h))
  next_suc (x ∷ xs) zero h e = ap (λ t. t || list_any p xs) e
  next_suc (x ∷ xs) (suc i) h e = next_suc xs i (omega (arith, h)) e

  pub any_next : (xs : List ℕ) (i : ℕ) → i < length xs → p (get_or xs i 0) ≡ false → list_any p (drop i xs) ≡ list_any p (drop (i + 1) xs)
  any_next xs i h e = rw add-one (next_suc xs i h e)

  -- a search finds what is there
  pub any_from : (xs : List ℕ) → list_any p xs ≡ true → (x : ℕ) × Contains xs x × (p x ≡ true)
  any_from [] e = absurd (let f : false ≡ true = e in cc)
  any_from (x ∷ xs) e = by (p x) refl e (any_from xs)
    where
      by : (t : Bool) → p x ≡ t → (t || list_any p xs) ≡ true → (list_any p xs ≡ true → (y : ℕ) × Contains xs y × (p y ≡ true)) → (y : ℕ) × Contains (x ∷ xs) y × (p y ≡ true)
      by true q h r = (x, contains_here x xs, q)
      by false q h r = let s = r h in (s.0, contains_later x s.0 xs s.1, s.2)

  pub any_to : (xs : List ℕ) (x : ℕ) → Contains xs x → p x ≡ true → list_any p xs ≡ true
  any_to [] x c e = absurd (contains_none x c)
  any_to (y ∷ xs) x c e = by (p y) refl (contains_cases y x xs c) (λ d. any_to xs x d e)
    where
      by : (t : Bool) → p y ≡ t → (y ≡ x) ⊎ Contains xs x → (Contains xs x → list_any p xs ≡ true) → (t || list_any p xs) ≡ true
      by true q s r = refl
      by false q (inl s) r = absurd (let f : false ≡ true = sym q ∙ (ap p s ∙ e) in cc)
      by false q (inr d) r = r d

module _ {Y : Type 0} (f : ℕ → Option Y) where
  pub some_here : (xs : List ℕ) (i : ℕ) (y : Y) → i < length xs → f (get_or xs i 0) ≡ Some y → first_some f (drop i xs) ≡ Some y
  some_here [] i y h e = absurd (omega (arith, h))
  some_here (x ∷ xs) zero y h e = ap (λ o. option_or o (first_some f xs)) e
  some_here (x ∷ xs) (suc i) y h e = some_here xs i y (omega (arith, h)) e

  none_suc : (xs : List ℕ) (i : ℕ) → i < length xs → f (get_or xs i 0) ≡ None → first_some f (drop i xs) ≡ first_some f (drop (suc i) xs)
  none_suc [] i h e = absurd (omega (arith, h))
  none_suc (x ∷ xs) zero h e = ap (λ o. option_or o (first_some f xs)) e
  none_suc (x ∷ xs) (suc i) h e = none_suc xs i (omega (arith, h)) e

  pub some_next : (xs : List ℕ) (i : ℕ) → i < length xs → f (get_or xs i 0) ≡ None → first_some f (drop i xs) ≡ first_some f (drop (i + 1) xs)
  some_next xs i h e = rw add-one (none_suc xs i h e)

  pub some_from : (xs : List ℕ) (y : Y) → first_some f xs ≡ Some y → (x : ℕ) × Contains xs x × (f x ≡ Some y)
  some_from [] y e = absurd (let g : None ≡ Some y = e in cc)
  some_from (x ∷ xs) y e = by (f x) refl e (some_from xs y)
    where
      by : (o : Option Y) → f x ≡ o → option_or o (first_some f xs) ≡ Some y → (first_some f xs ≡ Some y → (z : ℕ) × Contains xs z × (f z ≡ Some y)) → (z : ℕ) × Contains (x ∷ xs) z × (f z ≡ Some y)
      by (Some v) q h r = (x, contains_here x xs, q ∙ h)
      by None q h r = let s = r h in (s.0, contains_later x s.0 xs s.1, s.2)

  pub none_from : (xs : List ℕ) → first_some f xs ≡ None → (x : ℕ) → Contains xs x → f x ≡ None
  none_from [] e x c = absurd (contains_none x c)
  none_from (y ∷ xs) e x c = by (f y) refl e (contains_cases y x xs c) (λ h d. none_from xs h x d)
    where
      by : (o : Option Y) → f y ≡ o → option_or o (first_some f xs) ≡ None → (y ≡ x) ⊎ Contains xs x → (first_some f xs ≡ None → Contains xs x → f x ≡ None) → f x ≡ None
      by (Some v) q h s r = absurd (let g : Some v ≡ None = h in cc)
      by None q h (inl s) r = subst (λ z. f z ≡ None) s q
      by None q h (inr d) r = r h d

pub same_first : {Y : Type 0} (f g : ℕ → Option Y) → ((x : ℕ) → f x ≡ g x) → (xs : List ℕ) → first_some f xs ≡ first_some g xs
same_first f g same [] = refl
same_first f g same (x ∷ xs) = ap (λ o. option_or o (first_some f xs)) (same x) ∙ ap (option_or (g x)) (same_first f g same xs)

-- ---- a loop over a list, which it reads as another that is equal

module _ (xs ys : List ℕ) (i : ℕ) (same : xs ≡ ys) where
  inside : i < length xs → i < length ys
  inside h = subst (λ zs. i < length zs) same h

  past : length xs ≤ i → drop i ys ≡ []
  past h = drop_all i ys (subst (λ zs. length zs ≤ i) same h)

  module _ (p : ℕ → Bool) (so : list_any p (drop i ys) ≡ list_any p ys) where
    there : (b : Bool) → p (get_or xs i 0) ≡ b → p (get_or ys i 0) ≡ b
    there b e = ap (λ zs. p (get_or zs i 0)) (sym same) ∙ e

    pub any_on : i < length xs → p (get_or xs i 0) ≡ false → list_any p (drop (i + 1) ys) ≡ list_any p ys
    any_on h e = sym (any_next p ys i (inside h) (there false e)) ∙ so

    pub any_found : i < length xs → p (get_or xs i 0) ≡ true → true ≡ list_any p ys
    any_found h e = sym (any_here p ys i (inside h) (there true e)) ∙ so

    pub any_none : length xs ≤ i → false ≡ list_any p ys
    any_none h = ap (list_any p) (sym (past h)) ∙ so

  module _ {Y : Type 0} (f : ℕ → Option Y) (so : first_some f (drop i ys) ≡ first_some f ys) where
    shown : (o : Option Y) → f (get_or xs i 0) ≡ o → f (get_or ys i 0) ≡ o
    shown o e = ap (λ zs. f (get_or zs i 0)) (sym same) ∙ e

    pub some_on : i < length xs → f (get_or xs i 0) ≡ None → first_some f (drop (i + 1) ys) ≡ first_some f ys
    some_on h e = sym (some_next f ys i (inside h) (shown None e)) ∙ so

    pub some_found : (y : Y) → i < length xs → f (get_or xs i 0) ≡ Some y → Some y ≡ first_some f ys
    some_found y h e = sym (some_here f ys i y (inside h) (shown (Some y) e)) ∙ so

    pub some_none : length xs ≤ i → None ≡ first_some f ys
    some_none h = ap (first_some f) (sym (past h)) ∙ so
