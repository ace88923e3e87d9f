-- Texts one after the other, until one stands twice.
use Rattle.std.proofs.Common.{◌≡◌, ◌≢◌, ◌⊎◌, ℕ, zero, suc, ◌<◌, ◌≤◌, ◌+◌, ◌++◌, ◌||◌, Bool, true, false, List, [], ◌∷◌, length, get_or, map, take, refl, sym, ap, ◌∙◌, subst, inl, inr, arith, add-one}
use Rattle.std.specs.Prelude.{bytes_eq}
use Rattle.std.specs.List.{list_any}
use Rattle.std.proofs.lemmas.Slice.Eq.{bytes_eq-Decides}
use Rattle.wesl_tree_names.specs.Path.{Text}
use Rattle.wesl_validate_rules.specs.Twice.{AreApart, StandsTwice}

-- a text that is among others stands at a place of them
pub among : (xs : List Text) (n : Text) → list_any (bytes_eq n) xs ≡ true → (i : ℕ) × (i < length xs) × (get_or xs i [] ≡ n)
among [] n h = cc
among (x ∷ xs) n h = by (bytes_eq n x) (bytes_eq-Decides n x) h (among xs n)
  where
    by : (t : Bool) → ((t ≡ true → n ≡ x) × (n ≡ x → t ≡ true)) → (t || list_any (bytes_eq n) xs) ≡ true → (list_any (bytes_eq n) xs ≡ true → (i : ℕ) × (i < length xs) × (get_or xs i [] ≡ n)) → (i : ℕ) × (i < length (x ∷ xs)) × (get_or (x ∷ xs) i [] ≡ n)
    by true d h r = (0, omega arith, sym (d.0 refl))
    by false d h r = let s = r h in (suc s.0, omega (arith, s.1), s.2)

-- and one that is not is at no place
pub not_among : (xs : List Text) (n : Text) → list_any (bytes_eq n) xs ≡ false → (i : ℕ) → i < length xs → get_or xs i [] ≢ n
not_among [] n h i l e = absurd (omega (arith, l))
not_among (x ∷ xs) n h i l e = by (bytes_eq n x) (bytes_eq-Decides n x) h (not_among xs n) i l e
  where
    by : (t : Bool) → ((t ≡ true → n ≡ x) × (n ≡ x → t ≡ true)) → (t || list_any (bytes_eq n) xs) ≡ false → (list_any (bytes_eq n) xs ≡ false → (i : ℕ) → i < length xs → get_or xs i [] ≢ n) → (k : ℕ) → k < length (x ∷ xs) → get_or (x ∷ xs) k [] ≡ n → ⊥
    by true d h r k m f = cc
    by false d h r zero m f = let q : false ≡ true = d.1 (sym f) in cc
    by false d h r (suc k) m f = r h k (omega (arith, m)) f

get_push_here : (xs : List Text) (n : Text) → get_or (xs ++ n ∷ []) (length xs) [] ≡ n
get_push_here [] n = refl
get_push_here (x ∷ xs) n = get_push_here xs n

get_push_before : (xs : List Text) (n : Text) (i : ℕ) → i < length xs → get_or (xs ++ n ∷ []) i [] ≡ get_or xs i []
get_push_before [] n i l = absurd (omega (arith, l))
get_push_before (x ∷ xs) n zero l = refl
get_push_before (x ∷ xs) n (suc i) l = get_push_before xs n i (omega (arith, l))

length_push : (xs : List Text) (n : Text) → length (xs ++ n ∷ []) ≡ suc (length xs)
length_push [] n = refl
length_push (x ∷ xs) n = ap suc (length_push xs n)

equal_or_less : (x y : ℕ) → x < suc y → (x ≡ y) ⊎ (x < y)
equal_or_less zero zero q = inl refl
equal_or_less zero (suc y) q = inr (omega arith)
equal_or_less (suc x) zero q = absurd (omega (arith, q))
equal_or_less (suc x) (suc y) q = step (equal_or_less x y (omega (arith, q)))
  where
    step : (x ≡ y) ⊎ (x < y) → (suc x ≡ suc y) ⊎ (suc x < suc y)
    step (inl e) = inl (ap suc e)
    step (inr f) = inr (omega (arith, f))

pub apart_push : (xs : List Text) (n : Text) → AreApart xs → list_any (bytes_eq n) xs ≡ false → AreApart (xs ++ n ∷ [])
apart_push xs n apart h i j before inside same = by (equal_or_less j (length xs) (subst (λ m. j < m) (length_push xs n) inside))
  where
    by : (j ≡ length xs) ⊎ (j < length xs) → ⊥
    by (inl e) =
        let l : i < length xs = omega (arith, before, e) in
        not_among xs n h i l (sym (get_push_before xs n i l) ∙ (same ∙ (ap (λ k. get_or (xs ++ n ∷ []) k []) e ∙ get_push_here xs n)))
    by (inr l) =
        let k : i < length xs = omega (arith, before, l) in
        apart i j before l (sym (get_push_before xs n i k) ∙ (same ∙ get_push_before xs n j l))

module _ {A B : Type 0} (f : A → B) where
  length_mapped : (xs : List A) → length (map f xs) ≡ length xs
  length_mapped [] = refl
  length_mapped (x ∷ xs) = ap suc (length_mapped xs)

  get_mapped : (xs : List A) (i : ℕ) (x c : A) (d : B) → i < length xs → x ≡ get_or xs i c → get_or (map f xs) i d ≡ f x
  get_mapped [] i x c d l e = absurd (omega (arith, l))
  get_mapped (y ∷ xs) zero x c d l e = ap f (sym e)
  get_mapped (y ∷ xs) (suc i) x c d l e = get_mapped xs i x c d (omega (arith, l)) e

  mapped_next : (xs : List A) (i : ℕ) (x c : A) → i < length xs → x ≡ get_or xs i c → map f (take (suc i) xs) ≡ map f (take i xs) ++ f x ∷ []
  mapped_next [] i x c l e = absurd (omega (arith, l))
  mapped_next (y ∷ xs) zero x c l e = ap (λ z. f z ∷ []) (sym e)
  mapped_next (y ∷ xs) (suc i) x c l e = ap (λ ns. f y ∷ ns) (mapped_next xs i x c (omega (arith, l)) e)

  get_taken : (xs : List A) (i k : ℕ) (d : B) → i ≤ length xs → k < length (map f (take i xs)) → (get_or (map f (take i xs)) k d ≡ get_or (map f xs) k d) × (k < i)
  get_taken [] zero k d l h = absurd (omega (arith, h))
  get_taken [] (suc i) k d l h = absurd (omega (arith, l))
  get_taken (y ∷ xs) zero k d l h = absurd (omega (arith, h))
  get_taken (y ∷ xs) (suc i) zero d l h = (refl, omega arith)
  get_taken (y ∷ xs) (suc i) (suc k) d l h = let s = get_taken xs i k d (omega (arith, l)) (omega (arith, h)) in (s.0, omega (arith, s.1))

-- a turn: the texts seen are those before a place
module _ {K : Type 0} (text : K → Text) (name : ℕ → Text) (numbers : List ℕ) (i x : ℕ) (inside : i < length numbers) (is : x ≡ get_or numbers i 0) (seen : List K) (seen_is : map text seen ≡ map name (take i numbers)) (key : K) (key_is : text key ≡ name x) (same : K → K → Bool) (same_is : (a b : K) → same a b ≡ bytes_eq (text a) (text b)) where
  any_text : (ks : List K) → list_any (same key) ks ≡ list_any (bytes_eq (name x)) (map text ks)
  any_text [] = refl
  any_text (k ∷ ks) = ap (λ t. t || list_any (same key) ks) (same_is key k ∙ ap (λ n. bytes_eq n (text k)) key_is) ∙ ap (λ t. bytes_eq (name x) (text k) || t) (any_text ks)

  any_seen : list_any (same key) seen ≡ list_any (bytes_eq (name x)) (map name (take i numbers))
  any_seen = any_text seen ∙ ap (list_any (bytes_eq (name x))) seen_is

  pub turn_twice : list_any (same key) seen ≡ true → StandsTwice (map name numbers) (name x)
  turn_twice h =
      let a = among (map name (take i numbers)) (name x) (sym any_seen ∙ h) in
      let t = get_taken name numbers i a.0 [] (omega (arith, inside)) a.1 in
      record { first = a.0; second = i; before = t.1; inside = subst (λ n. i < n) (sym (length_mapped name numbers)) inside; named = sym t.0 ∙ a.2; again = get_mapped name numbers i x 0 [] inside is }

  pub turn_apart : AreApart (map name (take i numbers)) → list_any (same key) seen ≡ false → AreApart (map name (take (i + 1) numbers))
  turn_apart apart h = rw add-one (subst AreApart (sym (mapped_next name numbers i x 0 inside is)) (apart_push (map name (take i numbers)) (name x) apart (sym any_seen ∙ h)))

  pub turn_seen : (now : List K) → now ≡ seen ++ key ∷ [] → map text now ≡ map name (take (i + 1) numbers)
  turn_seen now e = rw add-one (ap (map text) e ∙ (pushed seen ∙ (ap (λ ns. ns ++ text key ∷ []) seen_is ∙ (ap (λ n. map name (take i numbers) ++ n ∷ []) key_is ∙ sym (mapped_next name numbers i x 0 inside is)))))
    where
      pushed : (ks : List K) → map text (ks ++ key ∷ []) ≡ map text ks ++ text key ∷ []
      pushed [] = refl
      pushed (k ∷ ks) = ap (λ ns. text k ∷ ns) (pushed ks)
