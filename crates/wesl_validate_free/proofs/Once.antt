-- Texts, each once: what is among them, and how they are gathered.
use Rattle.std.proofs.Common.{◌≡◌, ◌≢◌, ◌⊎◌, ◌++◌, ◌&&◌, ◌||◌, Bool, true, false, not, cond, List, [], ◌∷◌, refl, sym, ap, ◌∙◌, subst, inl, inr, arith, append_assoc}
use Rattle.std.specs.Prelude.{bytes_eq, if◌then◌else◌}
use Rattle.std.specs.List.{AllPairs, Contains, filter, list_any}
use Rattle.std.proofs.lemmas.List.{append-nil}
use Rattle.std.proofs.lemmas.List.Elements.{filter_passes}
use Rattle.std.proofs.lemmas.List.Folds.{list_any-append}
use Rattle.std.proofs.lemmas.List.Kept.{AllPairs-cons, AllPairs-filter}
use Rattle.std.proofs.lemmas.Slice.Eq.{bytes_eq-Decides}
use Rattle.wesl_tree_names.specs.Path.{Text}
use Rattle.wesl_tree_interner.specs.Interned.{with_text}
use Rattle.wesl_validate_free.specs.Free.{each_once}
use mathlib.Core.Bool.{or-false}
use Rattle.wesl_scope_strip.proofs.Keeping.{contains_cases, contains_here, contains_later, contains_none}

-- ---- those that pass
module _ {A : Type 0} (p : A → Bool) where
  pub none_passes : (xs : List A) → filter p xs ≡ [] → (x : A) → Contains xs x → p x ≡ false
  none_passes [] e x c = absurd (contains_none x c)
  none_passes (y ∷ xs) e x c = by (p y) refl e (contains_cases y x xs c) (λ f d. none_passes xs f x d)
    where
      by : (t : Bool) → p y ≡ t → cond t (y ∷ filter p xs) (filter p xs) ≡ [] → (y ≡ x) ⊎ Contains xs x → (filter p xs ≡ [] → Contains xs x → p x ≡ false) → p x ≡ false
      by true h f d r = cc
      by false h f (inl q) r = subst (λ z. p z ≡ false) q h
      by false h f (inr d) r = r f d

  pub passes_none : (xs : List A) → ((x : A) → Contains xs x → p x ≡ false) → filter p xs ≡ []
  passes_none [] h = refl
  passes_none (y ∷ xs) h = ap (λ t. cond t (y ∷ filter p xs) (filter p xs)) (h y (contains_here y xs)) ∙ passes_none xs (λ x c. h x (contains_later y x xs c))

  pub of_passing : (xs : List A) (x : A) → Contains (filter p xs) x → Contains xs x × (p x ≡ true)
  of_passing [] x c = absurd (contains_none x c)
  of_passing (y ∷ xs) x c = by (p y) refl c (of_passing xs x)
    where
      later : Contains xs x × (p x ≡ true) → Contains (y ∷ xs) x × (p x ≡ true)
      later s = (contains_later y x xs s.0, s.1)

      here : p y ≡ true → (y ≡ x) ⊎ Contains (filter p xs) x → (Contains (filter p xs) x → Contains xs x × (p x ≡ true)) → Contains (y ∷ xs) x × (p x ≡ true)
      here h (inl q) r = (subst (Contains (y ∷ xs)) q (contains_here y xs), subst (λ z. p z ≡ true) q h)
      here h (inr d) r = later (r d)

      by : (t : Bool) → p y ≡ t → Contains (cond t (y ∷ filter p xs) (filter p xs)) x → (Contains (filter p xs) x → Contains xs x × (p x ≡ true)) → Contains (y ∷ xs) x × (p x ≡ true)
      by true h d r = here h (contains_cases y x (filter p xs) d) r
      by false h d r = later (r d)

  pub to_passing : (xs : List A) (x : A) → Contains xs x → p x ≡ true → Contains (filter p xs) x
  to_passing [] x c e = absurd (contains_none x c)
  to_passing (y ∷ xs) x c e = by (p y) refl (contains_cases y x xs c) (λ d. to_passing xs x d e)
    where
      by : (t : Bool) → p y ≡ t → (y ≡ x) ⊎ Contains xs x → (Contains xs x → Contains (filter p xs) x) → Contains (cond t (y ∷ filter p xs) (filter p xs)) x
      by true h (inl q) r = subst (Contains (y ∷ filter p xs)) q (contains_here y (filter p xs))
      by true h (inr d) r = contains_later y x (filter p xs) (r d)
      by false h (inl q) r = let f : p y ≡ true = subst (λ z. p z ≡ true) (sym q) e in cc
      by false h (inr d) r = r d

-- ---- each once

other_text : (n m : Text) → not (bytes_eq m n) ≡ true → n ≢ m
other_text n m h e = let f : bytes_eq m n ≡ true = (bytes_eq-Decides m n).1 (sym e) in absurd (let z : ⊥ = cc in z)

pub once_apart : (ns : List Text) → AllPairs (λ m n. m ≢ n) (each_once ns)
once_apart [] = λ i j d b l. absurd (omega (arith, l))
once_apart (n ∷ ns) =
    AllPairs-cons (λ a b. a ≢ b) n (filter (λ m. not (bytes_eq m n)) (each_once ns))
    (λ i d l. other_text n _ (filter_passes (λ m. not (bytes_eq m n)) (each_once ns) i d l))
    (AllPairs-filter (λ a b. a ≢ b) (λ m. not (bytes_eq m n)) (each_once ns) (once_apart ns))

pub of_once : (ns : List Text) (n : Text) → Contains (each_once ns) n → Contains ns n
of_once [] n c = c
of_once (m ∷ ns) n c = by (contains_cases m n (filter (λ k. not (bytes_eq k m)) (each_once ns)) c) (of_once ns n)
  where
    by : (m ≡ n) ⊎ Contains (filter (λ k. not (bytes_eq k m)) (each_once ns)) n → (Contains (each_once ns) n → Contains ns n) → Contains (m ∷ ns) n
    by (inl e) r = subst (Contains (m ∷ ns)) e (contains_here m ns)
    by (inr d) r = contains_later m n ns (r (of_passing (λ k. not (bytes_eq k m)) (each_once ns) n d).0)

pub to_once : (ns : List Text) (n : Text) → Contains ns n → Contains (each_once ns) n
to_once [] n c = c
to_once (m ∷ ns) n c = by (bytes_eq n m) refl (bytes_eq-Decides n m) (contains_cases m n ns c) (to_once ns n)
  where
    by : (t : Bool) → bytes_eq n m ≡ t → ((t ≡ true → n ≡ m) × (n ≡ m → t ≡ true)) → (m ≡ n) ⊎ Contains ns n → (Contains ns n → Contains (each_once ns) n) → Contains (m ∷ filter (λ k. not (bytes_eq k m)) (each_once ns)) n
    by true f d s r = subst (Contains (m ∷ filter (λ k. not (bytes_eq k m)) (each_once ns))) (sym (d.0 refl)) (contains_here m (filter (λ k. not (bytes_eq k m)) (each_once ns)))
    by false f d (inl e) r = let q : false ≡ true = d.1 (sym e) in cc
    by false f d (inr s) r = contains_later m n (filter (λ k. not (bytes_eq k m)) (each_once ns)) (to_passing (λ k. not (bytes_eq k m)) (each_once ns) n (r s) (ap not f))

pub none_once : (ns : List Text) → each_once ns ≡ [] → ns ≡ []
none_once [] e = refl
none_once (n ∷ ns) e = cc

-- ---- gathered one after the other
-- texts, and those after them that are not among them
abbrev pub more : List Text → List Text → List Text
more seen ns = seen ++ filter (λ m. not (list_any (bytes_eq m) seen)) (each_once ns)

passes_all : (xs : List Text) → filter (λ m. true) xs ≡ xs
passes_all [] = refl
passes_all (x ∷ xs) = ap (λ ys. x ∷ ys) (passes_all xs)

pub none_before : (ns : List Text) → more [] ns ≡ each_once ns
none_before ns = passes_all (each_once ns)

pub none_after : (seen : List Text) → more seen [] ≡ seen
none_after seen = append-nil seen

-- one test after the other
passes_both : {A : Type 0} (p q r : A → Bool) → ((x : A) → (p x && q x) ≡ r x) → (xs : List A) → filter q (filter p xs) ≡ filter r xs
passes_both p q r h [] = refl
passes_both p q r h (x ∷ xs) = by (p x) (r x) (h x) (passes_both p q r h xs)
  where
    inner : (t w : Bool) → t ≡ w → filter q (filter p xs) ≡ filter r xs → cond t (x ∷ filter q (filter p xs)) (filter q (filter p xs)) ≡ cond w (x ∷ filter r xs) (filter r xs)
    inner true w e rest = ap (λ ys. x ∷ ys) rest ∙ ap (λ b. cond b (x ∷ filter r xs) (filter r xs)) e
    inner false w e rest = rest ∙ ap (λ b. cond b (x ∷ filter r xs) (filter r xs)) e

    by : (s w : Bool) → (s && q x) ≡ w → filter q (filter p xs) ≡ filter r xs → filter q (cond s (x ∷ filter p xs) (filter p xs)) ≡ cond w (x ∷ filter r xs) (filter r xs)
    by true w e rest = inner (q x) w e rest
    by false w e rest = rest ∙ ap (λ b. cond b (x ∷ filter r xs) (filter r xs)) e

pub and_right : (a b : Bool) → (b ≡ true → a ≡ true) → (a && b) ≡ b
and_right true b h = refl
and_right false true h = let z : false ≡ true = h refl in cc
and_right false false h = refl

pub not_both : (a b : Bool) → (not a && not b) ≡ not (b || a)
not_both true true = refl
not_both true false = refl
not_both false true = refl
not_both false false = refl

-- a text goes last, unless it is there
pub next_text : (seen : List Text) (n : Text) (ns : List Text) → more seen (n ∷ ns) ≡ more (with_text seen n) ns
next_text seen n ns = by (list_any (bytes_eq n) seen) refl
  where
    new : Text → Bool
    new m = not (list_any (bytes_eq m) seen)

    again : list_any (bytes_eq n) seen ≡ true → (m : Text) → new m ≡ true → not (bytes_eq m n) ≡ true
    again h m e = at (bytes_eq m n) refl (bytes_eq-Decides m n)
      where
        at : (t : Bool) → bytes_eq m n ≡ t → ((t ≡ true → m ≡ n) × (m ≡ n → t ≡ true)) → not t ≡ true
        at false f d = refl
        at true f d = let g : list_any (bytes_eq m) seen ≡ true = subst (λ k. list_any (bytes_eq k) seen ≡ true) (sym (d.0 refl)) h in sym (ap not g) ∙ e

    by : (t : Bool) → list_any (bytes_eq n) seen ≡ t → seen ++ cond (not t) (n ∷ filter new (filter (λ m. not (bytes_eq m n)) (each_once ns))) (filter new (filter (λ m. not (bytes_eq m n)) (each_once ns))) ≡ more (if t then seen else seen ++ n ∷ []) ns
    by true h = ap (λ ms. seen ++ ms) (passes_both (λ m. not (bytes_eq m n)) new new (λ m. and_right (not (bytes_eq m n)) (new m) (again h m)) (each_once ns))
    by false h =
        ap (λ ms. seen ++ n ∷ ms)
        (passes_both (λ m. not (bytes_eq m n)) new (λ m. not (list_any (bytes_eq m) (seen ++ n ∷ [])))
        (λ m. not_both (bytes_eq m n) (list_any (bytes_eq m) seen) ∙ ap not (sym (list_any-append (bytes_eq m) seen (n ∷ []) ∙ ap (λ t. list_any (bytes_eq m) seen || t) (or-false (bytes_eq m n))))) (each_once ns))
        ∙ sym (append_assoc seen (n ∷ []) (filter (λ m. not (list_any (bytes_eq m) (seen ++ n ∷ []))) (each_once ns)))
