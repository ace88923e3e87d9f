-- What is found by marks is what is not defined.
use Rattle.std.proofs.Common.{◌≡◌, ◌⊎◌, ℕ, ◌<◌, Bool, true, false, not, ◌&&◌, ◌||◌, ◌==◌, cond, List, [], ◌∷◌, length, map, refl, sym, ap, ◌∙◌, subst, inl, inr}
use Rattle.std.specs.Prelude.{Some, None}
use Rattle.std.specs.List.{Contains, All, find, list_any}
use Rattle.std.proofs.lemmas.List.Elements.{All-contains}
use Rattle.wesl_tree_names.specs.Path.{Text}
use Rattle.wesl_tree_syntax.specs.Unit.{UnitView, trees_of, name_in}
use Rattle.wesl_scope_occurrences.specs.Occurrences.{Block, Occurrence, occurrences, is_binder, is_unqualified}
use Rattle.wesl_scope_occurrences.specs.Walk.{Found}
use Rattle.wesl_scope_occurrences.specs.Ways.{told}
use Rattle.wesl_scope_strip.specs.Marks.{mark_at}
use Rattle.wesl_validate_builtins.specs.Builtins.{BuiltinNames}
use Rattle.wesl_validate_rules.specs.Valid.{is_bound, is_known, is_undefined}
use Rattle.wesl_validate_rules.specs.Known.{is_meant, binds, is_unknown, IsUndefinedAt}
use Rattle.wesl_scope_strip.proofs.Keeping.{contains_cases, contains_here, contains_later, contains_none}

-- a search that finds nothing, and one that finds something
module _ {A : Type 0} (p : A → Bool) where
  none_found : (xs : List A) → find p xs ≡ None → (x : A) → Contains xs x → p x ≡ false
  none_found [] e x c = absurd (contains_none x c)
  none_found (y ∷ xs) e x c = by (p y) refl e (contains_cases y x xs c) (λ d. none_found xs d x)
    where
      by : (t : Bool) → p y ≡ t → cond t (Some y) (find p xs) ≡ None → (y ≡ x) ⊎ Contains xs x → (find p xs ≡ None → Contains xs x → p x ≡ false) → p x ≡ false
      by true h e d r = cc
      by false h e (inl q) r = subst (λ z. p z ≡ false) q h
      by false h e (inr d) r = r e d

  some_found : (xs : List A) (x : A) → find p xs ≡ Some x → Contains xs x × (p x ≡ true)
  some_found [] x e = cc
  some_found (y ∷ xs) x e = by (p y) refl e (some_found xs x)
    where
      by : (t : Bool) → p y ≡ t → cond t (Some y) (find p xs) ≡ Some x → (find p xs ≡ Some x → Contains xs x × (p x ≡ true)) → Contains (y ∷ xs) x × (p x ≡ true)
      by true h e r = let q : y ≡ x = cc in (subst (Contains (y ∷ xs)) q (contains_here y xs), subst (λ z. p z ≡ true) q h)
      by false h e r = let s = r e in (contains_later y x xs s.0, s.1)

module _ {A B : Type 0} (f : A → B) where
  pub from_mapped : (xs : List A) (y : B) → Contains (map f xs) y → (x : A) × (Contains xs x × (f x ≡ y))
  from_mapped [] y c = absurd (contains_none y c)
  from_mapped (x ∷ xs) y c = by (contains_cases (f x) y (map f xs) c) (from_mapped xs y)
    where
      by : (f x ≡ y) ⊎ Contains (map f xs) y → (Contains (map f xs) y → (z : A) × (Contains xs z × (f z ≡ y))) → (z : A) × (Contains (x ∷ xs) z × (f z ≡ y))
      by (inl e) r = (x, (contains_here x xs, e))
      by (inr d) r = let s = r d in (s.0, (contains_later x s.0 xs s.1.0, s.1.1))

  pub to_mapped : (xs : List A) (x : A) → Contains xs x → Contains (map f xs) (f x)
  to_mapped [] x c = absurd (contains_none x c)
  to_mapped (z ∷ xs) x c = by (contains_cases z x xs c) (to_mapped xs x)
    where
      by : (z ≡ x) ⊎ Contains xs x → (Contains xs x → Contains (map f xs) (f x)) → Contains (f z ∷ map f xs) (f x)
      by (inl e) r = subst (λ w. Contains (f z ∷ map f xs) (f w)) e (contains_here (f z) (map f xs))
      by (inr d) r = contains_later (f z) (f x) (map f xs) (r d)

  any_mapped : (p : B → Bool) (q : A → Bool) → ((x : A) → p (f x) ≡ q x) → (xs : List A) → list_any p (map f xs) ≡ list_any q xs
  any_mapped p q e [] = refl
  any_mapped p q e (x ∷ xs) = ap (λ t. t || list_any p (map f xs)) (e x) ∙ ap (λ t. q x || t) (any_mapped p q e xs)

  pub all_mapped : (P : B → Type 0) (xs : List A) → All (λ x. P (f x)) xs → (y : B) → Contains (map f xs) y → P y
  all_mapped P xs h y c = let s = from_mapped xs y c in subst P s.1.1 (All-contains (λ x. P (f x)) xs s.0 h s.1.0)

or_comm : (a b : Bool) → (a || b) ≡ (b || a)
or_comm true true = refl
or_comm true false = refl
or_comm false true = refl
or_comm false false = refl

module _ (u : UnitView) (b : BuiltinNames) (names : List Text) (w : ℕ → Block) (os : List Found) (known : List Bool) (all_is : map (told w) os ≡ occurrences (trees_of u)) (same : names ≡ u.names)
    (within : (o : Found) → Contains os o → o.name < length names)
    (known_is : (m : ℕ) → m < length names → mark_at known m ≡ (is_meant b (name_in names m) || binds os m)) where
  bound_is : (m : ℕ) → is_bound u m ≡ binds os m
  bound_is m =
      ap (list_any (λ (o : Occurrence ℕ). is_binder o.role && o.name == m)) (sym all_is)
      ∙ any_mapped (told w) (λ (o : Occurrence ℕ). is_binder o.role && o.name == m) (λ (o : Found). is_binder o.role && o.name == m) (λ o. refl) os

  is_marked : (m : ℕ) → m < length names → is_known u b m ≡ mark_at known m
  is_marked m l =
      ap (λ t. t || is_meant b (name_in u.names m)) (bound_is m)
      ∙ (or_comm (binds os m) (is_meant b (name_in u.names m))
      ∙ (ap (λ ns. is_meant b (name_in ns m) || binds os m) (sym same) ∙ sym (known_is m l)))

  pub test_is : (o : Found) → Contains os o → is_undefined u b (told w o) ≡ is_unknown known o
  test_is o c = ap (λ t. is_unqualified o.role && (not o.excused && not t)) (is_marked o.name (within o c))

  pub none_undefined : find (is_unknown known) os ≡ None → (o : Occurrence ℕ) → Contains (occurrences (trees_of u)) o → is_undefined u b o ≡ false
  none_undefined e o c =
      let s = from_mapped (told w) os o (subst (λ xs. Contains xs o) (sym all_is) c) in
      subst (λ x. is_undefined u b x ≡ false) s.1.1 (test_is s.0 s.1.0 ∙ none_found (is_unknown known) os e s.0 s.1.0)

  pub one_undefined : (o : Found) → find (is_unknown known) os ≡ Some o → IsUndefinedAt u b o.name o.declaration
  one_undefined o e =
      let s = some_found (is_unknown known) os o e in
      record { found = told w o; there = subst (λ xs. Contains xs (told w o)) all_is (to_mapped (told w) os o s.0); undefined = test_is o s.0 ∙ s.1; named = refl; lies = refl }
