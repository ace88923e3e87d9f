-- The binders that a name picks, and the one that it means.
use Rattle.std.proofs.Common.{◌≡◌, ℕ, Bool, true, false, cond, List, [], ◌∷◌, map, refl, sym, ap, ap₂, ◌∙◌}
use Rattle.std.specs.Prelude.{◌&&◌, bytes_eq, slice_get, Option, Some, None, if◌then◌else◌}
use Rattle.std.proofs.lemmas.Slice.Eq.{bytes_eq-Decides}
use Rattle.std.specs.List.{find, filter, list_all}
use Rattle.std.specs.Option.{option_or, option_map}
use Rattle.wesl_tree_names.specs.Path.{Text}
use Rattle.wesl_scope_occurrences.specs.Occurrences.{Block, Occurrence}
use Rattle.wesl_scope_meanings.specs.Scopes.{is_visible, binds, binder_of}
use Rattle.wesl_scope_meanings.specs.Keys.{named}
use Rattle.wesl_scope_numbers.specs.Faithful.{binders_in, binders_of, first_filled}

-- ---- the first of what passes a test
find_first : {X Y : Type 0} (f : X → Y) (p : Y → Bool) (xs : List X) → find p (map f xs) ≡ option_map f (slice_get (filter (λ x. p (f x)) xs) 0)
find_first f p [] = refl
find_first f p (x ∷ xs) = by (p (f x)) (find_first f p xs)
  where
    by : (t : Bool) → find p (map f xs) ≡ option_map f (slice_get (filter (λ y. p (f y)) xs) 0)
        → cond t (Some (f x)) (find p (map f xs)) ≡ option_map f (slice_get (cond t (x ∷ filter (λ y. p (f y)) xs) (filter (λ y. p (f y)) xs)) 0)
    by true e = refl
    by false e = e

first_of : {X Y : Type 0} (f : X → Y) (xs ys : List X) → option_or (option_map f (slice_get xs 0)) (option_map f (slice_get ys 0)) ≡ option_map f (slice_get (first_filled xs ys) 0)
first_of f [] ys = refl
first_of f (x ∷ xs) ys = refl

pub means_the_first : (names : List Text) (all : List (Occurrence ℕ)) (n : Text) (p : ℕ) (b : Block) → binder_of (map (named names) all) n p b ≡ option_map (named names) (slice_get (binders_of names all n p b) 0)
means_the_first names all n p [] = find_first (named names) (binds [] n p) all
means_the_first names all n p (k ∷ b) =
    ap₂ option_or (find_first (named names) (binds (k ∷ b) n p) all) (means_the_first names all n p b)
    ∙ first_of (named names) (binders_in names all n p (k ∷ b)) (binders_of names all n p b)

-- what holds of all that pass
pub all_filtered : {X : Type 0} (p q : X → Bool) (xs : List X) → list_all q (filter p xs) ≡ list_all (λ x. if p x then q x else true) xs
all_filtered p q [] = refl
all_filtered p q (x ∷ xs) = by (p x) (all_filtered p q xs)
  where
    by : (t : Bool) → list_all q (filter p xs) ≡ list_all (λ y. if p y then q y else true) xs → list_all q (cond t (x ∷ filter p xs) (filter p xs)) ≡ ((if t then q x else true) && list_all (λ y. if p y then q y else true) xs)
    by true e = ap (λ r. q x && r) e
    by false e = e

-- ---- what is picked, where a binder is meant and where none is
-- what of a list passes a test: nothing, or some, of which the first is found
data Passed {X Y : Type 0} (p : Y → Bool) (found : Option Y) (xs : List X) : Type 0 where
  nothing : found ≡ None → xs ≡ [] → Passed p found xs
  something : (y : Y) (x : X) (more : List X) → found ≡ Some y → p y ≡ true → xs ≡ x ∷ more → Passed p found xs

passed : {X Y : Type 0} (f : X → Y) (p : Y → Bool) (xs : List X) → Passed p (find p (map f xs)) (filter (λ x. p (f x)) xs)
passed f p [] = nothing refl refl
passed f p (x ∷ xs) = by (p (f x)) refl (passed f p xs)
  where
    by : (t : Bool) → p (f x) ≡ t → Passed p (find p (map f xs)) (filter (λ y. p (f y)) xs)
        → Passed p (cond t (Some (f x)) (find p (map f xs))) (cond t (x ∷ filter (λ y. p (f y)) xs) (filter (λ y. p (f y)) xs))
    by true e h = something (f x) x (filter (λ y. p (f y)) xs) refl e refl
    by false e h = h

binds_block : (b : Block) (n : Text) (p : ℕ) (o : Occurrence Text) → binds b n p o ≡ true → o.block ≡ b
binds_block b n p o h = (bytes_eq-Decides o.block b).0 (last (is_visible p o.role) (bytes_eq o.name n) (bytes_eq o.block b) h)
  where
    last : (x y z : Bool) → (x && (y && z)) ≡ true → z ≡ true
    last true true z h = h
    last true false z h = cc
    last false y z h = cc

module _ (names : List Text) (all : List (Occurrence ℕ)) (n : Text) (p : ℕ) where
  -- none, or those in the block of the one that is meant
  pub data Picked (b : Block) : Type 0 where
    none : binder_of (map (named names) all) n p b ≡ None → binders_of names all n p b ≡ [] → Picked b
    some : (y : Occurrence Text) (x : Occurrence ℕ) (more : List (Occurrence ℕ)) → binder_of (map (named names) all) n p b ≡ Some y → binders_of names all n p b ≡ binders_in names all n p y.block → binders_of names all n p b ≡ x ∷ more → Picked b

  pub picked : (b : Block) → Picked b
  picked [] = at (passed (named names) (binds [] n p) all)
    where
      at : Passed (binds [] n p) (binder_of (map (named names) all) n p []) (binders_of names all n p []) → Picked []
      at (nothing e f) = none e f
      at (something y x more e h f) = some y x more e (ap (binders_in names all n p) (sym (binds_block [] n p y h))) f
  picked (k ∷ b) = at (passed (named names) (binds (k ∷ b) n p) all) (picked b)
    where
      at : Passed (binds (k ∷ b) n p) (find (binds (k ∷ b) n p) (map (named names) all)) (binders_in names all n p (k ∷ b)) → Picked b → Picked (k ∷ b)
      at (nothing e f) (none g h) =
          none (ap (λ o. option_or o (binder_of (map (named names) all) n p b)) e ∙ g) (ap (λ xs. first_filled xs (binders_of names all n p b)) f ∙ h)
      at (nothing e f) (some y x more g h i) =
          let rest = ap (λ xs. first_filled xs (binders_of names all n p b)) f in
          some y x more (ap (λ o. option_or o (binder_of (map (named names) all) n p b)) e ∙ g) (rest ∙ h) (rest ∙ i)
      at (something y x more e h f) _ =
          let rest = ap (λ xs. first_filled xs (binders_of names all n p b)) f in
          some y x more (ap (λ o. option_or o (binder_of (map (named names) all) n p b)) e) (rest ∙ (sym f ∙ ap (binders_in names all n p) (sym (binds_block (k ∷ b) n p y h)))) rest
