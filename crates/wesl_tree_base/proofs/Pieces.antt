-- Texts cut at a byte, and tests of lists of texts.
use Rattle.std.proofs.Common.{◌≡◌, ◌<◌, ◌⊎◌, inl, inr, eq-eqb, eqb-true, Decides, ℕ, zero, suc, Bool, true, false, not, ◌||◌, eqb, List, [], ◌∷◌, length, get_or, map, refl, arith}
use Rattle.std.specs.List.{slice_split, onto_first, list_all, prefix_len}
use Rattle.std.proofs.lemmas.Bool.{false≢true}
use Rattle.std.proofs.lemmas.Bool.Decides.{nat_tests}
use Rattle.wesl_tree_base.specs.Pieces.{Text}
use Rattle.wesl_tree_base.specs.Pieces.{has, cut, before_first, all_filled}

or-true : (b : Bool) → (b || true) ≡ true
or-true true = refl
or-true false = refl

pub true-or-false : (b : Bool) → (b ≡ true) ⊎ (b ≡ false)
true-or-false true = inl refl
true-or-false false = inr refl

onto-first : (x : ℕ) (parts : List Text) → onto_first x parts ≡ before_first x parts
onto-first x [] = refl
onto-first x (t ∷ ts) = refl

-- std's cut is ours
pub cut-split : (c : ℕ) (xs : Text) → slice_split (λ b. eqb b c) xs ≡ cut c xs
cut-split c [] = refl
cut-split c (x ∷ xs) = rw (cut-split c xs, onto-first x (cut c xs)) refl

filled-length : (x : ℕ) (t : Text) → eqb (length (x ∷ t)) 0 ≡ false
filled-length x t = grind (arith, nat_tests)

pub all-filled : (xs : List Text) → list_all (λ t. not (eqb (length t) 0)) xs ≡ all_filled xs
all-filled [] = refl
all-filled ([] ∷ xs) = refl
all-filled ((x ∷ t) ∷ xs) = rw (filled-length x t, all-filled xs) refl

pub prefix-map : {B : Type 0} (p : Text → Bool) (f : B → Text) (xs : List B) → prefix_len (λ x. p (f x)) xs ≡ prefix_len p (map f xs)
prefix-map p f [] = refl
prefix-map p f (x ∷ xs) = rw (prefix-map p f xs) refl

-- a byte that stands at some place
abbrev pub StandsIn : ℕ → Text → Type 0
StandsIn c xs = (k : ℕ) × (k < length xs) × (get_or xs k 0 ≡ c)

has-found : (c : ℕ) (xs : Text) (k : ℕ) → k < length xs → get_or xs k 0 ≡ c → has c xs ≡ true
has-found c [] k h e = absurd (omega arith)
has-found c (x ∷ xs) zero h e = rw (eq-eqb x c e) refl
has-found c (x ∷ xs) (suc k) h e = rw (has-found c xs k (omega arith) e) (or-true (eqb x c))

has-place : (c : ℕ) (xs : Text) → has c xs ≡ true → StandsIn c xs
has-place c [] h = absurd (false≢true h)
has-place c (x ∷ xs) h = elim (true-or-false (eqb x c)) [
  | inl e ↦ (0, omega arith, eqb-true x c e)
  | inr e ↦ let w = has-place c xs (rw e at h) in (suc w.0, omega (arith, w.1), w.2)
]

pub has-decides : (c : ℕ) (xs : Text) → Decides (has c xs) (StandsIn c xs)
has-decides c xs = (has-place c xs, λ w. has-found c xs w.0 w.1 w.2)
