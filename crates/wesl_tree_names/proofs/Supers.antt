-- Runs of `super`.
use Rattle.std.proofs.Common.{◌≡◌, ◌<◌, ◌+◌, ℕ, zero, suc, if◌then◌else◌, Bool, true, false, cond, List, [], ◌∷◌, ◌++◌, drop, take, map, get_or, length, length-append, refl, ap, sym, ◌∙◌, arith, append_assoc, add-zero, inl, inr}
use Rattle.wesl_tree_base.proofs.Pieces.{true-or-false}
use Rattle.std.proofs.lemmas.Slice.Eq.{bytes_eq-Decides}
use Rattle.std.proofs.lemmas.List.{map_push, take_more}
use Rattle.std.specs.List.{prefix_len}
use Rattle.std.specs.Str.{bytes_eq}
use lib.Chars.{codes}
use Rattle.wesl_tree_names.specs.Path.{Text, Origin, absolute, relative, from_package}
use Rattle.wesl_tree_base.specs.Pieces.{joined}
use Rattle.wesl_tree_names.specs.PathText.{path_with, after_super, path_of_pieces, origin_pieces}

abbrev pub is_super : Text → Bool
is_super t = bytes_eq t (codes "super")

one-more : (n k : ℕ) → suc n + k ≡ n + (1 + k)
one-more n k = omega arith

drop-one : {A : Type 0} (k : ℕ) (x : A) (xs : List A) → drop (1 + k) (x ∷ xs) ≡ drop k xs
drop-one k x xs = let e : 1 + k ≡ suc k = omega arith in rw e refl

bytes_eq-eq : (t u : Text) → bytes_eq t u ≡ true → t ≡ u
bytes_eq-eq t u e = (bytes_eq-Decides t u).0 e

no-super : (t : Text) (ts : List Text) → is_super t ≡ false → 0 < prefix_len is_super (t ∷ ts) → ⊥
no-super t ts e h = let k : 0 < 0 = rw e at h in omega arith

after_super-step : (b : Bool) (n k : ℕ) (t : Text) (ts : List Text) → after_super (suc n) ts ≡ path_with (relative (suc n + k)) (drop k ts)
    → (if b then after_super (suc n) ts else path_with (relative n) (t ∷ ts)) ≡ path_with (relative (n + cond b (1 + k) 0)) (drop (cond b (1 + k) 0) (t ∷ ts))
after_super-step true n k t ts h = rw (h, one-more n k, drop-one k t ts) refl
after_super-step false n k t ts h = rw (add-zero n) refl

after_super-run : (n : ℕ) (ts : List Text) → after_super n ts ≡ path_with (relative (n + prefix_len is_super ts)) (drop (prefix_len is_super ts) ts)
after_super-run n [] = rw (add-zero n) refl
after_super-run n (t ∷ ts) = after_super-step (is_super t) n (prefix_len is_super ts) t ts (after_super-run (suc n) ts)

-- leading `super` are the origin, and what follows the components
pub path_of_pieces-supers : (ts : List Text) → 0 < prefix_len is_super ts → path_of_pieces ts ≡ path_with (relative (prefix_len is_super ts)) (drop (prefix_len is_super ts) ts)
path_of_pieces-supers [] h = absurd (omega arith)
path_of_pieces-supers (t ∷ ts) h = elim (true-or-false (is_super t)) [
  | inl e ↦ rw (bytes_eq-eq t (codes "super") e, after_super-run 1 ts, drop-one (prefix_len is_super ts) (codes "super") ts) refl
  | inr e ↦ absurd (no-super t ts e h)
]

-- one more component
pub joined-more : (ts : List Text) (t : Text) → 0 < length ts → joined (ts ++ t ∷ []) ≡ joined ts ++ codes "::" ++ t
joined-more [] t h = absurd (omega arith)
joined-more (u ∷ []) t h = refl
joined-more (u ∷ v ∷ ts) t h =
    rw (joined-more (v ∷ ts) t (omega arith)) (simp append_assoc)

pub origin-some : (o : Origin) → 0 < length (origin_pieces o)
origin-some absolute = omega arith
origin-some (relative zero) = omega arith
origin-some (relative (suc n)) = omega arith
origin-some (from_package t) = omega arith

-- one more of the components that are written
pub text-more : {S : Type 0} (f : S → Text) (os : List Text) (xs : List S) (i : ℕ) (x : S) → 0 < length os → i < length xs → x ≡ get_or xs i x
    → joined (os ++ map f (take i xs)) ++ codes "::" ++ f x ≡ joined (os ++ map f (take (i + 1) xs))
text-more f os xs i x h k e =
    let l : 0 < length (os ++ map f (take i xs)) = omega (arith, length-append os (map f (take i xs))) in
    sym (joined-more (os ++ map f (take i xs)) (f x) l)
    ∙ ap joined (append_assoc os (map f (take i xs)) (f x ∷ []))
    ∙ ap (λ (ts : List Text). joined (os ++ ts)) (ap (λ y. map f (take i xs) ++ f y ∷ []) e ∙ sym (map_push f (take i xs) (get_or xs i x)) ∙ ap (map f) (sym (take_more xs i x k)))
