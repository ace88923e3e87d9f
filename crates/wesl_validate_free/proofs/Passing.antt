-- Those of a list that pass, gathered one after the other.
use Rattle.std.proofs.Common.{◌≡◌, ◌++◌, Bool, true, false, cond, List, [], ◌∷◌, map, refl, ap, ◌∙◌}
use Rattle.std.specs.Prelude.{flat_map, if◌then◌else◌}
use Rattle.std.specs.List.{Contains, filter}
use Rattle.wesl_scope_strip.proofs.Keeping.{contains_here, contains_later}

-- those of a list that pass, seen by `g`
module _ {A B C : Type 0} (v : A → B) (p : B → Bool) (g : B → C) (q : A → Bool) (h : A → C) (sees : (x : A) → g (v x) ≡ h x) where
  pub passing : (xs : List A) → ((x : A) → Contains xs x → p (v x) ≡ q x) → map g (filter p (map v xs)) ≡ flat_map (λ x. if q x then h x ∷ [] else []) xs
  passing [] tests = refl
  passing (x ∷ xs) tests = ap (λ t. map g (cond t (v x ∷ filter p (map v xs)) (filter p (map v xs)))) (tests x (contains_here x xs)) ∙ by (q x) (passing xs (λ y c. tests y (contains_later x y xs c)))
    where
      by : (t : Bool) → map g (filter p (map v xs)) ≡ flat_map (λ x. if q x then h x ∷ [] else []) xs → map g (cond t (v x ∷ filter p (map v xs)) (filter p (map v xs))) ≡ (if t then h x ∷ [] else []) ++ flat_map (λ x. if q x then h x ∷ [] else []) xs
      by true e = ap (λ n. n ∷ map g (filter p (map v xs))) (sees x) ∙ ap (λ ns. h x ∷ ns) e
      by false e = e
