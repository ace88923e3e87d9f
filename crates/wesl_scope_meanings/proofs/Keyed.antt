-- Keys of what is read, one after the other.
use Rattle.std.proofs.Common.{◌≡◌, ℕ, zero, suc, ◌+◌, ◌<◌, ◌≤◌, Some, List, [], ◌∷◌, ◌++◌, length, map, take, drop, get_or, refl, sym, ◌∙◌, ap, ap₂, subst, arith}
use Rattle.std.proofs.lemmas.List.{map_push}
use Rattle.wesl_tree_names.specs.Path.{Path}
use Rattle.wesl_scope_meanings.specs.Senses.{first_path}

-- the first path of those from a place on
pub first_at : {A : Type 0} (f : A → Path) (xs : List A) (i : ℕ) (x : A) → i < length xs → x ≡ get_or xs i x → first_path (drop i (map f xs)) ≡ Some (f x)
first_at f [] i x h e = absurd (omega (arith, h))
first_at f (y ∷ xs) zero x h e = ap (λ z. Some (f z)) (sym e)
first_at f (y ∷ xs) (suc i) x h e = first_at f xs i x (omega (arith, h)) e

-- one more is made of each of a list
module _ {X K Y : Type 0} (f : X → Y) (g : K → Y) where
  made_one : (xs : List X) (i : ℕ) (d : X) → i < length xs → map f (take (i + 1) xs) ≡ map f (take i xs) ++ f (get_or xs i d) ∷ []
  made_one [] i d h = absurd (omega (arith, h))
  made_one (x ∷ xs) zero d h = refl
  made_one (x ∷ xs) (suc i) d h = let n : suc i + 1 ≡ suc (i + 1) = omega arith in rw n (ap (λ l. f x ∷ l) (made_one xs i d (omega (arith, h))))

  pub next_made : (xs ys : List X) → xs ≡ ys → (i : ℕ) (d : X) (old new : List K) (k : K) → i < length xs → new ≡ old ++ k ∷ [] → g k ≡ f (get_or xs i d) → map g old ≡ map f (take i ys) → map g new ≡ map f (take (i + 1) ys)
  next_made xs ys same i d old new k h pushed is inv =
      ap (map g) pushed ∙ (map_push g old k ∙ (ap₂ (λ l y. l ++ y ∷ []) inv (is ∙ ap (λ l. f (get_or l i d)) same) ∙ sym (made_one ys i d (subst (λ l. i < length l) same h))))

  all_taken : (xs : List X) (i : ℕ) → length xs ≤ i → take i xs ≡ xs
  all_taken [] zero h = refl
  all_taken [] (suc i) h = refl
  all_taken (x ∷ xs) zero h = absurd (omega (arith, h))
  all_taken (x ∷ xs) (suc i) h = ap (λ l. x ∷ l) (all_taken xs i (omega (arith, h)))

  pub all_made : (xs ys : List X) → xs ≡ ys → (i : ℕ) (old : List K) → length xs ≤ i → map g old ≡ map f (take i ys) → map g old ≡ map f ys
  all_made xs ys same i old h inv = inv ∙ ap (map f) (all_taken ys i (subst (λ l. length l ≤ i) same h))
