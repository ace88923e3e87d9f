-- Lists that are told item by item.
use Rattle.std.proofs.Common.{◌≡◌, ℕ, zero, suc, ◌<◌, ◌≤◌, List, [], ◌∷◌, length, map, get_or, refl, ap, arith}

module _ {A B : Type 0} (f : A → B) where
  pub at_mapped : (xs : List A) (i : ℕ) (x : A) (e : B) → i < length xs → x ≡ get_or xs i x → f x ≡ get_or (map f xs) i e
  at_mapped [] i x e h q = absurd (omega (arith, h))
  at_mapped (y ∷ xs) zero x e h q = ap f q
  at_mapped (y ∷ xs) (suc i) x e h q = at_mapped xs i x e (omega (arith, h)) q

  pub at_mapped_past : (xs : List A) (i : ℕ) (e : B) → length xs ≤ i → e ≡ get_or (map f xs) i e
  at_mapped_past [] i e h = refl
  at_mapped_past (y ∷ xs) zero e h = absurd (omega (arith, h))
  at_mapped_past (y ∷ xs) (suc i) e h = at_mapped_past xs i e (omega (arith, h))

pub at_itself : {A : Type 0} (xs : List A) (i : ℕ) (x d : A) → i < length xs → x ≡ get_or xs i d → x ≡ get_or xs i x
at_itself [] i x d h q = absurd (omega (arith, h))
at_itself (y ∷ xs) zero x d h q = q
at_itself (y ∷ xs) (suc i) x d h q = at_itself xs i x d (omega (arith, h)) q
