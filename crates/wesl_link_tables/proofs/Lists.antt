-- Lists that grow by one element at a time.
use Rattle.std.proofs.Common.{◌≡◌, ℕ, zero, suc, ◌<◌, ◌+◌, List, [], ◌∷◌, ◌++◌, map, length, take, get_or, arith, refl, ap}
use Rattle.wesl_link_tables.specs.Numbering.{AreRelated}
pub use Rattle.wesl_link_paths.proofs.Lists.{longer_itself, longer_trans, get_longer, get_in}

-- the taken elements and the next one
pub take_next : {X : Type 0} (xs : List X) (i : ℕ) (x : X) → i < length xs → x ≡ get_or xs i x → take (i + 1) xs ≡ take i xs ++ x ∷ []
take_next [] i x b e = absurd (omega arith)
take_next (y ∷ xs) zero x b e = let f : x ≡ y = e in rw f refl
take_next (y ∷ xs) (suc i) x b e = let n : suc i + 1 ≡ suc (i + 1) = omega arith in rw n (ap (λ l. y ∷ l) (take_next xs i x (omega arith) e))

module _ {X Y : Type 0} (R S : X → Y → Type 0) (more : (x : X) (y : Y) → R x y → S x y) where
  pub related_more : (xs : List X) (ys : List Y) → AreRelated R xs ys → AreRelated S xs ys
  related_more [] [] h = tt
  related_more (x ∷ xs) (y ∷ ys) h = (more x y h.0, related_more xs ys h.1)
  related_more [] (y ∷ ys) h = h
  related_more (x ∷ xs) [] h = h

  pub related_append : (xs us : List X) (ys vs : List Y) → AreRelated R xs ys → AreRelated S us vs → AreRelated S (xs ++ us) (ys ++ vs)
  related_append [] us [] vs h k = k
  related_append (x ∷ xs) us (y ∷ ys) vs h k = (more x y h.0, related_append xs us ys vs h.1 k)
  related_append [] us (y ∷ ys) vs h k = absurd h
  related_append (x ∷ xs) us [] vs h k = absurd h

-- an element of what is made of each
pub get_mapped : {X Y : Type 0} (f : X → Y) (xs : List X) (i : ℕ) (d : X) → i < length xs → (e : Y) → get_or (map f xs) i e ≡ f (get_or xs i d)
get_mapped f [] i d h e = absurd (omega (arith, h))
get_mapped f (x ∷ xs) zero d h e = refl
get_mapped f (x ∷ xs) (suc i) d h e = get_mapped f xs i d (omega (arith, h)) e
