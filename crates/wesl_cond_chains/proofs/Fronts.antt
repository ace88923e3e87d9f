-- Lists of which a beginning was gone through.
use Rattle.std.proofs.Common.{◌≡◌, ℕ, zero, suc, ◌≤◌, List, [], ◌∷◌, ◌++◌, length, map, take, drop, refl, sym, ap, ◌∙◌, arith}

pub front_is_all : {A B : Type 0} (f g : A → B) (xs : List A) (n : ℕ) → length xs ≤ n → map f (take n xs) ++ map g (drop n xs) ≡ map f xs
front_is_all f g [] zero h = refl
front_is_all f g [] (suc n) h = refl
front_is_all f g (x ∷ xs) zero h = absurd (omega arith)
front_is_all f g (x ∷ xs) (suc n) h = ap (λ r. f x ∷ r) (front_is_all f g xs n (omega arith))

pub take-length : {A : Type 0} (xs zs : List A) → take (length xs) (xs ++ zs) ≡ xs
take-length [] zs = refl
take-length (x ∷ xs) zs = ap (λ r. x ∷ r) (take-length xs zs)

-- a `Vec` whose whole slice was lent and given back as xs
pub lent_back : {A : Type 0} (n : ℕ) (xs ys : List A) → length xs ≡ n → take n (xs ++ drop (length xs) ys) ≡ xs
lent_back n xs ys e = ap (λ m. take m (xs ++ drop (length xs) ys)) (sym e) ∙ take-length xs (drop (length xs) ys)

pub map_in_turn : {A B C : Type 0} (f : A → B) (g : B → C) (xs : List A) → map (λ x. g (f x)) xs ≡ map g (map f xs)
map_in_turn f g [] = refl
map_in_turn f g (x ∷ xs) = ap (λ r. g (f x) ∷ r) (map_in_turn f g xs)
