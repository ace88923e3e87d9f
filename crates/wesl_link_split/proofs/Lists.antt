-- Lists that grow by one element at a time.
use Rattle.std.proofs.Common.{◌≡◌, ℕ, zero, suc, ◌≤◌, ◌<◌, ◌+◌, List, [], ◌∷◌, ◌++◌, length, take, get_or, arith, refl, ap}
use Rattle.std.specs.Prelude.{OnOk, Result, Ok, Err}

pub taken_all : {X : Type 0} (xs : List X) (n : ℕ) → length xs ≤ n → take n xs ≡ xs
taken_all [] zero b = refl
taken_all [] (suc n) b = refl
taken_all (x ∷ xs) zero b = absurd (omega arith)
taken_all (x ∷ xs) (suc n) b = ap (λ l. x ∷ l) (taken_all xs n (omega arith))

pub length_one : {X : Type 0} (xs : List X) (x : X) → length (xs ++ x ∷ []) ≡ suc (length xs)
length_one [] x = refl
length_one (y ∷ xs) x = ap suc (length_one xs x)

pub take_one : {X : Type 0} (xs : List X) (i : ℕ) (d : X) → i < length xs → take (i + 1) xs ≡ take i xs ++ get_or xs i d ∷ []
take_one [] i d h = absurd (omega (arith, h))
take_one (x ∷ xs) zero d h = refl
take_one (x ∷ xs) (suc i) d h = let n : suc i + 1 ≡ suc (i + 1) = omega arith in rw n (ap (λ l. x ∷ l) (take_one xs i d (omega (arith, h))))

pub on_ok : {X E : Type 0} {P Q : Type 0} (r : Result X E) → (P → Q) → OnOk r P → OnOk r Q
on_ok (Ok x) f h = f h
on_ok (Err e) f h = tt
