-- Counts of a list of numbers.
use Rattle.std.proofs.Common.{◌≡◌, ℕ, zero, suc, ◌+◌, ◌<◌, ◌≤◌, Bool, true, false, cond, List, [], ◌∷◌, length, get_or, ap, ◌∙◌, arith}
use Rattle.std.specs.Prelude.{count_by}
use Rattle.std.proofs.lemmas.List.Sums.{sum_by-cons}

-- one that passes, and one that does not
pub counted : (p : ℕ → Bool) (x : ℕ) (xs : List ℕ) → p x ≡ true → count_by p (x ∷ xs) ≡ suc (count_by p xs)
counted p x xs e =
    let n : ℕ = count_by p xs in
    let one : 1 + n ≡ suc n = omega arith in
    sum_by-cons (λ y. cond (p y) 1 0) x xs ∙ ap (λ t. cond t 1 0 + n) e ∙ one

pub skipped : (p : ℕ → Bool) (x : ℕ) (xs : List ℕ) → p x ≡ false → count_by p (x ∷ xs) ≡ count_by p xs
skipped p x xs e =
    let n : ℕ = count_by p xs in
    let none : 0 + n ≡ n = omega arith in
    sum_by-cons (λ y. cond (p y) 1 0) x xs ∙ ap (λ t. cond t 1 0 + n) e ∙ none

-- where those that pass come first, there are as many as stand before the first other
pub count_at : (p : ℕ → Bool) (xs : List ℕ) (i : ℕ) → i ≤ length xs → ((k : ℕ) → k < i → p (get_or xs k 0) ≡ true) → ((k : ℕ) → i ≤ k → k < length xs → p (get_or xs k 0) ≡ false) → count_by p xs ≡ i
count_at p [] i l t f = omega arith
count_at p (x ∷ xs) zero l t f =
    skipped p x xs (f zero (omega arith) (omega arith))
    ∙ count_at p xs zero (omega arith) (λ k h. absurd (omega arith)) (λ k _ h. f (suc k) (omega arith) (omega arith))
count_at p (x ∷ xs) (suc i) l t f =
    counted p x xs (t zero (omega arith))
    ∙ ap suc (count_at p xs i (omega arith) (λ k h. t (suc k) (omega arith)) (λ k a h. f (suc k) (omega arith) (omega arith)))
