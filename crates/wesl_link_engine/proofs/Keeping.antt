-- The texts that references lead to.
use Rattle.std.proofs.Common.{◌≡◌, ℕ, zero, suc, ◌<◌, ◌+◌, List, [], ◌∷◌, ◌++◌, take, length, get_or, refl, ap, arith}
use denote.Ref.{Bor}
use Rattle.wesl_tree_names.specs.Path.{Text}
use Rattle.wesl_tree_base.specs.Borrowed.{texts}

pub texts_next : (xs : List (Bor Text)) (i : ℕ) (d : Bor Text) → i < length xs → texts (take (i + 1) xs) ≡ texts (take i xs) ++ (get_or xs i d).now ∷ []
texts_next [] i d b = absurd (omega arith)
texts_next (x ∷ xs) zero d b = refl
texts_next (x ∷ xs) (suc i) d b = let n : suc i + 1 ≡ suc (i + 1) = omega arith in rw n (ap (λ (l : List Text). x.now ∷ l) (texts_next xs i d (omega arith)))
