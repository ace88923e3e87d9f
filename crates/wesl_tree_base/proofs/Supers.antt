-- Runs of `super`.
use Rattle.std.proofs.Common.{◌≡◌, ◌<◌, ◌+◌, ℕ, zero, suc, ◌∷◌, ◌++◌, refl, ap, arith, add-one}
use lib.Chars.{codes}
use Rattle.wesl_tree_base.specs.Pieces.{Text, joined, relative_pieces, supers}

-- one more `super`
super-last : (n : ℕ) → joined (codes "super" ∷ supers n) ++ codes "::super" ≡ joined (codes "super" ∷ supers (suc n))
super-last zero = refl
super-last (suc n) = ap (λ (t : Text). codes "super::" ++ t) (super-last n)

pub relative-more : (n : ℕ) → 0 < n → joined (relative_pieces n) ++ codes "::super" ≡ joined (relative_pieces (n + 1))
relative-more zero h = absurd (omega arith)
relative-more (suc n) h = rw (add-one (suc n)) (super-last n)
