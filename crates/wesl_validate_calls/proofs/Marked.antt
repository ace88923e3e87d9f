-- Marks that grow.
use Rattle.std.proofs.Common.{◌≡◌, ℕ, zero, suc, ◌++◌, Bool, false, List, [], ◌∷◌, refl}
use Rattle.wesl_scope_strip.specs.Marks.{mark_at}

-- one more that is not set
pub one_more : (ms : List Bool) (m : ℕ) → mark_at (ms ++ false ∷ []) m ≡ mark_at ms m
one_more [] zero = refl
one_more [] (suc m) = refl
one_more (x ∷ ms) zero = refl
one_more (x ∷ ms) (suc m) = one_more ms m
