-- An element of a list that equals another is an element of that one.
use Rattle.std.proofs.Common.{◌≡◌, ◌<◌, ℕ, List, length, slice_index_or, Contains, sym, subst}

-- the same where the element has a name of its own
pub element_is : {X : Type 0} (xs ys : List X) (k : ℕ) (x : X) → xs ≡ ys → k < length xs → x ≡ slice_index_or xs k x → Contains ys x
element_is {X} xs ys k x e b is = subst (λ (zs : List X). Contains zs x) e (k, b, sym is)
