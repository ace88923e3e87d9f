-- Lists of which a beginning was gone through.
use Rattle.std.proofs.Common.{◌≡◌, ℕ, ◌+◌, ◌<◌, get_or, append_assoc, List, [], ◌∷◌, ◌++◌, length, map, take, drop, refl, sym, ap, ◌∙◌, arith}
use Rattle.std.proofs.Math.ListN.{set}
use Rattle.std.proofs.lemmas.List.{drop-set-lt, map-append, drop_more}
use Rattle.std.proofs.lemmas.Grind.{take-set_at}

-- one more of a list changed in its place
pub changed : {A B : Type 0} (f g : A → B) (xs : List A) (i : ℕ) (d y : A) (total : List B) → i < length xs → f y ≡ g (get_or xs i d) → map f (take i xs) ++ map g (drop i xs) ≡ total
    → map f (take (i + 1) (set xs i y)) ++ map g (drop (i + 1) (set xs i y)) ≡ total
changed f g xs i d y total h e before =
    ap (λ ys. map f ys ++ map g (drop (i + 1) (set xs i y))) (take-set_at xs i (i + 1) y refl h)
    ∙ ap (λ ys. map f (take i xs ++ y ∷ []) ++ map g ys) (drop-set-lt (i + 1) xs i y (omega arith))
    ∙ ap (λ ys. ys ++ map g (drop (i + 1) xs)) (map-append f (take i xs) (y ∷ []))
    ∙ append_assoc (map f (take i xs)) (f y ∷ []) (map g (drop (i + 1) xs))
    ∙ ap (λ z. map f (take i xs) ++ (z ∷ map g (drop (i + 1) xs))) e
    ∙ ap (λ ys. map f (take i xs) ++ map g ys) (sym (drop_more xs i d h))
    ∙ before
