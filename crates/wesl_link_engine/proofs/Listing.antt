-- One more of a list that is read from its front.
use Rattle.std.proofs.Common.{◌≡◌, ℕ, ◌<◌, ◌+◌, List, [], ◌∷◌, ◌++◌, length, map, take, get_or, sym, ap, ◌∙◌}
use Rattle.std.proofs.lemmas.List.{map-append}
use Rattle.wesl_link_tables.proofs.Lists.{take_next}

-- what is said of each of the first items, in a list with one item before them
pub more_told : {X Y Z : Type 0} (f : X → Z) (told : List Y → List Z) (xs more : List X) (x : X) (first : Y) (ys : List Y) (i : ℕ) (y : Y)
    → i < length ys → y ≡ get_or ys i y → ((bs : List Y) → told (bs ++ y ∷ []) ≡ told bs ++ f x ∷ []) → map f xs ≡ told (first ∷ take i ys) → more ≡ xs ++ x ∷ [] → map f more ≡ told (first ∷ take (i + 1) ys)
more_told f told xs more x first ys i y below is apart so pushed =
    ap (map f) pushed
    ∙ (map-append f xs (x ∷ [])
    ∙ (ap (λ zs. zs ++ f x ∷ []) so
    ∙ (sym (apart (first ∷ take i ys)) ∙ ap (λ zs. told (first ∷ zs)) (sym (take_next ys i y below is)))))
