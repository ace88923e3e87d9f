-- Lists of copies, seen as what they read.
use Rattle.std.proofs.Common.{◌≡◌, ◌<◌, ◌+◌, ℕ, List, [], ◌∷◌, ◌++◌, length, take, get_or, map, refl, sym, ap, ◌∙◌, append_assoc}
use Rattle.std.proofs.lemmas.List.{map_more, map_push}
use Rattle.std.specs.List.{AllZip}

-- copies that read the same make a list that reads the same
pub map-AllZip : {A B : Type 0} (f : A → B) (xs ys : List A) → AllZip (λ x y. f y ≡ f x) xs ys → map f ys ≡ map f xs
map-AllZip f [] [] h = refl
map-AllZip f [] (y ∷ ys) h = absurd h
map-AllZip f (x ∷ xs) [] h = absurd h
map-AllZip f (x ∷ xs) (y ∷ ys) h = rw (h.0, map-AllZip f xs ys h.1) refl

-- a list of copies, which reads as some texts and then the first of the others do, with a copy of the next one
pub copied_more : {A B C : Type 0} (f : A → C) (g : B → C) (before : List C) (others : List B) (i : ℕ) (d : B) (copies more : List A) (copy : A)
    → i < length others → f copy ≡ g (get_or others i d) → more ≡ copies ++ copy ∷ []
    → map f copies ≡ before ++ map g (take i others) → map f more ≡ before ++ map g (take (i + 1) others)
copied_more f g before others i d copies more copy h reads pushed so_far =
    ap (map f) pushed ∙ map_push f copies copy ∙ ap (λ l. l ++ f copy ∷ []) so_far ∙ append_assoc before (map g (take i others)) (f copy ∷ [])
    ∙ ap (λ c. before ++ (map g (take i others) ++ c ∷ [])) reads ∙ sym (ap (λ l. before ++ l) (map_more g others i d h))
