-- Lists of texts, seen as the lists of their bytes, and tests of them.
use Rattle.std.proofs.Common.{◌≡◌, List, [], ◌∷◌, map, string_bytes, String, refl}
use Rattle.std.specs.List.{starts_with, list_all}
use Rattle.std.proofs.lemmas.Cmp.{nat_list_eq_equiv}
use Rattle.std.specs.String.{string_eq}
use Rattle.wesl_tree_base.specs.Pieces.{Text}
use Rattle.wesl_tree_names.specs.Path.{components_begin}
use Rattle.wesl_tree_names.specs.PathText.{is_component, are_components}

-- the first texts are read as their bytes are
pub starts_with-texts : {Z : Type 0} (xs ys : List (String Z)) → starts_with string_eq xs ys ≡ components_begin (map string_bytes xs) (map string_bytes ys)
starts_with-texts xs [] = refl
starts_with-texts [] (y ∷ ys) = refl
starts_with-texts (x ∷ xs) (y ∷ ys) =
    rw (nat_list_eq_equiv.symm (string_bytes y) (string_bytes x), starts_with-texts xs ys) refl

-- a test of each text, at references
pub all-components : {B : Type 0} (f : B → Text) (xs : List B) → list_all (λ x. is_component (f x)) xs ≡ are_components (map f xs)
all-components f [] = refl
all-components f (x ∷ xs) = rw (all-components f xs) refl
