-- The order of paths.
use Rattle.std.specs.Prelude.{Bool, true, false, ◌&&◌, ◌||◌, ◌==◌, nat_lt, List, [], ◌∷◌, bytes_eq}
use Rattle.wesl_tree_names.specs.Path.{Text, Origin, absolute, relative, from_package, same_origin, Path}

-- the first list stands before the second, where `before` orders their elements: a beginning first
abbrev pub list_before : {X : Type 0} → (X → X → Bool) → (X → X → Bool) → List X → List X → Bool
list_before before same [] [] = false
list_before before same [] (y ∷ ys) = true
list_before before same (x ∷ xs) [] = false
list_before before same (x ∷ xs) (y ∷ ys) = before x y || (same x y && list_before before same xs ys)

-- whether the first text stands before the second: by bytes, a beginning first
abbrev pub text_before : Text → Text → Bool
text_before = list_before nat_lt (λ a b. a == b)

-- whether the first origin stands before the second: `package`, then relative ones by levels, then packages by name
abbrev pub origin_before : Origin → Origin → Bool
origin_before absolute absolute = false
origin_before absolute _ = true
origin_before (relative n) absolute = false
origin_before (relative n) (relative k) = nat_lt n k
origin_before (relative n) (from_package b) = true
origin_before (from_package a) (from_package b) = text_before a b
origin_before (from_package a) _ = false

-- by origin, then by components
abbrev pub path_before : Path → Path → Bool
path_before p q =
    origin_before p.origin q.origin || (same_origin p.origin q.origin && list_before text_before bytes_eq p.components q.components)

-- whether two lists have the same components in the same order
abbrev pub same_components : List Text → List Text → Bool
same_components [] [] = true
same_components (x ∷ xs) (y ∷ ys) = bytes_eq x y && same_components xs ys
same_components _ _ = false

-- a test that computes whether two paths are one
abbrev pub same_path : Path → Path → Bool
same_path p q = same_origin p.origin q.origin && same_components p.components q.components
