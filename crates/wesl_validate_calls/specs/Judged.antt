-- What tables say of the numbers in which the aliases of a call end.
use Rattle.std.specs.Prelude.{ℕ, Bool, true, false, not, ◌||◌, Option, Some, None, List, [], ◌∷◌}
use Rattle.std.specs.List.{list_any}
use Rattle.std.specs.Option.{option_or}
use Rattle.wesl_validate_rules.specs.Graphs.{edges_at}
use Rattle.wesl_validate_rules.specs.Calls.{ShapeOf, function_with, struct_with, is_plain_alias}
use Rattle.wesl_validate_calls.specs.Tables.{Tables, shape_at}

-- what a function answers of the first of a list for which it answers anything
abbrev pub first_some : {X Y : Type 0} → (X → Option Y) → List X → Option Y
first_some f [] = None
first_some f (x ∷ xs) = option_or (f x) (first_some f xs)

-- whether a list has no element
abbrev pub is_empty : List ℕ → Bool
is_empty [] = true
is_empty (x ∷ xs) = false

-- how many arguments a function or a struct takes
abbrev pub count_of : ShapeOf ℕ → Option ℕ
count_of (function_with k) = Some k
count_of (struct_with k) = Some k
count_of _ = None

module _ (t : Tables) where
  -- the count of parameters or members of the first declaration of the number that is a function or a struct, if one is
  abbrev pub count_at : ℕ → Option ℕ
  count_at e = first_some (λ j. count_of (shape_at t.shapes j)) (edges_at t.declarers e)

  -- whether aliases end at the number: it has no declaration, or one that is no alias of a plain name
  abbrev pub ends_at : ℕ → Bool
  ends_at e = is_empty (edges_at t.declarers e) || list_any (λ j. not (is_plain_alias (shape_at t.shapes j))) (edges_at t.declarers e)
