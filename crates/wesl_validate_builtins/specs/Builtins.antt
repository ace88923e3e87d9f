-- What is built in: names that the caller hands in.
use denote.Ref.{Bor}
use Rattle.std.specs.Prelude.{◌≡◌, bytes_eq, Bool, ◌||◌, Option, List, map, string_bytes}
use Rattle.std.specs.List.{list_any, find}
use Rattle.std.specs.HashSet.{HashSet, contains}
use Rattle.wesl_tree_names.specs.Path.{Text}
use Rattle.wesl_validate_builtins.specs.declared.builtins.Builtins.{Builtins}

-- the names that are built in, as the caller hands them in
pub record BuiltinNames : Type 0 where
  -- those that are defined
  pub names : List Text
  -- those that a call may name
  pub functions : List Text
  pub constructors : List Text

-- the names that a value of the code holds, each of the three lists in its order
abbrev pub builtins_view : Builtins → BuiltinNames
builtins_view b = record { names = map string_bytes b.names.items; functions = map string_bytes b.functions.items; constructors = map string_bytes b.constructors.items }

-- whether the name is one of the list
abbrev pub is_among : Text → List Text → Bool
is_among n ns = list_any (λ m. bytes_eq m n) ns

-- the name as it is stored, where it is one of those that are defined
abbrev pub stored : BuiltinNames → Text → Option Text
stored b n = find (λ m. bytes_eq m n) b.names

-- whether a call may name it
abbrev pub is_callable : BuiltinNames → Text → Bool
is_callable b n = is_among n b.functions || is_among n b.constructors

-- the set has the names of the list and no others
abbrev pub AreKept : {S : Type 0} → List Text → HashSet (Bor Text) S → Type 0
AreKept ns kept = (n : Bor Text) → contains (λ a b. bytes_eq a.now b.now) kept n ≡ is_among n.now ns
