-- What each identifier means (WGSL, "Declaration and Scope").
use Rattle.std.specs.Prelude.{ℕ, Bool, true, false, ◌&&◌, nat_le, bytes_eq, Option, Some, None, List, [], ◌∷◌, map}
use Rattle.std.specs.List.{find}
use Rattle.std.specs.Option.{option_or}
use Rattle.wesl_tree_names.specs.Path.{Text, Path}
use Rattle.wesl_tree_names.specs.PathOrder.{same_path}
use Rattle.wesl_scope_occurrences.specs.Occurrences.{Block, Standing, module_name, parameter, local, reference, word, Occurrence}

-- whether a name that stands so is declared and visible at place p: that of a declaration statement once all of it has come
-- before
abbrev pub is_visible : ℕ → Standing → Bool
is_visible p module_name = true
is_visible p parameter = true
is_visible p (local e) = nat_le e p
is_visible p (reference path) = false
is_visible p word = false

-- whether o binds the name n in block b and is visible at place p
abbrev pub binds : Block → Text → ℕ → Occurrence Text → Bool
binds b n p o = is_visible p o.role && (bytes_eq o.name n && bytes_eq o.block b)

-- The binder that the name n means at place p of block b: the first in the first block, from b outwards,
-- that holds a visible one.
abbrev pub binder_of : List (Occurrence Text) → Text → ℕ → Block → Option (Occurrence Text)
binder_of all n p [] = find (binds [] n p) all
binder_of all n p (k ∷ outer) = option_or (find (binds (k ∷ outer) n p) all) (binder_of all n p outer)

-- what an identifier means
pub data Key : Type 0 where
  -- a name of a block
  bound : Block → Text → Key
  free : Text → Key
  qualified : Path → Text → Key

-- whether two keys are equal
abbrev pub same_key : Key → Key → Bool
same_key (bound a m) (bound b n) = bytes_eq a b && bytes_eq m n
same_key (free m) (free n) = bytes_eq m n
same_key (qualified p m) (qualified q n) = same_path p q && bytes_eq m n
same_key _ _ = false

-- what the name n means that picks this binder; one that picks none is free
abbrev pub meaning : Text → Option (Occurrence Text) → Key
meaning n (Some o) = bound o.block n
meaning n None = free n

-- what the identifier o means, which stands so among all identifiers of its module
abbrev pub key_as : List (Occurrence Text) → Occurrence Text → Standing → Key
key_as all o module_name = bound o.block o.name
key_as all o parameter = bound o.block o.name
key_as all o (local e) = bound o.block o.name
key_as all o (reference (Some path)) = qualified path o.name
key_as all o (reference None) = meaning o.name (binder_of all o.name o.place o.block)
key_as all o word = free o.name

-- what the identifier o means among all identifiers of its module
abbrev pub key_of : List (Occurrence Text) → Occurrence Text → Key
key_of all o = key_as all o o.role

-- of all identifiers of a module, in document order
abbrev pub keys : List (Occurrence Text) → List Key
keys all = map (key_of all) all
