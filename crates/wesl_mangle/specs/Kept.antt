-- A record of names, and another's record below it.
use Rattle.std.specs.Prelude.{◌≡◌, ◌⊎◌, Option, Some, None, Bool}
use Rattle.wesl_tree_names.specs.Path.{Text, Path}
use Rattle.wesl_mangle_forms.specs.Mangler.{written_if}

-- the first value, where there is one, else the second
abbrev pub option_or : {X : Type 0} → Option X → Option X → Option X
option_or (Some x) o = Some x
option_or None o = o

-- the record has this item written for the name, where it is written at all
abbrev pub IsWritten : Bool → Text → Path × Text → (Text → Option (Path × Text)) → (Text → Option (Path × Text)) → Type 0
IsWritten writes name item old new = (n : Text) → new n ≡ written_if writes name item old n

-- the record is as it was, or has this item written for the name
abbrev pub IsWrittenOrKept : Bool → Text → Path × Text → (Text → Option (Path × Text)) → (Text → Option (Path × Text)) → Type 0
IsWrittenOrKept writes name item old new = ((n : Text) → new n ≡ old n) ⊎ IsWritten writes name item old new
