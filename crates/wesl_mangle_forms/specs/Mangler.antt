-- Names that are written into a record, with the items that they were given for.
use Rattle.std.specs.Prelude.{◌≡◌, ◌⊎◌, Option, Some, Bool, true, false}
use Rattle.std.specs.Str.{bytes_eq}
use Rattle.std.specs.Map.{update}
use Rattle.wesl_tree_names.specs.Path.{Text, Path}

-- the record with this item written for the name, or as it was
abbrev pub written_if : Bool → Text → Path × Text → (Text → Option (Path × Text)) → Text → Option (Path × Text)
written_if true name item items = update bytes_eq items name (Some item)
written_if false name item items = items

-- each name is read as it was, but that this one may now be read as the item
abbrev pub ReadsOn : Text → Path × Text → (Text → Option (Path × Text)) → (Text → Option (Path × Text)) → Type 0
ReadsOn name item old new = (n : Text) → (new n ≡ old n) ⊎ ((n ≡ name) × (new n ≡ Some item))
