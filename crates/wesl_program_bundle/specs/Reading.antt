-- How names, paths, lists and members are read from a value.
use Rattle.std.specs.Prelude.{List, [], ◌∷◌, if◌then◌else◌, Option, Some, None, option_map, option_and_then}
use Rattle.serde_json.specs.Data.{Data, Items, no_items, item}
use Rattle.serde_json.specs.Find.{get, as_str, as_array}
use Rattle.wesl_tree_names.specs.Path.{Text, Path, is_relative}
use Rattle.wesl_tree_names.specs.PathText.{parse}

infixl 10 ◌>>=◌
-- what is read on from what was read; where nothing was, nothing is
abbrev pub ◌>>=◌ : {A B : Type 0} → Option A → (A → Option B) → Option B
o >>= f = option_and_then f o

-- a text, if it is not empty
abbrev pub nonempty : Text → Option Text
nonempty [] = None
nonempty (x ∷ xs) = Some (x ∷ xs)

-- a name is a nonempty text
abbrev pub name_in : Data → Option Text
name_in d = option_and_then nonempty (as_str d)

-- a path, if it begins with neither `self` nor `super`
abbrev pub unless_relative : Path → Option Path
unless_relative p = if is_relative p then None else Some p

-- the text of a path that is not relative
abbrev pub path_in : Data → Option Path
path_in d = option_and_then unless_relative (option_and_then parse (as_str d))

-- each item of a list
abbrev pub items_in : {A : Type 0} → (Data → Option A) → Items → Option (List A)
items_in reading no_items = Some []
items_in reading (item d ds) = do
  x ← reading d
  xs ← items_in reading ds
  Some (x ∷ xs)

-- what is read of each item of a list, in order; refused where the value is no list, or an item is refused
abbrev pub list_in : {A : Type 0} → (Data → Option A) → Data → Option (List A)
list_in reading d = option_and_then (items_in reading) (as_array d)

-- a member that has to be there
abbrev pub required_in : {A : Type 0} → (Data → Option A) → Text → Data → Option A
required_in reading k d = option_and_then reading (get k d)

-- a list that is empty where it is not there
abbrev pub or_empty : {A : Type 0} → (Data → Option A) → Option Data → Option (List A)
or_empty reading None = Some []
or_empty reading (Some d) = list_in reading d

-- what stands for a member that is not there
abbrev pub or_default : {A : Type 0} → A → (Data → Option A) → Option Data → Option A
or_default a reading None = Some a
or_default a reading (Some d) = reading d

-- a member that may be absent
abbrev pub optional_in : {A : Type 0} → (Data → Option A) → Option Data → Option (Option A)
optional_in reading None = Some None
optional_in reading (Some d) = option_map Some (reading d)
