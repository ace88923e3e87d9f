-- Items, and names with a number.
use Rattle.std.specs.Prelude.{◌≡◌, ◌⊎◌, ℕ, Option, None, ◌++◌, ◌∷◌, string_bytes, String}
use Rattle.std.specs.Fmt.{decimal}
use Rattle.std.specs.declared.alloc.Global.{Global}
use Rattle.wesl_tree_names.specs.Path.{Text, Path, path_view}
use Rattle.wesl_tree_names.specs.declared.errors.Error.{Error}
use Rattle.wesl_tree_names.specs.declared.errors.Error.TheVariants.{Memory, NotNormalType}
use Rattle.wesl_tree_names.specs.declared.path.ModulePath.{ModulePath}

-- a module and an item of it
abbrev pub item_view : ModulePath × String Global → Path × Text
item_view pair = (path_view pair.0, string_bytes pair.1)

-- a text, an underscore and a number
abbrev pub numbered : Text → ℕ → Text
numbered item n = item ++ 95 ∷ decimal n

-- memory was wanting, or the types have no name
abbrev pub IsRefusedVariant : Option Text → Error → Type 0
IsRefusedVariant name e = (e ≡ Memory) ⊎ ((e ≡ NotNormalType) × (name ≡ None))
