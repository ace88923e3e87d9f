-- Which text a JSON value has, and why a text is refused.
use Rattle.std.specs.Prelude.{◌≡◌, ◌⊎◌, ◌≤◌, Some, None, false}
use Rattle.serde_json.specs.Data.{Data, depth}
use Rattle.serde_json.specs.Read.{max_depth, read}
use Rattle.serde_json.specs.Written.{compact_text, has_float}
use Rattle.wesl_tree_names.specs.Path.{Text}
use Rattle.wesl_tree_names.specs.declared.errors.Error as error

-- memory was refused, or the text is no JSON
abbrev pub IsNoJson : Text → error.Error → Type 0
IsNoJson text e = (e ≡ error.Memory) ⊎ (e ≡ error.NotJson) × (read text ≡ None)

-- where no number of the value is a float, the text is the one with no space, with the members of objects in their order; and
-- of any value, where the text is read, it is read as the value
pub record IsTextOf (d : Data) (text : Text) : Type 0 where
  pub compact : has_float d ≡ false → text ≡ compact_text d
  pub read_as : (e : Data) → read text ≡ Some e → e ≡ d

-- the text is read as the value, unless that nests too deep
abbrev pub IsReadBack : Data → Text → Type 0
IsReadBack d text = depth d ≤ max_depth → read text ≡ Some d
