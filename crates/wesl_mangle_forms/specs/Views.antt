-- What pieces of code's texts say.
use Rattle.std.specs.Prelude.{◌≡◌, ℕ, List, drop, option_map, string_bytes, IfOk, Option, Result, String, Vec}
use Rattle.std.specs.declared.alloc.Global.{Global}
use Rattle.wesl_tree_names.specs.Path.{Text, Origin, origin_view}
use Rattle.wesl_tree_names.specs.declared.path.ModulePath.{ModulePath}
use Rattle.wesl_tree_names.specs.declared.path.PathOrigin.{PathOrigin}
use Rattle.wesl_tree_syntax.specs.View.{texts_of}
use Rattle.wesl_mangle_forms.specs.Escape.{item_below}
use Rattle.wesl_mangle_forms.specs.Items.{item_view}

-- a name that was read, and the pieces left after so many
abbrev pub name_before : List Text → String Global × ℕ → Text × List Text
name_before ps x = (string_bytes x.0, drop x.1 ps)

-- the same of several names
abbrev pub names_before : List Text → Vec (String Global) Global × ℕ → List Text × List Text
names_before ps x = (texts_of x.0, drop x.1 ps)

-- the same of an origin
abbrev pub origin_before : List Text → PathOrigin × ℕ → Origin × List Text
origin_before ps x = (origin_view x.0, drop x.1 ps)

-- what is read where the names are these
abbrev pub ReadsBelow : {X : Type 0} → PathOrigin → Result (Vec (String Global) Global) X → Result (Option (ModulePath × String Global)) X → Type 0
ReadsBelow origin names read = (ns : List Text) → IfOk names (λ found. texts_of found ≡ ns) → IfOk read (λ found. option_map item_view found ≡ item_below (origin_view origin) ns)
