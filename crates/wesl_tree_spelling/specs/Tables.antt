-- Trees compared by the names that two tables give to their identifiers, or by places alone.
use Rattle.std.specs.Prelude.{ℕ, Bool, if◌then◌else◌, List, []}
use Rattle.wesl_tree_names.specs.Path.{Text}
use Rattle.wesl_tree_syntax.specs.Shown.{shown}
use Rattle.wesl_tree_syntax.specs.Tree.{Tree, TreeOf}
use Rattle.wesl_tree_syntax.specs.Unit.{name_in}
use Rattle.wesl_tree_spelling.specs.Same.{same_tree}
use Rattle.wesl_tree_spelling.specs.declared.tables.Tables.{Tables}

-- what identifiers are called: nothing where places are compared, else as a table says
abbrev pub naming : Bool → List Text → ℕ → Text
naming places names i = if places then [] else name_in names i

-- whether two trees are the same, where the left table names the identifiers of the first, and the right table those of the second
abbrev pub same_in : Tables → Tree → Tree → Bool
same_in tables s t = same_tree tables.places (naming tables.places tables.left.now) (naming tables.places tables.right.now) s t

-- what of a tree is compared: its spelling by a table, or its nodes with their spans, identifiers without their names
abbrev pub shown_in : Bool → List Text → Tree → TreeOf Text
shown_in places names t = shown places (naming places names) t
