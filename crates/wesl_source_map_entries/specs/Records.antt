-- What is recorded of names and of modules: of several writes the last counts.
use Rattle.std.specs.Prelude.{◌≡◌, Option, Some, option_map, string_bytes, String}
use Rattle.std.specs.declared.alloc.Global.{Global}
use Rattle.std.specs.Str.{bytes_eq}
use Rattle.std.specs.Map.{update}
use Rattle.wesl_tree_names.specs.Path.{Text, Path, path_view}
use Rattle.wesl_tree_names.specs.PathOrder.{same_path}
use Rattle.wesl_tree_names.specs.declared.path.ModulePath.{ModulePath}

-- an item of a module
abbrev pub Item : Type 0
Item = Path × Text

-- what is known of a module: the name by which it is shown, if it has one, and its source
abbrev pub Source : Type 0
Source = Option Text × Text

-- the items that names stand for
abbrev pub Items : Type 0
Items = Text → Option Item

-- what is known of the modules at paths
abbrev pub Sources : Type 0
Sources = Path → Option Source

-- the name stands for the item, and every other name for what it stood for
abbrev pub WritesItem : Text → Item → Items → Items → Type 0
WritesItem name item old new = (other : Text) → new other ≡ update bytes_eq old name (Some item) other

-- this is known of the module at the path, and of every other module what was known
abbrev pub WritesSource : Path → Source → Sources → Sources → Type 0
WritesSource path source old new = (other : Path) → new other ≡ update same_path old path (Some source) other

-- each name stands for what it stood for
abbrev pub SameItems : Items → Items → Type 0
SameItems old new = (name : Text) → new name ≡ old name

-- of each module is known what was known
abbrev pub SameSources : Sources → Sources → Type 0
SameSources old new = (path : Path) → new path ≡ old path

-- what a value of the code says of an item: the path of its module, and its name
abbrev pub item_view : ModulePath × String Global → Item
item_view item = (path_view item.0, string_bytes item.1)

-- what a value of the code says of a module: the name by which it is shown, if it has one, and its source
abbrev pub source_view : Option (String Global) × String Global → Source
source_view source = (option_map string_bytes source.0, string_bytes source.1)
