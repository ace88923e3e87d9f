-- Names that are given to symbols (WESL, "NameMangling").
use Rattle.std.specs.Prelude.{◌≡◌, ℕ, Option, Some, None, List}
use Rattle.wesl_tree_names.specs.Path.{Text}
use Rattle.wesl_tree_syntax.specs.Tree.{Tree}
use Rattle.wesl_link_symbols.specs.declared.ids.PathId.{PathId}
use Rattle.wesl_tree_base.specs.declared.ids.NameId.{NameId}
use Rattle.wesl_link_symbols.specs.declared.symbols.Symbol.{Symbol}
use Rattle.wesl_link_symbols.specs.Tables.{Table}
use Rattle.wesl_link_symbols.specs.Names.{Declares}
use Rattle.wesl_link_tables.specs.Numbering.{Numbering, NameAt}

-- the name of each symbol that was given one
abbrev pub Given : Type 0
Given = Symbol PathId NameId → Option Text

-- a name that was given stays
abbrev pub Keeps : Given → Given → Type 0
Keeps old new = (s : Symbol PathId NameId) (x : Text) → old s ≡ Some x → new s ≡ Some x

-- the symbols of other modules keep their names, and get none
abbrev pub KeepsOthers : PathId → Given → Given → Type 0
KeepsOthers path old new = (s : Symbol PathId NameId) → (s.path ≡ path → ⊥) → new s ≡ old s

-- so do the names that the table does not declare
abbrev pub KeepsUndeclared : Table PathId NameId → Given → Given → Type 0
KeepsUndeclared t old new = (n : NameId) → (Declares t n → ⊥) → new (record { path = t.path; name = n }) ≡ old (record { path = t.path; name = n })

-- the symbol has this name, if it had none before
abbrev pub GivesName : Text → Symbol PathId NameId → Given → Given → Type 0
GivesName name s old new = old s ≡ None → new s ≡ Some name

-- each name that the table declares has a text
abbrev pub AreNamed : Numbering → Table PathId NameId → Type 0
AreNamed numbering t = (n : NameId) → Declares t n → (x : Text) × NameAt numbering n x

-- each name that the table declares has the name that `name_of` makes of its text, if it had none before
abbrev pub GivesNames : Numbering → (Text → Text) → Table PathId NameId → Given → Given → Type 0
GivesNames numbering name_of t old new =
    (n : NameId) (x : Text) → Declares t n → NameAt numbering n x → GivesName (name_of x) (record { path = t.path; name = n }) old new

-- the name of each variant of an item, by the names of a table, the item, the variant's number and its types
abbrev pub VariantNames : Type 0
VariantNames = List Text → Text → ℕ → List Tree → Option Text

-- each variant has the name that it had
abbrev pub SameVariants : VariantNames → VariantNames → Type 0
SameVariants old new = (names : List Text) (item : Text) (number : ℕ) (types : List Tree) → new names item number types ≡ old names item number types
