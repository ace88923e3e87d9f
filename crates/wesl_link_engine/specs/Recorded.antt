-- What a mangler writes into its record of the names that it gave (WESL, "NameMangling").
use Rattle.std.specs.Prelude.{◌≡◌, Bool, not, Option, Some, None, List, [], ◌∷◌, map, filter, filter_map, get_or, bytes_eq}
use Rattle.wesl_tree_names.specs.Path.{Text, Path}
use Rattle.wesl_mangle_forms.specs.Mangler.{written_if}
use Rattle.wesl_link_symbols.specs.declared.ids.PathId.{PathId}
use Rattle.wesl_tree_base.specs.declared.ids.NameId.{NameId}
use Rattle.wesl_link_symbols.specs.Tables.{Declaration}
use Rattle.wesl_link_tables.specs.Numbering.{Numbering}
use Rattle.wesl_link_engine.specs.Given.{Given}

-- the item that each name was last given for
abbrev pub Record : Type 0
Record = Text → Option (Path × Text)

-- a name that is written, and the item that it stands for
pub record Write : Type 0 where
  pub mangled : Text
  pub path : Path
  pub item : Text

-- the record after these writes, one after the other
abbrev pub all_written : Bool → List Write → Record → Record
all_written w [] items = items
all_written w (x ∷ xs) items = all_written w xs (written_if w x.mangled (x.path, x.item) items)

-- the second is the record after these writes into the first
abbrev pub IsRecordedBy : Bool → List Write → Record → Record → Type 0
IsRecordedBy w xs old new = (x : Text) → new x ≡ all_written w xs old x

-- each once, where it stands first
abbrev pub firsts : List Text → List Text
firsts [] = []
firsts (n ∷ ns) = n ∷ filter (λ m. not (bytes_eq m n)) (firsts ns)

-- a write for each of these items of a module, under the name that is made of its path and the item
abbrev pub writes_of : (Path → Text → Text) → Path → List Text → List Write
writes_of name_of p ns = map (λ n. record { mangled = name_of p n; path = p; item = n }) ns

-- the text of a name, and the empty text where its number is that of none
abbrev pub text_of : Numbering → NameId → Text
text_of nb n = get_or nb.names n.0 []

-- the names that declarations bind, by their texts
abbrev pub declared_texts : Numbering → List (Declaration PathId NameId) → List Text
declared_texts nb ds = map (text_of nb) (filter_map (λ d. d.name) ds)

-- no symbol of the module has a name
abbrev pub HasNone : PathId → Given → Type 0
HasNone path given = (n : NameId) → given (record { path = path; name = n }) ≡ None

-- the record after a name is written, unless the symbol had one
abbrev pub written_unless : Option Text → Bool → Text → Path × Text → Record → Record
written_unless None w name item items = written_if w name item items
written_unless (Some x) w name item items = items
