-- What a mangler records as names are given.
use Rattle.std.specs.Prelude.{◌≡◌, Bool, Option}
use Rattle.wesl_tree_names.specs.Path.{Text, Path, path_view}
use Rattle.wesl_tree_names.specs.declared.path.ModulePath.{ModulePath}
use Rattle.wesl_link_symbols.specs.declared.ids.PathId.{PathId}
use Rattle.wesl_tree_base.specs.declared.ids.NameId.{NameId}
use Rattle.wesl_link_symbols.specs.Tables.{Table}
use Rattle.wesl_link_tables.specs.TextsView.{numbering_of_texts as numbering}
use Rattle.wesl_link_tables.specs.declared.texts.NumberTexts.{NumberTexts}
use Rattle.wesl_link_engine.specs.GivenView.{given}
use Rattle.wesl_link_engine.specs.Recorded.{Record, IsRecordedBy, HasNone, declared_texts, firsts, writes_of, written_unless}
use Rattle.wesl_link_engine.specs.declared.given.GivenNames.{GivenNames}

-- the item of the module is recorded under the name that it is given, unless its symbol had a name
abbrev pub RecordsName : Bool → (Path → Text → Text) → ModulePath → Text → Option Text → Record → Record → Type 0
RecordsName writes name_of path item had old new = (x : Text) → new x ≡ written_unless had writes (name_of (path_view path) item) (path_view path, item) old x

-- of a module that has no name yet, each declared name is recorded once, in the order in which they stand first
abbrev pub RecordsTable : Bool → (Path → Text → Text) → ModulePath → NumberTexts → Table PathId NameId → GivenNames → Record → Record → Type 0
RecordsTable writes name_of path numbers t before old new =
    HasNone t.path (given before) → IsRecordedBy writes (writes_of name_of (path_view path) (firsts (declared_texts (numbering numbers) t.declarations))) old new
