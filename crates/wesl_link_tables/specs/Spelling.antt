-- Imports under other names.
use Rattle.std.specs.Prelude.{List, map}
use Rattle.wesl_tree_names.specs.Path.{Text, Path, path_view}
use Rattle.wesl_tree_names.specs.declared.names.Ident.{Ident}
use Rattle.wesl_tree_names.specs.declared.path.ModulePath.{ModulePath}
use Rattle.wesl_tree_syntax.specs.Unit.{name_in, spelled}
use Rattle.wesl_tree.specs.Translation.{unit_view}
use Rattle.wesl_tree.specs.declared.unit.TranslationUnit.{TranslationUnit}
use Rattle.wesl_link_symbols.specs.declared.ids.PathId.{PathId}
use Rattle.wesl_link_symbols.specs.declared.symbols.Import.{Import}
use Rattle.wesl_link_tables.specs.Imports.{imports}
use Rattle.wesl_link_tables.specs.Walks.{import_view}

-- an import under other names: the name that it binds and its item are replaced, and its path stays
abbrev pub respell_import : {I J : Type 0} → (I → J) → Import Path I → Import Path J
respell_import f i = record { bound = f i.bound; path = i.path; item = f i.item; published = i.published; place = i.place; from = i.from; order = i.order }

-- an import of the code, spelled by a list of paths and a table of names
abbrev pub spelled_import : List Path → List Text → Import PathId Ident → Import Path Text
spelled_import paths names i = respell_import (name_in names) (import_view paths i)

-- imports of the code, spelled by a list of paths and a table of names
abbrev pub spelled_imports : List Path → List Text → List (Import PathId Ident) → List (Import Path Text)
spelled_imports paths names is = map (spelled_import paths names) is

-- imports as these paths and the names of the unit spell them
abbrev pub spelled_in : List Path → TranslationUnit → List (Import PathId Ident) → List (Import Path Text)
spelled_in paths unit is = spelled_imports paths (unit_view unit).names is

-- the imports that a unit has as the module at this path
abbrev pub imports_at : ModulePath → TranslationUnit → List (Import Path Text)
imports_at path unit = imports (path_view path) (spelled (unit_view unit))
