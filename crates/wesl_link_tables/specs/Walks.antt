-- What the code has found as it goes over imports.
use Rattle.std.specs.Prelude.{◌≡◌, ◌<◌, ℕ, List, [], ◌++◌, All, length, map, if◌then◌else◌, Bool, Vec}
use Rattle.std.specs.declared.alloc.Global.{Global}
use Rattle.wesl_tree_names.specs.Path.{Path}
use Rattle.wesl_tree_names.specs.declared.names.Ident.{Ident}
use Rattle.wesl_tree_syntax.specs.Tree.{Forest, end, tree, identifiers}
use Rattle.wesl_tree_syntax.specs.View.{import_view as statement_view}
use Rattle.wesl_tree_syntax.specs.declared.import.ImportStatement.{ImportStatement}
use Rattle.wesl_cond_choices.specs.declared.place.Place.{Place}
use Rattle.wesl_link_symbols.specs.declared.ids.PathId.{PathId}
use Rattle.wesl_link_symbols.specs.declared.symbols.Import.{Import}
use Rattle.wesl_link_tables.specs.Base.{IsKnownBase, base_view}
use Rattle.wesl_link_tables.specs.Imports as imports
use Rattle.wesl_link_tables.specs.Numbering.{path_in}
use Rattle.wesl_link_tables.specs.declared.imports.Base.{Base}

-- an import whose target has a number, as these paths tell it
abbrev pub import_view : List Path → Import PathId Ident → Import Path ℕ
import_view paths i = record { bound = i.bound.0; path = path_in paths i.path; item = i.item.0; published = i.published; place = i.place; from = i.from; order = i.order }

-- the imports that the code has found
abbrev pub imports_of : List Path → Vec (Import PathId Ident) Global → List (Import Path ℕ)
imports_of paths found = map (import_view paths) found.items

-- the number of the target of each import is that of a path
abbrev pub HavePaths : List Path → List (Import PathId Ident) → Type 0
HavePaths paths is = All (λ (i : Import PathId Ident). i.path.0 < length paths) is

-- the same of the imports that the code has found
abbrev pub AreKnown : List Path → Vec (Import PathId Ident) Global → Type 0
AreKnown paths found = HavePaths paths found.items

-- the imports of this content, after those found before
abbrev pub imported : Place → Bool → imports.Base → List (Import Path ℕ) → Forest → List (Import Path ℕ)
imported stands published base found end = found
imported stands published base found (tree l children others) =
    imported stands published base
    (if imports.is_item l then found ++ imports.item_imports stands published base (identifiers children)
    else if imports.is_entry l then imported stands published (imports.entered base (imports.first_label [] imports.label_texts children)) found children
    else imported stands published base found children) others

-- what was found has by the later paths the imports of this content, after those found before by the paths of then
abbrev pub HasImported : List Path → List Path → Place → Bool → Base → Forest → Vec (Import PathId Ident) Global → Vec (Import PathId Ident) Global → Type 0
HasImported before after stands published base content old new = imports_of after new ≡ imported stands published (base_view before base) (imports_of before old) content

-- the same by any paths that stay
abbrev pub HasItem : Place → Bool → Base → Forest → Vec (Import PathId Ident) Global → Vec (Import PathId Ident) Global → Type 0
HasItem stands published base content old new = (paths : List Path) → HasImported paths paths stands published base content old new

-- the targets have numbers of paths where they had before, and the part of the statement has one
abbrev pub KeepsKnown : Base → Vec (Import PathId Ident) Global → Vec (Import PathId Ident) Global → Type 0
KeepsKnown base old new = (paths : List Path) → IsKnownBase paths base → AreKnown paths old → AreKnown paths new

-- the imports of a statement of the module at this path
abbrev pub statement_imports : Path → Place → ImportStatement → List (Import Path ℕ)
statement_imports own stands statement = imports.statement_imports own stands (statement_view statement).children
