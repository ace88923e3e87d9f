-- What a table keeps beside the module: its indexes, and where a name of it may have several targets its declarations and imports in rows.
use Rattle.std.specs.Prelude.{ℕ, Option, IfSome, List}
use Rattle.wesl_cond_choices.specs.declared.place.Place.{Place}
use Rattle.wesl_tree_base.specs.declared.ids.NameId.{NameId}
use Rattle.wesl_link_symbols.specs.declared.ids.PathId.{PathId}
use Rattle.wesl_link_symbols.specs.declared.row.Rows.{Rows}
use Rattle.wesl_link_symbols.specs.Index.{IsIndexed}
use Rattle.wesl_link_symbols.specs.RowView.{AreRows}
use Rattle.wesl_link_symbols.specs.Tables.{Import, Declaration}

-- the indexes and the rows are those of these imports and declarations
pub record IsKept (alive : List (List Place)) (path : PathId) (imports : List (Import PathId NameId)) (declarations : List (Declaration PathId NameId))
    (latest : List (Option NameId × ℕ)) (earlier : List (Option ℕ)) (latest_import : List (NameId × ℕ)) (earlier_import : List (Option ℕ)) (held : Option Rows) : Type 0 where
  pub indexed : IsIndexed imports declarations latest earlier latest_import earlier_import
  pub rows : IfSome held (λ r. AreRows alive path imports declarations r)
