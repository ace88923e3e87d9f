-- The indexes of a module, as the code keeps them while it makes them.
use Rattle.std.specs.Prelude.{◌≡◌, List, []}
use Rattle.wesl_link_symbols.specs.declared.ids.PathId.{PathId}
use Rattle.wesl_tree_base.specs.declared.ids.NameId.{NameId}
use Rattle.wesl_link_symbols.specs.declared.table.Indexed.{Indexed}
use Rattle.wesl_link_symbols.specs.Index.{IsIndexed}
use Rattle.wesl_link_symbols.specs.Tables.{Import, Declaration}

-- nothing is indexed
pub record IsBlank (x : Indexed) : Type 0 where
  pub latest : x.latest.entries ≡ []
  pub earlier : x.earlier.items ≡ []
  pub latest_import : x.latest_import.entries ≡ []
  pub earlier_import : x.earlier_import.items ≡ []

-- the indexes are those of these imports and declarations
abbrev pub AreIndexes : List (Import PathId NameId) → List (Declaration PathId NameId) → Indexed → Type 0
AreIndexes imports declarations x = IsIndexed imports declarations x.latest.entries x.earlier.items x.latest_import.entries x.earlier_import.items
