-- What the names of a module stand for by numbers, as the code holds it.
use Rattle.wesl_link_symbols.specs.declared.ids.PathId.{PathId}
use Rattle.wesl_tree_base.specs.declared.ids.NameId.{NameId}
use Rattle.wesl_link_split.specs.SightView.{sight_view}
use Rattle.wesl_link_split.specs.Split as split
use Rattle.wesl_link_split.specs.declared.split.Scope.{Scope}

-- the module that this stands for
abbrev pub scope_view : Scope → split.Scope PathId NameId
scope_view s = sight_view s.sight
