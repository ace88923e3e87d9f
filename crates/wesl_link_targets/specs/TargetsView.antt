-- Imports by their targets, as the code holds them.
use Rattle.std.specs.Prelude.{List}
use Rattle.wesl_cond_choices.specs.declared.place.Place.{Place}
use Rattle.wesl_tree_base.specs.declared.ids.NameId.{NameId}
use Rattle.wesl_link_symbols.specs.declared.ids.PathId.{PathId}
use Rattle.wesl_link_symbols.specs.declared.symbols.Import.{Import}
use Rattle.wesl_link_symbols.specs.RowView.{IsRowOf}
use Rattle.wesl_link_targets.specs.declared.targets.Targets.{Targets}

-- they are these imports in some order, with the unions of the choices that keep them
abbrev pub AreTargetsOf : List (List Place) → List (Import PathId NameId) → Targets → Type 0
AreTargetsOf alive imports t = IsRowOf alive imports t.row
