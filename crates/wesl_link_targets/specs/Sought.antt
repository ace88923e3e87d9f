-- What is looked for among the imports of a name, and which of them are found.
use Rattle.std.specs.Prelude.{Bool, not, ◌&&◌, ◌||◌, ◌==◌, List}
use Rattle.wesl_cond_choices.specs.Places.{is_always, together}
use Rattle.wesl_cond_choices.specs.declared.place.Place.{Place}
use Rattle.wesl_tree_base.specs.declared.ids.NameId.{NameId}
use Rattle.wesl_link_symbols.specs.declared.ids.PathId.{PathId}
use Rattle.wesl_link_symbols.specs.declared.symbols.Import.{Import}
use Rattle.wesl_link_targets.specs.declared.targets.Sought.{Sought}
use Rattle.wesl_link_targets.specs.declared.targets.Sought.TheVariants as sought

-- the import has the item of the module at the path as its target
abbrev pub has_target : PathId → NameId → Import PathId NameId → Bool
has_target path item i = path.0 == i.path.0 && item.0 == i.item.0

-- the import is looked for
abbrev pub is_sought : Sought → Import PathId NameId → Bool
is_sought sought.Published i = i.published
is_sought (sought.Other is_hidden path item) i = not (is_hidden && i.published) && not (has_target path item i)

-- what is placed at `p` is seen from the place `from`: `p` is `Always`, or some choice of flags keeps both
abbrev pub sees : List (List Place) → Place → Place → Bool
sees alive from p = is_always p || together alive from p

-- the import has the name, is looked for, and is seen from the place
abbrev pub is_found : List (List Place) → NameId → Place → Sought → Import PathId NameId → Bool
is_found alive name from s i = name.0 == i.bound.0 && (is_sought s i && sees alive from i.place)
