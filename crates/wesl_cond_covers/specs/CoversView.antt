-- Levels of unions of the sets of places in a row, as the code holds them.
use Rattle.std.specs.Prelude.{List}
use Rattle.wesl_cond_choices.specs.declared.place.Place.{Place}
use Rattle.wesl_cond_covers.specs.declared.covers.Covers.{Covers}
use Rattle.wesl_cond_covers.specs.LevelView.{AreLevelsOf}

-- the unions are those of these places
abbrev pub AreCoversOf : List (List Place) → List Place → Covers → Type 0
AreCoversOf alive places covers = AreLevelsOf alive places covers.levels.items
