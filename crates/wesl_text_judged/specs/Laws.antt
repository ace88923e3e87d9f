-- What is promised of what features leave of a unit.
use Rattle.std.specs.Prelude.{◌≡◌, ◌↔◌, true}
use Rattle.wesl_tree_names.specs.Path.{Text}
use Rattle.wesl_tree_syntax.specs.Unit.{UnitOf, UnitView, forest_of_unit, spelled, trees_of}
use Rattle.wesl_text_form.specs.Says.{IsWritable}
use Rattle.wesl_cond_features.specs.Features.{Replies, known, by_number}
use Rattle.wesl_cond_chains.specs.Laws.{IsFaultless}
use Rattle.wesl_cond_chains.specs.Residual.{residual_unit}
use Rattle.wesl_cond_unit.specs.Left.{left_of}
use Rattle.wesl_text_judged.specs.Within.{all_end_within, all_bare_within}

-- What answers leave of a writable unit in which no fault stands is writable exactly where each statement that assigns which is
-- left, at any depth, has attributes that end before its target.
abbrev pub LeftUnits : Type 0
LeftUnits =
    (reply : Replies Text) (u : UnitOf Text) → IsWritable u ≡ true → IsFaultless reply u
    → let v : UnitOf Text = residual_unit (known reply) u in (IsWritable v ≡ true) ↔ (all_end_within (forest_of_unit v) ≡ true)

-- So it is where no statement that assigns has attributes left.
abbrev pub BareUnits : Type 0
BareUnits =
    (reply : Replies Text) (u : UnitOf Text) → IsWritable u ≡ true → IsFaultless reply u
    → let v : UnitOf Text = residual_unit (known reply) u in all_bare_within (forest_of_unit v) ≡ true → IsWritable v ≡ true

-- The same of a unit by its spelling, where identifiers are numbers: of what `run` leaves of it.
abbrev pub LeftViews : Type 0
LeftViews =
    (reply : Replies Text) (u : UnitView) → IsWritable (spelled u) ≡ true → IsFaultless (by_number u.names reply) (trees_of u)
    → let v : UnitOf Text = spelled (left_of reply u) in (IsWritable v ≡ true) ↔ (all_end_within (forest_of_unit v) ≡ true)
