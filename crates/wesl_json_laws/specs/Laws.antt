-- Laws of units as texts, as functions of the crate cite them.
use Rattle.std.specs.Prelude.{◌≡◌}
use Rattle.wesl_tree_syntax.specs.Shown.{placed}
use Rattle.wesl_tree_syntax.specs.Unit.{forest_of_unit}
use Rattle.wesl_tree.specs.Translation.{unit_view}
use Rattle.wesl_tree.specs.declared.unit.TranslationUnit.{TranslationUnit}
use Rattle.wesl_json.specs.UnitTexts.{shows_span}
use Rattle.wesl_json_laws.specs.Places.{has_place}

-- a unit that code has shows a span exactly where a node in its trees has a place other than 0..0
abbrev pub SpansArePlaces : Type 0
SpansArePlaces =
    (u : TranslationUnit) → shows_span (placed (unit_view u)) ≡ has_place (forest_of_unit (placed (unit_view u)))
