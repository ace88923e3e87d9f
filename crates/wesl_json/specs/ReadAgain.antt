-- What is read of the value that a unit was written as.
use Rattle.std.specs.Prelude.{◌≡◌, Bool}
use Rattle.serde_json.specs.Data.{Data}
use Rattle.wesl_tree_names.specs.Path.{Text}
use Rattle.wesl_tree_syntax.specs.Unit.{UnitOf, spelled}
use Rattle.wesl_tree.specs.Translation.{unit_view}
use Rattle.wesl_tree.specs.declared.unit.TranslationUnit.{TranslationUnit}
use Rattle.wesl_json_form.specs.Units.{shown_unit, written_as}
use Rattle.wesl_resolve_base.specs.UnitText.{HasTextPaths}

-- what holds of what a form shows of each unit that is written as the value in that form, where each path in the unit has
-- a text that says the same path or none
abbrev pub OfWritten : Data → (UnitOf Text → Type 0) → Type 0
OfWritten d P = (spans : Bool) (u : TranslationUnit) → d ≡ written_as spans (unit_view u) → HasTextPaths (spelled (unit_view u)) → P (shown_unit spans (unit_view u))
