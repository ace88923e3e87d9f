-- A unit with the parentheses that a text needs.
use Rattle.std.specs.Prelude.{true, false, if◌then◌else◌}
use Rattle.wesl_tree_names.specs.Path.{Text}
use Rattle.wesl_tree_syntax.specs.Unit.{UnitOf}
use Rattle.wesl_text_form.specs.Says.{IsWritable}
use Rattle.wesl_text_guard.specs.Units.{unit_with_parentheses}

-- A unit that a text says stays as it is. In another one each operand gets parentheses that its operation does not take without. Where
-- the text would still be read otherwise, each operation with a `<` or `>` in it gets them too that is an operand, an index, a
-- selector, or stands in a list.
abbrev pub guarded : UnitOf Text → UnitOf Text
guarded u =
    if IsWritable u then u
    else if IsWritable (unit_with_parentheses false u) then unit_with_parentheses false u
    else unit_with_parentheses true u
