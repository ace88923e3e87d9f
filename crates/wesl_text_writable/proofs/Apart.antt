-- The tokens of a text that says a tree may stand apart.
use Rattle.std.proofs.Common.{true, refl, sym as turned, ap, ◌∙◌}
use Rattle.wesl_tree_syntax.specs.Tree.{end, tree}
use Rattle.wesl_tree_syntax.specs.Unit.{forest_of_unit}
use Rattle.wesl_text_form.specs.Spelling.{slots_as, unit_row}
use Rattle.wesl_text_writable.specs.Laws.{TreesStandApart, UnitsStandApart}
use Rattle.wesl_text_writable.proofs.Clear.{are_clear, clear_any}
use Rattle.wesl_text_writable.proofs.ClearTrees.{rows_are_clear, nodes_are_clear}
use Rattle.wesl_text_writable.proofs.Quiet.{filled_quiet}
use Rattle.wesl_text_writable.proofs.MadeApart.{text_meant, meant_apart}

pub trees_stand_apart : TreesStandApart
trees_stand_apart s u t ts h says =
    meant_apart ts (text_meant t ts h (filled_quiet says.0 ts (ap (are_clear true) (turned says.1) ∙ clear_any (slots_as s u) true (nodes_are_clear (tree u.label u.children end) s)) says.2))

pub units_stand_apart : UnitsStandApart
units_stand_apart u t ts h says = meant_apart ts (text_meant t ts h (filled_quiet says.0 ts (ap (are_clear true) (turned says.1) ∙ rows_are_clear (forest_of_unit u) unit_row true refl) says.2))
