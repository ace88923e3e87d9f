-- The tokens that must stand say the tree, and the unit.
use Rattle.std.proofs.Common.{true, refl, sym as turned, ap, ◌∙◌}
use Rattle.wesl_tree_syntax.specs.Tree.{end, tree}
use Rattle.wesl_tree_syntax.specs.Unit.{forest_of_unit}
use Rattle.wesl_text_form.specs.Spelling.{slots_as, unit_row}
use Rattle.wesl_text_writable.specs.Laws.{FewestSayTrees, FewestSay}
use Rattle.wesl_text_writable.proofs.Clear.{are_clear, clear_any, clear_filled}
use Rattle.wesl_text_writable.proofs.ClearTrees.{rows_are_clear, nodes_are_clear}

pub fewest_say_trees : FewestSayTrees
fewest_say_trees s t ss h = clear_filled ss (ap (are_clear true) (turned h) ∙ clear_any (slots_as s t) true (nodes_are_clear (tree t.label t.children end) s))

pub fewest_say : FewestSay
fewest_say u ss h = (ss, h, clear_filled ss (ap (are_clear true) (turned h) ∙ rows_are_clear (forest_of_unit u) unit_row true refl))
