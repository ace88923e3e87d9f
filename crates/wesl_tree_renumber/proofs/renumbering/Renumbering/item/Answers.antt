use Rattle.wesl_tree_syntax.specs.Tree.{absent, binder, import_item, present, word}
use Rattle.wesl_tree_syntax.specs.View.{item_view}
use Rattle.wesl_tree_renumber.proofs.Parts.{nothing, of_kind, then}
use Rattle.wesl_tree_renumber.proofs.renumbering.Renumbering.item.Goals as goal

pub returns-in-None : goal.returns-in-None
returns-in-None c = rw (c.in-None.is, item_view) (of_kind import_item (then (c.ident.ensures binder) (then (of_kind absent nothing) nothing)))

pub returns-in-Some : goal.returns-in-Some
returns-in-Some c = rw (c.in-Some.is, item_view) (of_kind import_item (then (c.ident.ensures word) (then (of_kind present (then (c.ident-in-Some.ensures binder) nothing)) nothing)))
